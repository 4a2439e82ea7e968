-- A best choice as it is answered: where none exists, and where one does.
use Prim.Native.Nat.{ℕ}
use mathlib.Core.Path.{◌≡◌, refl}
use mathlib.Core.List.{List}
use mathlib.Core.Option as math
use mathlib.Core.Option.{none, some}
use Rattle.std.proofs.Common.{Some, None}
use Rattle.arrays.specs.Made.{placed}
use Rattle.jobs.specs.Model.{max_jobs}
use Rattle.select.specs.Contract.{best_choice}

-- an answer that none exists is that of no choice
pub choice_none : (o : math.Option (List ℕ)) → None ≡ best_choice o → o ≡ none
choice_none none absent = refl
choice_none (some ks) absent = cc

-- an answer that one exists has that choice in list order
pub choice_some : (o : math.Option (List ℕ)) {choice : List ℕ} → Some choice ≡ best_choice o →
    (ks : List ℕ) × (o ≡ some ks) × (choice ≡ placed max_jobs 0 ks)
choice_some none present = cc
choice_some (some ks) present = (ks, refl, cc)
