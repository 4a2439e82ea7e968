-- A job that is not ready before the close: a choice that meets the rule gives it no version that needs minutes.
use Prim.Native.Nat.{ℕ, ◌≤◌}
use native.Mathlib.Omega.{arith}
use mathlib.Core.Path.{◌≡◌, refl}
use mathlib.Core.Bool.{true, and-eq-true_iff}
use mathlib.Core.List.{List, ◌∷◌}
use Rattle.std.specs.Prelude.{Option, Some, None, unwrap_or}
use Rattle.jobs.specs.declared.model.Job.{Job}
use Rattle.jobs.specs.Model.{version_of, minutes_of}
use Rattle.jobs.specs.Rule.{meets}
use Rattle.jobs.proofs.Rules.{fits_read}

pub late_version : (j : Job) (js : List Job) (x k : ℕ) (ks : List ℕ) → x ≤ j.ready → meets (j ∷ js) x (k ∷ ks) ≡ true →
    minutes_of (version_of j k) ≡ 0
late_version j js x k ks late meeting = by_minutes (version_of j k).minutes refl
  where
    by_minutes : (o : Option ℕ) → (version_of j k).minutes ≡ o → unwrap_or o 0 ≡ 0
    by_minutes (Some m) r = omega (arith, fits_read j (version_of j k) x ((and-eq-true_iff _ _).0 meeting).0 r)
    by_minutes None r = refl
