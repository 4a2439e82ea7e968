-- An array or a lent slice whose first n entries are written and whose others are kept: `front ++ drop n old`.
use Prim.Native.Nat.{ℕ, suc, ◌+◌, ◌-◌, ◌≤◌, ◌<◌}
use native.Mathlib.Numerals.{add-one}
use native.Mathlib.Omega.{arith}
use mathlib.Core.Path.{◌≡◌, sym, ◌∙◌}
use mathlib.Core.List.{List, ◌++◌, append_assoc}
use lib.ListN.{length, get_or, take, drop, set}
use lib.Seq.{length-take-le, length_front, get_or-append-add, get_or-drop, take-suc, drop-cons, set_at}

module _ {A : Type 0} (front old : List A) (n : ℕ) (size : length front ≡ n) where
  pub length_kept : n ≤ length old → length (front ++ drop n old) ≡ length old
  length_kept long = length_front old front n (size ∙ sym (length-take-le n old long))

  pub later_kept : (d : A) (e : ℕ) → n ≤ e → get_or (front ++ drop n old) e d ≡ get_or old e d
  later_kept d e later =
      let at : n + (e - n) ≡ e = omega arith in
      rw (← at, ← size, get_or-append-add, get_or-drop)

-- a loop that writes it from another list, one entry a turn
pub front_step : {A : Type 0} (d : A) (from old : List A) (i : ℕ) → i < length from → i < length old →
    set (take i from ++ drop i old) i (get_or from i d) ≡ take (i + 1) from ++ drop (i + 1) old
front_step d from old i more room =
    rw (
      drop-cons old i d room,
      set_at (take i from) (get_or old i d) (drop (suc i) old) (get_or from i d) i (length-take-le i from (omega arith)),
      add-one i,
      take-suc from i d more,
      append_assoc,
    )
