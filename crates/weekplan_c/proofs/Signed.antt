-- Numbers with a sign: minus a number.
use Prim.Native.Nat.{ℕ, zero, suc, ◌<◌}
use native.Mathlib.Omega.{arith}
use mathlib.Core.Path.{◌≡◌, refl, sym, ap, ◌∙◌}
use lib.IntN.{ℤ, pos, nat_abs, ◌-ℤ◌, +ℤ_idl, pos-ne-negsuc}
use mir.Syntax.{w32}
use mir.Val.{to_z, SFits}
use mir.Facts.{to_z_pos}
use Rattle.weekplan_c.specs.Call.{minus_of}

-- minus a number tells the number
magnitude : (n : ℕ) → nat_abs (minus_of n) ≡ n
magnitude zero = refl
magnitude (suc n) = refl

pub minus_injective : {m n : ℕ} → minus_of m ≡ minus_of n → m ≡ n
minus_injective {m} {n} e = sym (magnitude m) ∙ ap nat_abs e ∙ magnitude n

-- minus a number that is not 0 is no total
pub not_minus : (n : ℕ) → (n ≡ 0 → ⊥) → {sum : ℕ} → minus_of n ≡ pos sum → ⊥
not_minus zero other e = other refl
not_minus (suc n) other {sum} e = pos-ne-negsuc sum n (sym e)
