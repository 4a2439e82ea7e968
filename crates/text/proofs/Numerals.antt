-- A number in decimal is a numeral of it.
use Prim.Native.Nat.{ℕ, zero, suc, ◌+◌, ◌-◌, ◌*◌, ◌/◌, ◌%◌, ◌≤◌, ◌<◌}
use native.Mathlib.Nat.{mod-lt, mod-eq_of_lt, div-add-mod', le-div_iff_mul-le}
use native.Mathlib.Decide.{dec_lt}
use native.Mathlib.Omega.{arith}
use mathlib.Core.Path.{◌≡◌, refl, sym, ◌∙◌}
use mathlib.Core.List.{List, [], ◌∷◌, ◌++◌}
use lib.ListN.{length, get_or, length-append, get_or-append}
use lib.Seq.{get_or-append_seam}
use Rattle.text.specs.Decimal.{digit, decimal, value_after, Numeral}
use Rattle.text.proofs.Decimals.{last, fewer, decimal_one, decimal_more}

-- one digit more
value_more : (a : ℕ) (ds : List ℕ) (d : ℕ) → value_after a (ds ++ (d ∷ [])) ≡ value_after a ds * 10 + (d - digit 0)
value_more a [] d = refl
value_more a (e ∷ ds) d = value_more (a * 10 + (e - digit 0)) ds d

-- a numeral, and that one of a number above 0 starts with no 0
record Lean (n : ℕ) (text : List ℕ) : Type 0 where
  numeral : Numeral n text
  first : 1 ≤ n → get_or text 0 0 ≡ digit 0 → ⊥

lean_one : (n : ℕ) → n < 10 → Lean n (last n)
lean_one n one =
    let same = mod-eq_of_lt one in
    record {
      numeral =
          record {
            some = omega arith;
            digits = λ i within. let here : i ≡ 0 = omega arith in rw here (omega arith, omega arith);
            value = omega arith;
            leads = λ more. absurd (omega arith);
          };
      first = λ above zeros. omega arith;
    }

module _ (n : ℕ) (more : 10 ≤ n) {text : List ℕ} (h : Lean (n / 10) text) where
  abbrev whole : List ℕ
  whole = text ++ last n

  low : n % 10 < 10
  low = mod-lt n (omega arith)

  tenth : 1 ≤ n / 10
  tenth = (le-div_iff_mul-le {k = 10} (omega arith)).1 (omega arith)

  digit_at : (i : ℕ) → i < length whole → (digit 0 ≤ get_or whole i 0) × (get_or whole i 0 ≤ digit 9)
  digit_at i within =
      elim (dec_lt i (length text)) [
        | yes l ↦ rw (get_or-append text (last n) 0 i l) (h.numeral.digits i l)
        | no m ↦
            let seam : i ≡ length text = omega (arith, length-append text (last n)) in
            rw (seam, get_or-append_seam text (digit (n % 10)) [] 0) (omega (arith, low), omega (arith, low))
      ]

  first_more : get_or whole 0 0 ≡ digit 0 → ⊥
  first_more e = h.first tenth (sym (get_or-append text (last n) 0 0 h.numeral.some) ∙ e)

  lean_more : Lean n whole
  lean_more =
      record {
        numeral =
            record {
              some = omega (arith, length-append text (last n));
              digits = digit_at;
              value =
                  value_more 0 text (digit (n % 10)) ∙ rw h.numeral.value (omega (arith, div-add-mod' n 10));
              leads = λ several. first_more;
            };
        first = λ above. first_more;
      }

lean : (k n : ℕ) → n < k → Lean n (decimal n)
lean zero n below = absurd (omega arith)
lean (suc k) n below =
    elim (dec_lt n 10) [
      | yes one ↦ rw (decimal_one n one) (lean_one n one)
      | no m ↦
          let more : 10 ≤ n = omega arith in
          let less = fewer n more in
          rw (decimal_more n more) (lean_more n more (lean k (n / 10) (omega arith)))
    ]

pub numeral : (n : ℕ) → Numeral n (decimal n)
numeral n = (lean (suc n) n (omega arith)).numeral
