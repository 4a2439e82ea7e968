-- The lines of a sheet are its bytes in their order, cut after each line feed and nowhere else.
use Prim.Native.Nat.{ℕ, zero, suc}
use native.Mathlib.Decide.{ℕ_discrete}
use native.Mathlib.Omega.{arith}
use mathlib.Core.Path.{◌≡◌, refl, sym, ap, subst, ◌∙◌}
use mathlib.Core.List.{List, [], ◌∷◌, flatten}
use Rattle.arrays.specs.Text.{line_feed}
use Rattle.sheet.specs.Line.{joined, lines_of, NoneEmpty, Unbroken, Ended, AreLines}
use Rattle.sheet.proofs.Lines.{lines_feed, lines_other}

-- a line feed in front is a line
module _ (b : ℕ) (lines : List (List ℕ)) where
  feed_some : NoneEmpty lines → NoneEmpty ((b ∷ []) ∷ lines)
  feed_some h zero l = omega arith
  feed_some h (suc i) l = h i (omega arith)

  feed_inside : Unbroken lines → Unbroken ((b ∷ []) ∷ lines)
  feed_inside h zero k l = absurd (omega arith)
  feed_inside h (suc i) k l = h i k l

  feed_ended : b ≡ line_feed → Ended lines → Ended ((b ∷ []) ∷ lines)
  feed_ended e h zero zero l f = e
  feed_ended e h zero (suc k) l f = absurd (omega arith)
  feed_ended e h (suc i) k l f = h i k (omega arith) f

-- any other byte stands before the first line
module _ (b : ℕ) where
  other_some : (lines : List (List ℕ)) → NoneEmpty lines → NoneEmpty (joined b lines)
  other_some [] h zero l = omega arith
  other_some [] h (suc i) l = absurd (omega arith)
  other_some (line ∷ lines) h zero l = omega arith
  other_some (line ∷ lines) h (suc i) l = h (suc i) l

  other_inside : (lines : List (List ℕ)) → (b ≡ line_feed → ⊥) → Unbroken lines → Unbroken (joined b lines)
  other_inside [] n h zero k l = absurd (omega arith)
  other_inside [] n h (suc i) k l = absurd (omega arith)
  other_inside (line ∷ lines) n h zero zero l = n
  other_inside (line ∷ lines) n h zero (suc k) l = h 0 k (omega arith)
  other_inside (line ∷ lines) n h (suc i) k l = h (suc i) k l

  other_ended : (lines : List (List ℕ)) → NoneEmpty lines → Ended lines → Ended (joined b lines)
  other_ended [] some h i k l f = absurd (omega arith)
  other_ended (line ∷ lines) some h zero zero l f = absurd (omega (arith, some 0 (omega arith)))
  other_ended (line ∷ lines) some h zero (suc k) l f = h 0 k l (omega arith)
  other_ended (line ∷ lines) some h (suc i) k l f = h (suc i) k l f

  other_whole : (lines : List (List ℕ)) → flatten (joined b lines) ≡ b ∷ flatten lines
  unfolding flatten
  other_whole [] = refl
  other_whole (line ∷ lines) = refl

pub are_lines : (sheet : List ℕ) → AreLines sheet (lines_of sheet)
unfolding flatten
are_lines [] =
    record {
      whole = refl;
      some = λ i l. absurd (omega arith);
      inside = λ i k l. absurd (omega arith);
      ended = λ i k l. absurd (omega arith);
    }
are_lines (b ∷ bs) =
    let h = are_lines bs in
    elim (ℕ_discrete b line_feed) [
      | yes e ↦
          subst (AreLines (b ∷ bs)) (sym (lines_feed b bs e))
          record {
            whole = ap (λ (s : List ℕ). b ∷ s) h.whole;
            some = feed_some b (lines_of bs) h.some;
            inside = feed_inside b (lines_of bs) h.inside;
            ended = feed_ended b (lines_of bs) e h.ended;
          }
      | no n ↦
          subst (AreLines (b ∷ bs)) (sym (lines_other b bs n))
          record {
            whole = other_whole b (lines_of bs) ∙ ap (λ (s : List ℕ). b ∷ s) h.whole;
            some = other_some b (lines_of bs) h.some;
            inside = other_inside b (lines_of bs) n h.inside;
            ended = other_ended b (lines_of bs) h.some h.ended;
          }
    ]
