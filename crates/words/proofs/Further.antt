-- Taking a piece of the input gets further in it, so that its lines come to an end.
use Prim.Native.Nat.{ℕ, suc, ◌+◌, ◌-◌, ◌<◌}
use native.Mathlib.Omega.{arith}
use mathlib.Core.Path.{◌≡◌, ap}
use mathlib.Core.Bool.{Bool, true, false, cond}
use mathlib.Core.List.{List, [], ◌∷◌}
use lib.ListN.{length, drop, length-drop}
use lib.Dec.{eqb}
use Rattle.arrays.specs.Text.{line_feed}
use Rattle.words.specs.declared.line.Line.{Line}
use Rattle.words.specs.declared.line.Extension.{Extension}
use Rattle.words.specs.Line.{before_feed, has_feed, extended_by}

-- a rest that has bytes has some before its line feed, or the line feed
module _ (from : ℕ) where
  further_by : (begun ended : Bool) (b : ℕ) (bs : List ℕ) →
      from
      < cond (cond begun true ended) (suc (from + length (cond begun [] (b ∷ bs)))) (from + length (cond begun [] (b ∷ bs)))
  further_by true ended b bs = omega arith
  further_by false true b bs = omega arith
  further_by false false b bs = omega arith

  further_rest : (rest : List ℕ) → 0 < length rest →
      from < cond (has_feed rest) (suc (from + length (before_feed rest))) (from + length (before_feed rest))
  unfolding has_feed before_feed
  further_rest [] some = absurd (omega arith)
  further_rest (b ∷ bs) some = further_by (eqb b line_feed) (has_feed bs) b (before_feed bs)

further : (line : Line) (piece : List ℕ) (from : ℕ) → from < length piece → from < (extended_by line piece from).next
unfolding extended_by
further line piece from within =
    further_rest from (drop from piece) (omega (arith, within, length-drop from piece))

pub less_left : (line : Line) (piece : List ℕ) (from : ℕ) {e : Extension} → e ≡ extended_by line piece from → from < length piece →
    length piece - e.next < length piece - from
less_left line piece from is within =
    omega (arith, ap (λ (x : Extension). x.next) is, further line piece from within, within)
