-- Lines each of which has a line feed as its last byte and no other: put together, they are cut into the same lines again.
use Prim.Native.Nat.{ℕ}
use mathlib.Core.Path.{◌≡◌, refl, sym, ap, ap₂, ◌∙◌}
use mathlib.Core.Bool.{Bool, true, ◌&&◌, not, and-eq-true_iff}
use mathlib.Core.List.{List, [], ◌∷◌, ◌++◌, flatten, append_assoc}
use lib.Dec.{eqb}
use borrow.Author.Tests.{not-true}
use Rattle.arrays.specs.Each.{All}
use Rattle.arrays.specs.Text.{line_feed}
use Rattle.sheet.specs.Line.{joined, lines_of}

-- no byte is a line feed
unfoldable pub unbroken : List ℕ → Bool
unbroken [] = true
unbroken (b ∷ bs) = not (eqb b line_feed) && unbroken bs

pub unbroken-append : (xs ys : List ℕ) → unbroken xs ≡ true → unbroken ys ≡ true → unbroken (xs ++ ys) ≡ true
unfolding unbroken
unbroken-append [] ys x y = y
unbroken-append (b ∷ bs) ys x y =
    let both = (and-eq-true_iff (not (eqb b line_feed)) (unbroken bs)).0 x in
    (and-eq-true_iff (not (eqb b line_feed)) (unbroken (bs ++ ys))).1 (both.0, unbroken-append bs ys both.1 y)

-- a line: no line feed but its last byte
pub record OneLine (line : List ℕ) : Type 0 where
  pub body : List ℕ
  pub inside : unbroken body ≡ true
  pub ended : line ≡ body ++ (line_feed ∷ [])

-- such a line is cut off as one
lines_body : (body rest : List ℕ) → unbroken body ≡ true →
    lines_of (body ++ (line_feed ∷ rest)) ≡ (body ++ (line_feed ∷ [])) ∷ lines_of rest
unfolding unbroken
lines_body [] rest inside = refl
lines_body (b ∷ bs) rest inside =
    let both = (and-eq-true_iff (not (eqb b line_feed)) (unbroken bs)).0 inside in
    rw (not-true (eqb b line_feed) both.0) (ap (joined b) (lines_body bs rest both.1))

pub lines_flatten : (lines : List (List ℕ)) → All OneLine lines → lines_of (flatten lines) ≡ lines
unfolding flatten
lines_flatten [] all = refl
lines_flatten (l ∷ ls) all =
    let one = all.0 in
    ap (λ (x : List ℕ). lines_of (x ++ flatten ls)) one.ended
    ∙ ap lines_of (append_assoc one.body (line_feed ∷ []) (flatten ls))
    ∙ lines_body one.body (flatten ls) one.inside
    ∙ ap₂ ◌∷◌ (sym one.ended) (lines_flatten ls all.1)
