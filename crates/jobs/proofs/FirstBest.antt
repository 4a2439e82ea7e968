-- The first best of a list of choices, for any test and any value: of two lists joined, and of a list that is mapped.
use Prim.Native.Nat.{ℕ, ◌≤◌, ◌<◌}
use native.Mathlib.Omega.{arith}
use mathlib.Core.Path.{◌≡◌, refl, sym, ap, ◌∙◌}
use mathlib.Core.Bool.{Bool, true, false, cond}
use mathlib.Core.List.{List, [], ◌∷◌, ◌++◌, map}
use mathlib.Core.Option
use mathlib.Core.Option.{Option, none, some}
use lib.Dec.{ltb}
use borrow.Author.Tests.{ltb-true, ltb-false, lt-ltb, le-ltb}
use Rattle.jobs.specs.Best.{greater, passing, first_best}

module _ (v : List ℕ → ℕ) where
  pub greater_none : (a : Option (List ℕ)) → greater v a none ≡ a
  greater_none none = refl
  greater_none (some a) = refl

  assoc_some : (a b c : List ℕ) (p q : Bool) → ltb (v a) (v b) ≡ p → ltb (v b) (v c) ≡ q →
      greater v (cond p (some b) (some a)) (some c) ≡ greater v (some a) (cond q (some c) (some b))
  assoc_some a b c true true hp hq =
      let ab : v a < v b = ltb-true _ _ hp in
      let bc : v b < v c = ltb-true _ _ hq in
      rw (hq, lt-ltb (v a) (v c) (omega arith))
  assoc_some a b c true false hp hq = rw (hp, hq)
  assoc_some a b c false true hp hq = refl
  assoc_some a b c false false hp hq =
      let ba : v b ≤ v a = ltb-false _ _ hp in
      let cb : v c ≤ v b = ltb-false _ _ hq in
      rw (hp, le-ltb (v a) (v c) (omega arith))

  -- keeping the first unless the second is greater is associative
  greater_assoc : (a b c : Option (List ℕ)) → greater v (greater v a b) c ≡ greater v a (greater v b c)
  greater_assoc none b c = refl
  greater_assoc (some a) none c = refl
  greater_assoc (some a) (some b) none = greater_none (greater v (some a) (some b))
  greater_assoc (some a) (some b) (some c) = assoc_some a b c (ltb (v a) (v b)) (ltb (v b) (v c)) refl refl

-- the first best of two lists joined is the greater of the first bests of the two
pub first_best-append : (p : List ℕ → Bool) (v : List ℕ → ℕ) (xs ys : List (List ℕ)) →
    first_best p v (xs ++ ys) ≡ greater v (first_best p v xs) (first_best p v ys)
first_best-append p v [] ys = refl
first_best-append p v (c ∷ cs) ys =
    ap (greater v (passing p c)) (first_best-append p v cs ys)
    ∙ sym (greater_assoc v (passing p c) (first_best p v cs) (first_best p v ys))

map_cond : (f : List ℕ → List ℕ) (q : Bool) (a b : Option (List ℕ)) →
    Option.map f (cond q a b) ≡ cond q (Option.map f a) (Option.map f b)
map_cond f true a b = refl
map_cond f false a b = refl

-- a map that keeps the test and the order of the values maps the first best
module _
    (p p' : List ℕ → Bool) (v v' : List ℕ → ℕ) (f : List ℕ → List ℕ)
    (same_test : (c : List ℕ) → p' (f c) ≡ p c)
    (same_order : (a b : List ℕ) → ltb (v' (f a)) (v' (f b)) ≡ ltb (v a) (v b))
  where
    map_greater : (a b : Option (List ℕ)) → greater v' (Option.map f a) (Option.map f b) ≡ Option.map f (greater v a b)
    map_greater none b = refl
    map_greater (some a) none = refl
    map_greater (some a) (some b) = rw (same_order a b) (sym (map_cond f (ltb (v a) (v b)) (some b) (some a)))

    pub first_best-map : (cs : List (List ℕ)) → first_best p' v' (map f cs) ≡ Option.map f (first_best p v cs)
    first_best-map [] = refl
    first_best-map (c ∷ cs) =
        rw (same_test c, first_best-map cs, ← map_cond f (p c) (some c) none) (map_greater (passing p c) (first_best p v cs))

-- where the map leaves none that passes the test, there is no best
pub first_best_none : (p : List ℕ → Bool) (v : List ℕ → ℕ) (f : List ℕ → List ℕ) → ((c : List ℕ) → p (f c) ≡ false) →
    (cs : List (List ℕ)) → first_best p v (map f cs) ≡ none
first_best_none p v f fails [] = refl
first_best_none p v f fails (c ∷ cs) = rw (fails c) (first_best_none p v f fails cs)
