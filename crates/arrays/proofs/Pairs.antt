-- What holds of each entry of a list, and of each and every later one: what follows, of parts, and by index.
use Prim.Native.Nat.{ℕ, zero, suc, ◌<◌}
use native.Mathlib.Omega.{arith}
use mathlib.Core.Logic.{◌↔◌}
use mathlib.Core.List.{List, [], ◌∷◌, ◌++◌}
use lib.ListN.{length, get_or}
use Rattle.arrays.specs.Each.{All, Pairs}

module _ {A : Type 0} where
  -- ---- what follows of each
  -- what follows of two
  pub all_two : {P Q S : A → Type 0} → ((x : A) → P x → Q x → S x) → (xs : List A) → All P xs → All Q xs → All S xs
  all_two f [] p q = tt
  all_two f (x ∷ xs) p q = (f x p.0 q.0, all_two f xs p.1 q.1)

  -- and of one
  pub all_map : {P Q : A → Type 0} → ((x : A) → P x → Q x) → (xs : List A) → All P xs → All Q xs
  all_map f [] p = tt
  all_map f (x ∷ xs) p = (f x p.0, all_map f xs p.1)

  -- the same of pairs
  pub pairs_two : {P Q S : A → A → Type 0} → ((x y : A) → P x y → Q x y → S x y) → (xs : List A) → Pairs P xs → Pairs Q xs →
      Pairs S xs
  pairs_two f [] p q = tt
  pairs_two f (x ∷ xs) p q = (all_two (f x) xs p.0 q.0, pairs_two f xs p.1 q.1)

  pub pairs-map : {P Q : A → A → Type 0} → ((x y : A) → P x y → Q x y) → (xs : List A) → Pairs P xs → Pairs Q xs
  pairs-map f [] p = tt
  pairs-map f (x ∷ xs) p = (all_map (f x) xs p.0, pairs-map f xs p.1)

  -- ---- parts of a list
  -- of two parts, each
  pub all_append : (P : A → Type 0) (xs ys : List A) → All P (xs ++ ys) ↔ (All P xs × All P ys)
  all_append P [] ys = (λ h. (tt, h), λ h. h.1)
  all_append P (x ∷ xs) ys =
      let rest = all_append P xs ys in
      (λ h. ((h.0, (rest.0 h.1).0), (rest.0 h.1).1), λ h. (h.0.0, rest.1 (h.0.1, h.1)))

  -- each before y stands in R to it
  pub pairs_middle : (R : A → A → Type 0) (xs : List A) (y : A) (ys : List A) → Pairs R (xs ++ (y ∷ ys)) → All (λ x. R x y) xs
  pairs_middle R [] y ys h = tt
  pairs_middle R (x ∷ xs) y ys h = (((all_append (R x) xs (y ∷ ys)).0 h.0).1.0, pairs_middle R xs y ys h.1)

  -- ---- by index, with d past the end
  -- of each
  pub all_index : (P : A → Type 0) (d : A) (xs : List A) → All P xs ↔ ((i : ℕ) → i < length xs → P (get_or xs i d))
  all_index P d xs = (at xs, from xs)
    where
      at : (xs : List A) → All P xs → (i : ℕ) → i < length xs → P (get_or xs i d)
      at [] h i l = absurd (omega arith)
      at (x ∷ xs) h zero l = h.0
      at (x ∷ xs) h (suc i) l = at xs h.1 i (omega arith)

      from : (xs : List A) → ((i : ℕ) → i < length xs → P (get_or xs i d)) → All P xs
      from [] f = tt
      from (x ∷ xs) f = (f 0 (omega arith), from xs (λ i l. f (suc i) (omega arith)))

  -- of each and every later one
  pub pairs_index : (R : A → A → Type 0) (d : A) (xs : List A) →
      Pairs R xs ↔ ((i j : ℕ) → i < j → j < length xs → R (get_or xs i d) (get_or xs j d))
  pairs_index R d xs = (at xs, from xs)
    where
      at : (xs : List A) → Pairs R xs → (i j : ℕ) → i < j → j < length xs → R (get_or xs i d) (get_or xs j d)
      at [] h i j l u = absurd (omega arith)
      at (x ∷ xs) h i zero l u = absurd (omega arith)
      at (x ∷ xs) h zero (suc j) l u = (all_index (R x) d xs).0 h.0 j (omega arith)
      at (x ∷ xs) h (suc i) (suc j) l u = at xs h.1 i j (omega arith) (omega arith)

      from : (xs : List A) → ((i j : ℕ) → i < j → j < length xs → R (get_or xs i d) (get_or xs j d)) → Pairs R xs
      from [] f = tt
      from (x ∷ xs) f = (
        (all_index (R x) d xs).1 (λ j u. f 0 (suc j) (omega arith) (omega arith)),
        from xs (λ i j l u. f (suc i) (suc j) (omega arith) (omega arith)),
      )
