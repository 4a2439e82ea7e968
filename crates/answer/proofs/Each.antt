-- The fields of each batch, each after a space: one batch more of them, and none.
use Rattle.std.proofs.Common.{ℕ, ◌≡◌, ◌≤◌, ◌++◌, List, [], ◌∷◌, map, drop, length, refl, ap, ◌∙◌}
use Rattle.std.proofs.lemmas.List.{append-nil, drop_all}
use mathlib.Core.List.{flatten}
use Rattle.text.specs.Line.{spaced}
use Rattle.text.proofs.Spacing.{spaced-append}

module _ {A : Type 0} (fields : A → List (List ℕ)) where
  -- all fields of the batches
  abbrev pub each : List A → List ℕ
  each batches = spaced (flatten (map fields batches))

  pub each_more : (batch : A) (batches : List A) → each (batch ∷ batches) ≡ spaced (fields batch) ++ each batches
  unfolding flatten
  each_more batch batches = spaced-append (fields batch) (flatten (map fields batches))

  each_none : each [] ≡ []
  unfolding spaced flatten
  each_none = refl

  pub none_left : (text : List ℕ) (i : ℕ) (batches : List A) → length batches ≤ i → text ++ each (drop i batches) ≡ text
  none_left text i batches past =
      ap (λ (left : List A). text ++ each left) (drop_all i batches past)
      ∙ ap (λ (l : List ℕ). text ++ l) each_none
      ∙ append-nil text
