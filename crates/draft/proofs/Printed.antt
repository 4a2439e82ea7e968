-- What a list is printed as, part after part: one recipe more of a batch, the parts of its line, and one line more.
use Prim.Native.Nat.{ℕ, zero, suc, ◌+◌, ◌<◌}
use mathlib.Core.Path.{◌≡◌, refl, ap, ◌∙◌}
use mathlib.Core.List.{List, [], ◌∷◌, ◌++◌, append_assoc}
use lib.ListN.{get_or, take}
use lib.Seq.{get_or-take}
use Rattle.arrays.specs.Text.{bytes, line_feed}
use Rattle.arrays.proofs.Flattened.{flatten_more}
use Rattle.week.specs.declared.record.Batch.{Batch}
use Rattle.week.specs.declared.record.Recipe.{Recipe}
use Rattle.week.specs.Record.{no_recipe, recipe_at}
use Rattle.text.proofs.Spacing.{numbers, numbers-append}
use Rattle.draft.specs.List.{printed, recipe_numbers, recipes_numbers, recipes_text, batch_line}

-- of the recipes that are printed, the one that is not kept is nothing but 0
one_past : (recipes : List Recipe) (k : ℕ) → get_or (recipes ++ (no_recipe ∷ [])) k no_recipe ≡ get_or recipes k no_recipe
one_past [] zero = refl
one_past [] (suc k) = refl
one_past (r ∷ recipes) zero = refl
one_past (r ∷ recipes) (suc k) = one_past recipes k

pub printed_at : (b : Batch) (n k : ℕ) → k < n → get_or (take n (b.recipes ++ (no_recipe ∷ []))) k no_recipe ≡ recipe_at b k
printed_at b n k more = get_or-take n (b.recipes ++ (no_recipe ∷ [])) k no_recipe more ∙ one_past b.recipes k

pub recipes_more : (b : Batch) (k : ℕ) →
    numbers (recipes_numbers b (k + 1)) ≡ numbers (recipes_numbers b k) ++ numbers (recipe_numbers b k)
recipes_more b k = ap numbers (flatten_more (recipe_numbers b) k) ∙ numbers-append (recipes_numbers b k) (recipe_numbers b k)

pub batch_parts : (b : Batch) →
    batch_line b
    ≡ bytes "batch"
    ++ (numbers (b.number ∷ b.arrival ∷ b.due ∷ [])
    ++ (recipes_text b ++ (line_feed ∷ [])))
unfolding batch_line
batch_parts b =
    rw (
      numbers-append (b.number ∷ b.arrival ∷ b.due ∷ []) (recipes_numbers b (printed b)),
      append_assoc,
    )
