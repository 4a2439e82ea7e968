-- What a command is asked with, by the numbers that stand after its name: docs/WEEKDESK.md, which each quotes.
use Rattle.std.specs.Prelude.{ℕ, ◌+◌, ◌-◌, ◌*◌, ◌/◌, ◌%◌, min, Bool, true, ◌&&◌, Option, List, [], ◌∷◌, get_or, take, eqb, leb}
use Rattle.arrays.specs.Made.{tabulate, padded}
use Rattle.week.specs.declared.record.Recipe.{Recipe}
use Rattle.week.specs.declared.record.Batch.{Batch}
use Rattle.week.specs.Record.{max_recipes, no_recipe}
use Rattle.words.specs.declared.numbers.Numbers.{Numbers}
use Rattle.words.specs.Numbers.{max_kept}
use Rattle.command.specs.declared.command.Choice.{Choice}
use Rattle.command.specs.declared.command.Lent.{Lent}
use Rattle.command.specs.Record.{choice_of, some_if}

-- the number of an index, from 0; 0 where there is none
abbrev pub value_at : List ℕ → ℕ → ℕ
value_at values i = get_or values i 0

-- so many numbers after a name, and nothing else: none after `choose`, `records`, `list`, `sheet`, `plan`, `book`, `hold` and `help`;
-- one after `withdraw`; two after `week` and `open`
abbrev pub exactly : ℕ → Numbers → Option (List ℕ)
exactly n numbers = some_if (eqb numbers.count n) (take n numbers.values)

-- ‘batch NUMBER R D COST WORTH COST WORTH ..’, ‘add NUMBER R D COST WORTH ..’: ‘any number of recipes (the count as written, the first
-- ten kept ..)’
abbrev pub recipe_from : List ℕ → ℕ → Recipe
recipe_from values k = record { cost = value_at values (3 + 2 * k); worth = value_at values (4 + 2 * k) }

unfoldable pub batch_from : Numbers → Batch
batch_from numbers =
    let count = (numbers.count - 3) / 2 in
    let values = numbers.values in
    record {
      number = value_at values 0;
      arrival = value_at values 1;
      due = value_at values 2;
      count = count;
      recipes = padded max_recipes no_recipe (tabulate (recipe_from values) 0 (min count max_recipes));
    }

unfoldable pub given_batch : Numbers → Option Batch
given_batch numbers = some_if (leb 3 numbers.count && eqb (numbers.count % 2) 1) (batch_from numbers)

-- ‘table SIZE V’, ‘log SIZE V’: ‘V may be left out and is 0 then’; ‘At most 40,000 and 4,000 bytes; above that, no command.’; ‘the
-- byte V, is at most 255’
abbrev pub max_byte : ℕ
max_byte = 255

unfoldable pub lends_up_to : ℕ → Numbers → Bool
lends_up_to most numbers =
    leb 1 numbers.count && leb numbers.count 2
    && leb (value_at numbers.values 0) most && leb (value_at numbers.values 1) max_byte

unfoldable pub given_memory : ℕ → Numbers → Option Lent
given_memory most numbers =
    some_if (lends_up_to most numbers) (record { size = value_at numbers.values 0; value = value_at numbers.values 1 })

-- ‘check K K ..’, ‘run K K ..’: ‘A recipe number in a choice .. is at most 255; a choice has at most 255 of them, and may have none’
unfoldable pub are_bytes : List ℕ → Bool
are_bytes [] = true
are_bytes (v ∷ vs) = leb v max_byte && are_bytes vs

unfoldable pub is_choice : Numbers → Bool
is_choice numbers = leb numbers.count max_kept && are_bytes (take numbers.count numbers.values)

unfoldable pub given_choice : Numbers → Option Choice
given_choice numbers = some_if (is_choice numbers) (choice_of (take numbers.count numbers.values))
