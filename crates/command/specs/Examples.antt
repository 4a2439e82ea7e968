-- Lines of commands, lines that are passed over and lines that are no command, computed from the definitions: one table, one claim.
use Rattle.std.specs.Prelude.{ℕ, ◌≡◌, refl, true, Option, None, Some, replicate}
use Prim.Native.String.{String}
use mathlib.Core.List.{List, [], ◌∷◌, ◌++◌, map, flatten}
use Rattle.arrays.specs.Example.{Example, ◌is◌, same, agree}
use Rattle.arrays.specs.Made.{padded}
use Rattle.arrays.specs.Text.{bytes, space}
use Rattle.week.specs.declared.record.Recipe.{Recipe}
use Rattle.week.specs.declared.record.Batch.{Batch}
use Rattle.week.specs.Record.{max_recipes, no_recipe}
use Rattle.words.specs.Line.{no_line, with_byte, with_bytes}
use Rattle.words.specs.Word.{joined, parts_of, some_bytes, words_of}
use Rattle.words.specs.Number.{are_digits, is_number, number_of}
use Rattle.words.specs.Numbers.{are_numbers, numbers_of}
use Rattle.command.specs.declared.command.Choice.{Choice}
use Rattle.command.specs.declared.command.Lent.{Lent}
use Rattle.command.specs.declared.command.Command.{Command}
use Rattle.command.specs.declared.command.Command.TheVariants.{Nothing, Week, Batch as OneBatch, Table, Log, Choose, Records, Check}
use Rattle.command.specs.declared.command.Command.TheVariants.{Run, ShowTable, ShowLog, List as TheList, Sheet, Open, Add}
use Rattle.command.specs.declared.command.Command.TheVariants.{Withdraw, Plan, Book, Hold, Help}
use Rattle.command.specs.Record.{choice_of}
use Rattle.command.specs.Name.{name_among, name_of}
use Rattle.command.specs.Show.{shown, show_command}
use Rattle.command.specs.Numbered.{batch_from, given_batch, lends_up_to, given_memory, are_bytes, is_choice, given_choice}
use Rattle.command.specs.Command.{named, by_words, is_comment, command_in, command_of}

-- a command in numbers: those of its variant, a number for each, and all that it holds; and 1 where there is none
abbrev recipe_numbers : Recipe → List ℕ
recipe_numbers r = r.cost ∷ r.worth ∷ []

abbrev batch_numbers : Batch → List ℕ
batch_numbers b = b.number ∷ b.arrival ∷ b.due ∷ b.count ∷ flatten (map recipe_numbers b.recipes)

abbrev choice_numbers : Choice → List ℕ
choice_numbers choice = choice.recipes

abbrev command_numbers : Command → List ℕ
command_numbers Nothing = 0 ∷ []
command_numbers (Week opening closing) = 2 ∷ opening ∷ closing ∷ []
command_numbers (OneBatch batch) = 3 ∷ batch_numbers batch
command_numbers (Table lent) = 4 ∷ lent.size ∷ lent.value ∷ []
command_numbers (Log lent) = 5 ∷ lent.size ∷ lent.value ∷ []
command_numbers Choose = 6 ∷ []
command_numbers (Check choice) = 7 ∷ choice_numbers choice
command_numbers (Run choice) = 8 ∷ choice_numbers choice
command_numbers ShowTable = 9 ∷ []
command_numbers ShowLog = 10 ∷ []
command_numbers TheList = 11 ∷ []
command_numbers Sheet = 12 ∷ []
command_numbers (Open opening closing) = 13 ∷ opening ∷ closing ∷ []
command_numbers (Add batch) = 14 ∷ batch_numbers batch
command_numbers (Withdraw number) = 15 ∷ number ∷ []
command_numbers Plan = 16 ∷ []
command_numbers Book = 17 ∷ []
command_numbers Hold = 18 ∷ []
command_numbers Help = 19 ∷ []
command_numbers Records = 20 ∷ []

-- so many bytes that are lent, each this value
abbrev lent : ℕ → ℕ → Lent
lent size value = record { size = size; value = value }

abbrev numbers : Option Command → List ℕ
numbers (Some command) = command_numbers command
numbers None = 1 ∷ []

infixl 20 ◌means◌
abbrev ◌means◌ : List ℕ → Command → Example
line means command = numbers (command_in line) is numbers (Some command)

infixl 20 ◌asks◌
abbrev ◌asks◌ : String → Command → Example
line asks command = bytes line means command

-- a line that is no command
abbrev no_command : List ℕ → Example
no_command line = numbers (command_in line) is numbers None

abbrev not_one : String → Example
not_one line = no_command (bytes line)

-- a batch, of which recipes after the tenth are counted and not kept
abbrev a_batch : (number arrival due count : ℕ) → List Recipe → Batch
a_batch number arrival due count recipes =
    record {
      number = number;
      arrival = arrival;
      due = due;
      count = count;
      recipes = padded max_recipes no_recipe recipes;
    }

infixl 30 ◌for◌
abbrev ◌for◌ : ℕ → ℕ → Recipe
cost for worth = record { cost = cost; worth = worth }

-- a word, and n times the number 1 after it; a word, and n spaces after it
abbrev ones : String → ℕ → List ℕ
ones word n = bytes word ++ flatten (replicate n (bytes " 1"))

abbrev spaces : String → ℕ → List ℕ
spaces word n = bytes word ++ replicate n space

table : List Example
table =
    -- a week, and batches: with recipes, without one, and with eleven of them
    ("week 0 100" asks Week 0 100)
    ∷ ("batch 7 0 40 30 9 10 4" asks OneBatch (a_batch 7 0 40 2 ((30 for 9) ∷ (10 for 4) ∷ [])))
    ∷ ("batch 8 20 60" asks OneBatch (a_batch 8 20 60 0 []))
    ∷ (ones "batch" 25 means OneBatch (a_batch 1 1 1 11 (replicate 10 (1 for 1))))
    -- what is lent: ‘V may be left out and is 0 then’; ‘At most 40,000 and 4,000 bytes’
    ∷ ("table 303 9" asks Table (lent 303 9))
    ∷ ("table 40000 255" asks Table (lent 40000 255))
    ∷ ("log 4000" asks Log (lent 4000 0))
    ∷ (not_one "table 40001")
    ∷ (not_one "log 4001")
    ∷ (not_one "log 100 256")
    ∷ (not_one "table")
    ∷ (not_one "table 1 2 3")
    -- the operations
    ∷ ("choose" asks Choose)
    ∷ ("records" asks Records)
    ∷ ("check 1 1 1" asks Check (choice_of (1 ∷ 1 ∷ 1 ∷ [])))
    ∷ ("check" asks Check (choice_of []))
    ∷ ("run 2 1 255" asks Run (choice_of (2 ∷ 1 ∷ 255 ∷ [])))
    ∷ (ones "run" 255 means Run (choice_of (replicate 255 1)))
    ∷ (no_command (ones "run" 256))
    ∷ (not_one "run 2 1 256")
    ∷ ("show table" asks ShowTable)
    ∷ ("show log" asks ShowLog)
    ∷ ("list" asks TheList)
    ∷ ("sheet" asks Sheet)
    ∷ ("help" asks Help)
    -- of the book
    ∷ ("open 0 100" asks Open 0 100)
    ∷ ("add 7 0 40 30 9 10 4" asks Add (a_batch 7 0 40 2 ((30 for 9) ∷ (10 for 4) ∷ [])))
    ∷ ("add 8 20 60" asks Add (a_batch 8 20 60 0 []))
    ∷ (ones "add" 25 means Add (a_batch 1 1 1 11 (replicate 10 (1 for 1))))
    ∷ ("withdraw 65535" asks Withdraw 65535)
    ∷ ("plan" asks Plan)
    ∷ ("book" asks Book)
    ∷ ("hold" asks Hold)
    -- spaces before, between and after words
    ∷ ("  week  0   100 " asks Week 0 100)
    -- what is passed over
    ∷ ("" asks Nothing)
    ∷ ("   " asks Nothing)
    ∷ ("# week 0 100" asks Nothing)
    -- no command: another word, a word or a number too many or too few, what is no number
    ∷ (not_one " # week 0 100")
    ∷ (not_one "Week 0 100")
    ∷ (not_one "weeks 0 100")
    ∷ (not_one "wee 0 100")
    ∷ (not_one "week 0")
    ∷ (not_one "week 0 100 1")
    ∷ (not_one "week 0 -1")
    ∷ (not_one "week 0 65536")
    ∷ (not_one "batch 7 0")
    ∷ (not_one "batch 7 0 40 30")
    ∷ (not_one "choose 1")
    ∷ (not_one "choose now")
    ∷ (not_one "records 1")
    ∷ (not_one "show")
    ∷ (not_one "show week")
    ∷ (not_one "show table log")
    ∷ (not_one "help\t")
    ∷ (not_one "open 0")
    ∷ (not_one "open 0 100 1")
    ∷ (not_one "add 7 0")
    ∷ (not_one "add 7 0 40 30")
    ∷ (not_one "withdraw")
    ∷ (not_one "withdraw 7 8")
    ∷ (not_one "withdraw 65536")
    ∷ (not_one "plan 1")
    ∷ (not_one "book 1")
    ∷ (not_one "hold 1")
    -- ‘longer than 4,096 bytes’: spaces count; but a comment of any length is passed over
    ∷ (spaces "help" 4092 means Help)
    ∷ (no_command (spaces "help" 4093))
    ∷ (no_command (spaces "" 4097))
    ∷ (spaces "#" 4096 means Nothing)
    -- of a line as it is held
    ∷ (numbers (command_of (with_bytes no_line (bytes "week 0 100"))) is numbers (Some (Week 0 100)))
    ∷ []

examples : agree table ≡ true
unfolding
    table same agree flatten with_byte with_bytes joined parts_of some_bytes words_of are_digits is_number number_of are_numbers numbers_of
    name_among name_of shown show_command batch_from given_batch lends_up_to given_memory are_bytes is_choice given_choice
    named by_words is_comment command_in command_of
examples = refl
