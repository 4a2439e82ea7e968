-- Which command a line is: docs/WEEKDESK.md, ‘Lines’.
use Rattle.std.specs.Prelude.{ℕ, Bool, false, cond, Option, None, Some, List, [], ◌∷◌, length, take, eqb, ltb}
use Rattle.std.specs.Option.{option_map, option_and_then}
use Rattle.lent.specs.Size.{max_table, max_log}
use Rattle.words.specs.declared.line.Line.{Line}
use Rattle.words.specs.Line.{max_line}
use Rattle.words.specs.Word.{words_of}
use Rattle.words.specs.declared.numbers.Numbers.{Numbers}
use Rattle.words.specs.Numbers.{numbers_of}
use Rattle.command.specs.declared.name.Name.{Name}
use Rattle.command.specs.declared.name.Name.TheVariants as name
use Rattle.command.specs.declared.command.Command.{Command}
use Rattle.command.specs.declared.command.Command.TheVariants as command
use Rattle.command.specs.Name.{name_of}
use Rattle.command.specs.Show.{show_command}
use Rattle.command.specs.Numbered.{value_at, exactly, given_batch, given_memory, given_choice}

-- a command that is asked with what is read of the numbers after its name, where they are that
abbrev pub asked : {A : Type 0} → (A → Command) → (Numbers → Option A) → List (List ℕ) → Option Command
asked command read words = option_map command (option_and_then read (numbers_of words))

-- a command of no number, and one of two minutes
abbrev pub alone : Command → List (List ℕ) → Option Command
alone command words = asked (λ values. command) (exactly 0) words

abbrev pub minutes : (ℕ → ℕ → Command) → List (List ℕ) → Option Command
minutes command words = asked (λ values. command (value_at values 0) (value_at values 1)) (exactly 2) words

-- a command by its name and the words after it
unfoldable pub named : Name → List (List ℕ) → Option Command
named name.Week words = minutes command.Week words
named name.Batch words = asked command.Batch given_batch words
named name.Table words = asked command.Table (given_memory max_table) words
named name.Log words = asked command.Log (given_memory max_log) words
named name.Choose words = alone command.Choose words
named name.Records words = alone command.Records words
named name.Check words = asked command.Check given_choice words
named name.Run words = asked command.Run given_choice words
named name.Show words = show_command words
named name.List words = alone command.List words
named name.Sheet words = alone command.Sheet words
named name.Open words = minutes command.Open words
named name.Add words = asked command.Add given_batch words
named name.Withdraw words = asked (λ values. command.Withdraw (value_at values 0)) (exactly 1) words
named name.Plan words = alone command.Plan words
named name.Book words = alone command.Book words
named name.Hold words = alone command.Hold words
named name.Help words = alone command.Help words

-- ‘An empty line, .. is passed over.’: one without a word
unfoldable pub by_words : List (List ℕ) → Option Command
by_words [] = Some command.Nothing
by_words (word ∷ words) = option_and_then (λ name. named name words) (name_of word)

-- '#'
abbrev pub hash : ℕ
hash = 35

-- ‘and one that begins with `#`’
unfoldable pub is_comment : List ℕ → Bool
is_comment [] = false
is_comment (b ∷ bs) = eqb b hash

-- ‘A line that is no command, has a word or number too many or too few, or is longer than 4,096 bytes is answered `no command: line
-- N`’
unfoldable pub command_in : List ℕ → Option Command
command_in line =
    cond (is_comment line) (Some command.Nothing) (cond (ltb max_line (length line)) None (by_words (words_of line)))

-- of a line as it is held
unfoldable pub command_of : Line → Option Command
command_of line = command_in (take line.len line.bytes)
