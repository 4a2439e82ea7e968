-- The words that commands begin with: docs/WEEKDESK.md.
use Rattle.std.specs.Prelude.{ℕ, cond, Option, None, Some, List, [], ◌∷◌}
use Rattle.std.specs.Str.{bytes_eq}
use Rattle.arrays.specs.Text.{bytes}
use Rattle.command.specs.declared.name.Name.{Name}
use Rattle.command.specs.declared.name.Name.TheVariants as name

-- each word, with the name that it is
abbrev pub names : List (List ℕ × Name)
names =
    (bytes "week", name.Week)
    ∷ (bytes "batch", name.Batch)
    ∷ (bytes "table", name.Table)
    ∷ (bytes "log", name.Log)
    ∷ (bytes "choose", name.Choose)
    ∷ (bytes "records", name.Records)
    ∷ (bytes "check", name.Check)
    ∷ (bytes "run", name.Run)
    ∷ (bytes "show", name.Show)
    ∷ (bytes "list", name.List)
    ∷ (bytes "sheet", name.Sheet)
    ∷ (bytes "open", name.Open)
    ∷ (bytes "add", name.Add)
    ∷ (bytes "withdraw", name.Withdraw)
    ∷ (bytes "plan", name.Plan)
    ∷ (bytes "book", name.Book)
    ∷ (bytes "hold", name.Hold)
    ∷ (bytes "help", name.Help)
    ∷ []

-- the name that a word is among these
unfoldable pub name_among : List (List ℕ × Name) → List ℕ → Option Name
name_among [] word = None
name_among (entry ∷ entries) word = cond (bytes_eq word entry.0) (Some entry.1) (name_among entries word)

unfoldable pub name_of : List ℕ → Option Name
name_of word = name_among names word
