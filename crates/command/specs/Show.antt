-- What is shown, by the word after `show`: docs/WEEKDESK.md, ‘The operations’.
use Rattle.std.specs.Prelude.{ℕ, cond, Option, None, Some, List, [], ◌∷◌}
use Rattle.std.specs.Str.{bytes_eq}
use Rattle.arrays.specs.Text.{bytes}
use Rattle.command.specs.declared.command.Command.{Command}
use Rattle.command.specs.declared.command.Command.TheVariants as command

unfoldable pub shown : List ℕ → Option Command
shown word = cond (bytes_eq word (bytes "table")) (Some command.ShowTable) (cond (bytes_eq word (bytes "log")) (Some command.ShowLog) None)

-- by the words after `show`, which are one
unfoldable pub show_command : List (List ℕ) → Option Command
show_command [] = None
show_command (word ∷ []) = shown word
show_command (word ∷ another ∷ words) = None
