-- `name_of` meets its contract: the check finds the other words alone, and gives up at these.
use borrow.Author.Rules.{rules}
use mathlib.Core.Path.{◌≡◌, ap, sym}
use mathlib.Core.List.{List}
use Prim.Native.Nat.{ℕ}
use lib.ListN.{length}
use Rattle.std.proofs.lemmas.Slice.Eq.{HasBytesAt, text_from_reads}
use Rattle.arrays.specs.Text.{bytes}
use Rattle.command.specs.Name.{name_of, name_among}
use Rattle.command.proofs.name.name_of.Goals as goal

-- a word that is read as a text has the text's name
same_name : (text word : List ℕ) → length word ≡ length text → HasBytesAt word 0 text → name_of text ≡ name_of word
same_name text word size read = ap name_of (sym (text_from_reads word text size read))

pub returns-in-table : goal.returns-in-table
unfolding name_of name_among
returns-in-table c = same_name (bytes "table") c.args.word.now (search rules) (search rules)

pub returns-in-choose : goal.returns-in-choose
unfolding name_of name_among
returns-in-choose c = same_name (bytes "choose") c.args.word.now (search rules) (search rules)

pub returns-in-records : goal.returns-in-records
unfolding name_of name_among
returns-in-records c = same_name (bytes "records") c.args.word.now (search rules) (search rules)

pub returns-in-check : goal.returns-in-check
unfolding name_of name_among
returns-in-check c = same_name (bytes "check") c.args.word.now (search rules) (search rules)

pub returns-in-sheet : goal.returns-in-sheet
unfolding name_of name_among
returns-in-sheet c = same_name (bytes "sheet") c.args.word.now (search rules) (search rules)

pub returns-in-withdraw : goal.returns-in-withdraw
unfolding name_of name_among
returns-in-withdraw c = same_name (bytes "withdraw") c.args.word.now (search rules) (search rules)
