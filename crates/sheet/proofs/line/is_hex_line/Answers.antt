-- `is_hex_line` meets its contract: the last byte decides, and then those before it.
use borrow.Author.Rules.{rules}
use Prim.Native.Nat.{ℕ}
use mathlib.Core.Path.{◌≡◌, sym, ◌∙◌}
use mathlib.Core.Bool.{◌&&◌}
use mathlib.Core.List.{List, [], ◌∷◌, ◌++◌}
use lib.Dec.{eqb}
use borrow.Author.Tests.{tests}
use Rattle.std.specs.List.{list_all}
use Rattle.std.proofs.lemmas.Iterator.{YieldsList-from_slice}
use Rattle.std.proofs.lemmas.Iterator.Search.{all_from_yields_List}
use Rattle.arrays.specs.Text.{line_feed}
use Rattle.sheet.specs.Hex.{is_digit}
use Rattle.sheet.specs.Line.{hex_line}
use Rattle.sheet.proofs.HexLines.{hex_line-last}
use Rattle.sheet.proofs.line.is_hex_line.Goals as goal

-- the line, as its last byte and those before it
whole : {line : List ℕ} (digits : List ℕ) (last : ℕ) → line ≡ digits ++ (last ∷ []) →
    hex_line line ≡ (eqb last line_feed && list_all is_digit digits)
whole digits last e = rw e (hex_line-last digits last)

pub returns-then-ends_line : goal.returns-then-ends_line
returns-then-ends_line c =
    let all : c.all.result ≡ list_all is_digit c.in-Some.digits.now =
    all_from_yields_List is_digit _ _ c.all.result c.all.ensures.ran (YieldsList-from_slice c.in-Some.digits.now cc)
    (λ x b q k. search (rules, tests))
    in
    all ∙ sym (whole _ _ c.in-Some.ensures.cases.0 ∙ rw (sym c.ends_line.ensures ∙ c.if-ends_line.true))

pub returns-else-ends_line : goal.returns-else-ends_line
returns-else-ends_line c =
    c.if-ends_line.false ∙ sym (whole _ _ c.in-Some.ensures.cases.0 ∙ rw (sym c.if-ends_line.ensures))
