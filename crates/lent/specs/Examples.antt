-- Bytes in runs, computed from the definitions: one table, one claim.
use Rattle.std.specs.Prelude.{ℕ, ◌≡◌, refl, true, List, [], ◌∷◌, ◌++◌, replicate}
use Prim.Native.String.{String}
use Rattle.arrays.specs.Example.{Example, ◌is◌, same, agree}
use Rattle.arrays.specs.Text.{bytes}
use Rattle.text.specs.Decimal.{spelt, decimal}
use Rattle.text.specs.Line.{spaced}
use Rattle.lent.specs.Shown.{joined, runs_of, run_field, shown_rest}

-- bytes are shown as a text
infixl 20 ◌shows◌
abbrev ◌shows◌ : List ℕ → String → Example
lent shows text = shown_rest lent is bytes text

table : List Example
table =
    -- ‘`0x10 2x20 1x71` is ten 0s, twenty 2s, seventy-one 1s’
    (replicate 10 0 ++ (replicate 20 2 ++ replicate 71 1) shows " 0x10 2x20 1x71\n")
    -- the log of case W, in the 2,400 bytes that are lent at the start
    ∷ (replicate 10 1 ++ (replicate 10 3 ++ (replicate 30 2 ++ (replicate 40 3 ++ replicate 2310 0)))
    shows " 1x10 3x10 2x30 3x40 0x2310\n")
    -- nothing lent; one byte; a value that comes again after another
    ∷ ([] shows "\n")
    ∷ ((255 ∷ []) shows " 255x1\n")
    ∷ ((7 ∷ 0 ∷ 7 ∷ 7 ∷ []) shows " 7x1 0x1 7x2\n")
    ∷ []

examples : agree table ≡ true
unfolding table same agree spelt decimal spaced joined runs_of run_field shown_rest
examples = refl
