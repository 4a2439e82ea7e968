-- Lines that come in pieces: docs/WEEKDESK.md, ‘Lines’: ‘A line is words with spaces between them, ended by a line feed’.
use Rattle.std.specs.Prelude.{ℕ, suc, ◌+◌, Bool, true, false, cond, List, [], ◌∷◌, length, drop, set, replicate, eqb, ltb}
use Rattle.arrays.specs.Text.{line_feed}
use Rattle.words.specs.declared.line.Line.{Line}
use Rattle.words.specs.declared.line.Extension.{Extension}

-- ‘longer than 4,096 bytes’
abbrev pub max_line : ℕ
max_line = 4096

-- what is held of a line: one byte more, so that a longer one is told from it
abbrev pub held : ℕ
held = suc max_line

abbrev pub no_line : Line
no_line = record { bytes = replicate held 0; len = 0 }

-- a line with one byte more, where there is room for it, and with several
unfoldable pub with_byte : Line → ℕ → Line
with_byte line b = cond (ltb line.len held) (record { bytes = set line.bytes line.len b; len = suc line.len }) line

unfoldable pub with_bytes : Line → List ℕ → Line
with_bytes line [] = line
with_bytes line (b ∷ bs) = with_bytes (with_byte line b) bs

-- the bytes before the first line feed; whether there is one
unfoldable pub before_feed : List ℕ → List ℕ
before_feed [] = []
before_feed (b ∷ bs) = cond (eqb b line_feed) [] (b ∷ before_feed bs)

unfoldable pub has_feed : List ℕ → Bool
has_feed [] = false
has_feed (b ∷ bs) = cond (eqb b line_feed) true (has_feed bs)

-- a line with what a piece has of it from an index on: the next line starts after the line feed, or with the next piece
unfoldable pub extended_by : Line → List ℕ → ℕ → Extension
extended_by line piece from =
    let rest = drop from piece in
    record {
      line = with_bytes line (before_feed rest);
      next = cond (has_feed rest) (suc (from + length (before_feed rest))) (from + length (before_feed rest));
      ended = has_feed rest;
    }
