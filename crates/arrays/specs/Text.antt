-- A text as the bytes that a sheet, a report or an answer has.
use Rattle.std.specs.Prelude.{ℕ, List, [], ◌∷◌}
use Prim.Native.Char.{code}
use Prim.Native.String.{String, [] as end, ◌∷◌ as ◌then◌}

abbrev pub bytes : String → List ℕ
bytes end = []
bytes (c then s) = code c ∷ bytes s

abbrev pub line_feed : ℕ
line_feed = 10

abbrev pub space : ℕ
space = 32
