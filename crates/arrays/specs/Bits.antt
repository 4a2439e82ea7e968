-- The greatest numbers of 16 bits, as of a minute or a written worth, and of 32 bits, as of a total that is answered.
use Rattle.std.specs.Prelude.{ℕ}

abbrev pub max16 : ℕ
max16 = 65535

abbrev pub max32 : ℕ
max32 = 4294967295
