-- Numbers that lend memory: `SIZE V` or `SIZE`.
use Prim.Native.Nat.{ℕ, ◌≤◌, ◌<◌}
use mathlib.Core.Path.{◌≡◌}
use mathlib.Core.Bool.{true, false}
use lib.Dec.{leb}
use borrow.Author.Tests.{le-leb, lt-leb}
use Rattle.words.specs.declared.numbers.Numbers.{Numbers}
use Rattle.command.specs.Numbered.{value_at, max_byte, lends_up_to}

module _ (most : ℕ) (numbers : Numbers) where
  -- where there are one or two, the size decides, and then the value
  module _ (some : leb 1 numbers.count ≡ true) (few : leb numbers.count 2 ≡ true) where
    pub lends_small : value_at numbers.values 0 ≤ most → lends_up_to most numbers ≡ leb (value_at numbers.values 1) max_byte
    unfolding lends_up_to
    lends_small size = simp (some, few, le-leb _ _ size)

    pub lends_large : most < value_at numbers.values 0 → lends_up_to most numbers ≡ false
    unfolding lends_up_to
    lends_large size = simp (some, few, lt-leb _ _ size)
