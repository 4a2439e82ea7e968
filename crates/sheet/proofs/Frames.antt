-- What a frame says of its line: a week's line is 11 long, and a batch's as long as its count of recipes asks.
use Prim.Native.Nat.{ℕ, ◌+◌, ◌*◌}
use native.Mathlib.Omega.{arith}
use mathlib.Core.Path.{◌≡◌}
use mathlib.Core.List.{List}
use lib.ListN.{length}
use Rattle.std.specs.Prelude.{Some}
use Rattle.std.proofs.lemmas.Bool.Decides.{nat_tests}
use Rattle.sheet.specs.declared.frame.Frame.TheVariants.{Week, Batch}
use Rattle.sheet.specs.Hex.{byte_at}
use Rattle.sheet.specs.Frame as spec
use Rattle.sheet.specs.Frame.{is_week, is_batch, frame_of}

module _ (line : List ℕ) where
  pub week_length : frame_of line ≡ Some Week → length line ≡ spec.week_length
  unfolding frame_of is_week
  week_length e = grind (arith, nat_tests)

  pub batch_length : frame_of line ≡ Some Batch → length line ≡ spec.batch_length + spec.recipe_length * byte_at line 7
  unfolding frame_of is_batch
  batch_length e = grind (arith, nat_tests)
