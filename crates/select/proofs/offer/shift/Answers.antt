use native.Mathlib.Omega.{arith}
use Rattle.arrays.proofs.Patches.{patching_end}
use Rattle.select.proofs.OfferAnswers.{shift_at}
use Rattle.select.proofs.Slices.{patched_part}
use Rattle.select.proofs.offer.shift.Goals as goal

pub returns : goal.returns
returns c =
    let a = c.args in
    patched_part (omega arith) (omega arith) (patching_end c.loop-m.invariant (omega arith))
    (λ i low. shift_at a.first a.end a.minutes a.w a.scores.now a.words.now (omega arith) i low)
