use native.Mathlib.Omega.{arith}
use mathlib.Core.Path.{◌∙◌}
use Rattle.words.proofs.Words.{words_few}
use Rattle.words.proofs.Numbering.{numbered_start, numbered_end, numbered_room, numbered_none, numbered_more, numbered_full}
use Rattle.words.proofs.numbers.numbers_of.Goals.{then-count-lt-MAX_KEPT, else-count-lt-MAX_KEPT}
use Rattle.words.proofs.numbers.numbers_of.Goals as goal

pub loop-word-init : goal.loop-word-init
loop-word-init c = rw (c.into_iter-word-iterator.ensures.into_iter_gives, c.of-word-items.ensures) (numbered_start _)

pub returns-in_err-value : goal.returns-in_err-value
returns-in_err-value c =
    c.from_residual.ensures ∙ numbered_none c.loop-word.invariant c.in-Some.ensures.steps.0 c.in_err-value.ensures

-- a line has at most as many words as bytes
pub overflow_add-count : goal.overflow_add-count
overflow_add-count c =
    omega (arith, numbered_room c.loop-word.invariant c.in-Some.ensures.steps.0, words_few c.args.line.now)

pub loop-word-preserved : goal.loop-word-preserved
loop-word-preserved c =
    let inv = c.loop-word.invariant in
    let next = c.in-Some.ensures.steps.0 in
    elim c.if-count-lt-MAX_KEPT.branch [
      | then-count-lt-MAX_KEPT w ↦ rw w.values-is (numbered_more inv next c.in_ok-value.ensures w.if-count-lt-MAX_KEPT.true)
      | else-count-lt-MAX_KEPT w ↦ rw w.values-is (numbered_full inv next c.in_ok-value.ensures w.if-count-lt-MAX_KEPT.false)
    ]

pub returns : goal.returns
returns c = numbered_end c.loop-word.invariant c.in-None.ensures.steps.0.0
