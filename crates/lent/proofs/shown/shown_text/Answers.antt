use Rattle.std.proofs.Common.{ℕ, rules, of_calls, arith, take, ap, ◌∙◌}
use Rattle.std.proofs.lemmas.List.{take_min}
use Rattle.std.proofs.lemmas.List.Sorted.{answers_always}
use lib.Dec.{eqb}
use Rattle.lent.specs.Size.{max_table}
use Rattle.lent.specs.Shown.{shown_rest}
use Rattle.lent.proofs.Showing.{showing_start, showing_room, showing_step, showing_last, showing_end}
use Rattle.lent.proofs.shown.shown_text.Goals as goal

pub loop-run-init : goal.loop-run-init
loop-run-init c =
    let lent = c.args.lent.now in
    let whole = c.chunk_by-run-items.ensures.rest ∙ ap (λ (n : ℕ). take n lent) c.min.ensures ∙ take_min max_table lent in (
      search (rules, of_calls),
      tt,
      rw (c.into_iter-run-iterator.ensures.into_iter_gives, whole, c.new-text.ensures)
          (showing_start lent (λ i. omega (arith, c.type_inv.lent i))),
    )

pub put_run-requires : goal.put_run-requires
put_run-requires c =
    let turn = c.in-Some.ensures.steps in
    omega (arith, showing_room _ _ (rw turn.0 at c.loop-run.invariant.2) turn.1)

-- the closure computes `eqb`, so a turn takes the longest front of equal bytes
pub loop-run-preserved : goal.loop-run-preserved
loop-run-preserved c =
    let turn = c.in-Some.ensures.steps in
    let cut = rw turn.0 at (turn.2 eqb (answers_always _ _ _ (λ f a r q e. search (rules, of_calls)))).1 in (
      search (rules, of_calls),
      tt,
      rw c.put_run.ensures (showing_step _ _ (rw turn.0 at c.loop-run.invariant.2) turn.1 cut),
    )

pub put-requires : goal.put-requires
put-requires c = (search rules, omega (arith, showing_last c.loop-run.invariant.2))

pub returns : goal.returns
unfolding shown_rest
returns c = rw c.put.ensures (showing_end _ c.in-None.ensures.steps.0 c.loop-run.invariant.2)
