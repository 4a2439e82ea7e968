use borrow.Author.Rules.{rules}
use native.Mathlib.Omega.{arith}
use mathlib.Core.Path.{◌≡◌, sym, ap, ◌∙◌}
use borrow.Author.Tests.{tests, eqb-false}
use Rattle.week.specs.Fault.{numbers, refusal_of}
use Rattle.week.proofs.First.{number_of_lem, search_found, search_on, search_over}
use Rattle.week.proofs.Faults.{fault_refuses}
use Rattle.sheet.proofs.Lines.{lines_none, next_line}
use Rattle.sheet.proofs.Reached.{reached_start, reached_below, reached_step, reached_end}
use Rattle.sheet.proofs.LinesFault.{fault_start, fault_at}
use Rattle.sheet.proofs.fault.lines_fault.Goals as goal

pub loop-i-init : goal.loop-i-init
loop-i-init c =
    let at-first = c.into_iter-i-iterator.ensures.into_iter_gives in
    let count = ap (λ e. e.count) at-first ∙ c.enumerate-i-items.ensures.count in
    let source = ap (λ e. e.iter) at-first ∙ c.enumerate-i-items.ensures.source in
    let some = eqb-false _ _ (sym c.if-is_empty.ensures) in
    rw (count, source, c.split_inclusive.ensures.rest) (reached_start _, fault_start c.args.sheet.now some)

-- what refuses the line that the loop has come to, refuses the sheet ..
pub returns-in_err-frame_fault : goal.returns-in_err-frame_fault
returns-in_err-frame_fault c =
    let inv = c.loop-i.invariant in
    let turn = c.in-Some.ensures.steps in
    let next = next_line _ _ _ _ turn.0 (λ a r q k. search (rules, tests)) in
    let at-line = fault_at inv.0 next turn.1 c.frame_of.ensures c.in_err-frame_fault.ensures in
    let answer : refusal_of c.from_residual.result ≡ numbers c.in_err-frame_fault.field-0.0 = search rules in
    answer ∙ search_found _ _ _ inv.1 (reached_below inv.0 next) at-line (fault_refuses c.in_err-frame_fault.field-0.0)

-- .. and where nothing does, the lines after it decide
pub loop-i-preserved : goal.loop-i-preserved
loop-i-preserved c =
    let inv = c.loop-i.invariant in
    let turn = c.in-Some.ensures.steps in
    let next = next_line _ _ _ _ turn.0 (λ a r q k. search (rules, tests)) in
    let at-line = fault_at inv.0 next turn.1 c.frame_of.ensures c.in_ok-frame_fault.ensures in
    rw turn.2 (
      reached_step inv.0 next,
      search_on _ _ _ inv.1 (reached_below inv.0 next) (number_of_lem (sym at-line)),
    )

pub returns : goal.returns
returns c =
    let over = (lines_none _).1 c.in-None.ensures.steps.0.0 in
    search_over _ _ _ c.loop-i.invariant.1 (omega (arith, reached_end c.loop-i.invariant.0 over))
