-- `lent_fault` meets its contract: the table is too short, or the buffer, or neither.
use borrow.Author.Rules.{rules}
use mathlib.Core.Path.{◌≡◌, refl, sym, ap, ◌∙◌}
use Rattle.week.specs.Fault.{numbers, refusal_of}
use Rattle.week.proofs.First.{number_of_lem, refuses_too, first_of_here, first_of_last}
use Rattle.week.proofs.Faults.{fault_refuses}
use Rattle.week.proofs.Passes.{short_refuses, short_passes, short_proper}
use Rattle.weekplan_c.specs.Call.{buffer_fault}
use Rattle.weekplan_c.proofs.lent_fault.Goals as goal

pub returns-in_err-table_fault : goal.returns-in_err-table_fault
returns-in_err-table_fault c =
    let fault = c.in_err-table_fault.field-0.0 in
    let answer : refusal_of c.from_residual.result ≡ numbers fault = search rules in
    let table = c.in_err-table_fault.ensures in
    answer ∙ table ∙ sym (first_of_here _ _ (refuses_too table (fault_refuses fault)))

pub returns-then-buffer_size-week : goal.returns-then-buffer_size-week
unfolding buffer_fault
returns-then-buffer_size-week c =
    ap numbers c.of.ensures
    ∙ sym (first_of_last _ _ (number_of_lem (sym c.in_ok-table_fault.ensures)) (short_proper 19 _ _ refl)
    ∙ short_refuses 19 c.if-buffer_size-week.true)

pub returns : goal.returns
unfolding buffer_fault
returns c =
    sym (first_of_last _ _ (number_of_lem (sym c.in_ok-table_fault.ensures)) (short_proper 19 _ _ refl)
    ∙ (short_passes 19 _ _ refl).1 c.if-buffer_size-week.false)
