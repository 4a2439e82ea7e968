-- `read` meets its contract: each return is one of the cases of `Reading`.
use borrow.Author.Rules.{rules}
use native.Mathlib.Omega.{arith}
use mathlib.Core.Path.{◌≡◌, sym, ◌∙◌}
use Rattle.week.specs.Fault.{numbers}
use Rattle.week.proofs.First.{number_of_lem}
use Rattle.week.proofs.Faults.{fault_refuses}
use Rattle.sheet.specs.Read.{refused_reading, answer_of}
use Rattle.sheet.proofs.Reading.{lines_refused, list_judged}
use Rattle.sheet.proofs.read.read.Goals as goal

pub returns-in_err-lines_fault : goal.returns-in_err-lines_fault
returns-in_err-lines_fault c =
    let fault = c.in_err-lines_fault.field-0.0 in
    let answer : answer_of c.from_residual.result ≡ refused_reading (numbers fault) = search rules in
    answer ∙ sym (lines_refused _ (omega arith) c.in_err-lines_fault.ensures (fault_refuses fault))

pub returns : goal.returns
returns c =
    let lines = number_of_lem (sym c.in_ok-lines_fault.ensures) in
    list_judged _ (omega arith) lines c.week_of.ensures c.accept_list.result c.accept_list.ensures.refusal c.accept_list.ensures.list
