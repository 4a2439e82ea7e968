use Rattle.std.proofs.Common.{rules, ◌≡◌, sym, ◌∙◌}
use Rattle.text.specs.Line.{refusal_line}
use Rattle.week.specs.Fault.{numbers}
use Rattle.report.specs.Contract.{text_of}
use Rattle.report.proofs.Reporting.{choose_refused, few, not_refused, printable_lem, lines_made}
use Rattle.report.proofs.plan.week_text.Goals as goal

pub returns-in_err-plan : goal.returns-in_err-plan
returns-in_err-plan c =
    let fault = c.in_err-plan.field-0.0 in
    let handed_on : text_of c.from_residual.result ≡ refusal_line (numbers fault) = search rules in
    handed_on ∙ sym (choose_refused c.args.week fault c.in_err-plan.ensures)

pub shared_ref_as_front-choice : goal.shared_ref_as_front-choice
shared_ref_as_front-choice c = few c.args.week c.in_ok-plan.plan c.in_ok-plan.ensures

-- neither Check nor Run refuses what is chosen
pub returns-in_err-checked : goal.returns-in_err-checked
returns-in_err-checked c =
    absurd ((not_refused c.args.week c.in_ok-plan.plan c.in_ok-plan.ensures c.in_err-checked.field-0.0).0 c.in_err-checked.ensures)

pub returns-in_err-ran : goal.returns-in_err-ran
returns-in_err-ran c =
    absurd ((not_refused c.args.week c.in_ok-plan.plan c.in_ok-plan.ensures c.in_err-ran.field-0.0).1 c.in_err-ran.ensures)

pub plan_text-requires : goal.plan_text-requires
plan_text-requires c = printable_lem c.args.week c.in_ok-plan.plan c.in_ok-plan.ensures c.in_ok-checked.ensures

pub returns : goal.returns
returns c =
    c.plan_text.ensures
    ∙ lines_made c.args.week c.in_ok-plan.plan c.in_ok-plan.ensures c.in_ok-checked.ensures c.requires c.in_ok-ran.ensures
