use Rattle.std.proofs.Common.{rules, ◌≡◌, sym, ◌∙◌}
use Rattle.text.specs.Line.{refusal_line}
use Rattle.week.specs.Fault.{numbers}
use Rattle.report.specs.Contract.{text_of}
use Rattle.report.proofs.Reporting.{read_refused, read_in_order, read_lines}
use Rattle.report.proofs.sheet_text.Goals as goal

pub returns-in_err-week : goal.returns-in_err-week
returns-in_err-week c =
    let fault = c.in_err-week.field-0.0 in
    let handed_on : text_of c.from_residual.result ≡ refusal_line (numbers fault) = search rules in
    handed_on ∙ sym (read_refused c.args.sheet.now fault c.in_err-week.ensures)

pub week_text-requires : goal.week_text-requires
week_text-requires c = read_in_order c.args.sheet.now c.in_ok-week.week c.in_ok-week.ensures

pub returns : goal.returns
returns c = c.week_text.ensures ∙ read_lines c.args.sheet.now c.in_ok-week.week c.in_ok-week.ensures
