use mathlib.Core.Path.{ap, ◌∙◌}
use Rattle.answer.specs.Answer.{plan_text, told_plan}
use Rattle.answer.proofs.Answering.{is_numbered, plan_told}
use Rattle.answer.proofs.operation.choose_text.Goals as goal

pub returns-clause-answer : goal.returns-clause-answer
returns-clause-answer c =
    let n = c.args.week.count in
    c.plan_text.ensures
    ∙ ap (told_plan n) (is_numbered c.choose.result c.map_err.result c.map_err.ensures.cases)
    ∙ plan_told n c.choose.result
    ∙ ap (plan_text n) c.choose.ensures.answer
