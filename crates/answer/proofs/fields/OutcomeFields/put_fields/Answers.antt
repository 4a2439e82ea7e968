use Rattle.arrays.specs.Text.{bytes}
use Rattle.text.proofs.Spacing.{named_fields}
use Rattle.answer.specs.Line.{outcome_fields}
use Rattle.answer.proofs.fields.OutcomeFields.put_fields.Goals as goal

pub returns-in-Unfinished-clause-fields : goal.returns-in-Unfinished-clause-fields
unfolding outcome_fields
returns-in-Unfinished-clause-fields c =
    rw (c.in-Unfinished.is, named_fields (bytes "unfinished") c.in-Unfinished.left) c.put_named-in-Unfinished.ensures
