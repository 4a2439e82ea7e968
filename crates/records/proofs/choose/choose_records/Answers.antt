-- `choose_records` answers as Choose does on the list that the records are, and puts them in order where it answers a plan.
use mathlib.Core.Path.{refl, sym, ap, ◌∙◌}
use lib.ListN.{length}
use Rattle.week.specs.Record.{Week}
use Rattle.planner.specs.Choose.{ChooseAnswer, choose_answer}
use Rattle.records.proofs.Records.{lent_batches, lent_most, records_failed, records_ordered}
use Rattle.records.proofs.choose.choose_records.Goals as goal

pub returns-in_err-plan-clause-records : goal.returns-in_err-plan-clause-records
returns-in_err-plan-clause-records c =
    let size = length c.args.table.now in
    sym (records_failed c.args.opening c.args.closing c.args.records.now size c.in_err-plan.field-0.0
    (c.in_err-plan.ensures.answer ∙ ap (λ (w : Week). choose_answer w size) c.lent_week-week.ensures))

pub put_in_order-requires : goal.put_in_order-requires
put_in_order-requires c =
    let most = lent_most _ _ _ (rw c.lent_week-week.ensures at (c.in_ok-plan.ensures.plans.0 refl).0) in
    rw c.lent_week-week.ensures (sym (lent_batches c.args.opening c.args.closing c.args.records.now most), refl)

pub returns-clause-records : goal.returns-clause-records
returns-clause-records c =
    let planned = ap (λ (p : ChooseAnswer). p.refusal.number) (sym c.in_ok-plan.ensures.answer) in
    (rw c.lent_week-week.ensures at c.put_in_order.ensures)
    ∙ sym (records_ordered c.args.opening c.args.closing c.args.records.now (length c.args.table.now)
    (rw c.lent_week-week.ensures at planned))
