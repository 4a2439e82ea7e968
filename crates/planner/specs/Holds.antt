-- When a refusal of Check, of Choose and of Run holds, and where: document 01, "Who can be refused, and why". Each asks the list first,
-- and what is its own after it.
use Rattle.std.specs.Prelude.{ℕ, ◌*◌, ◌<◌, List, [], ◌∷◌, ◌++◌}
use Rattle.week.specs.declared.refusal.Refusal.{Refusal}
use Rattle.week.specs.Record.{Week, span_of}
use Rattle.week.specs.Ordered.{ordered_week}
use Rattle.week.specs.Refusal.{refused}
use Rattle.week.specs.RefusalOrder.{◌when◌, ◌or◌, some_of}
use Rattle.judge.specs.Holds.{ListHolds, ChoiceHolds, list_numbers}
use Rattle.planner.specs.Written.{FirstFailing}
use Rattle.planner.specs.Choose.{width_of, NoPlan}

-- "15: the choice breaks it (Check), with the first failing position met going backward."
abbrev pub CheckHolds : Week → List ℕ → Refusal → Type 0
CheckHolds w choice =
    (ListHolds w or ChoiceHolds (ordered_week w) choice) or some_of w.count (λ i. refused 15 i 0 when FirstFailing w choice i)

abbrev pub check_numbers : List ℕ
check_numbers = list_numbers ++ (13 ∷ 15 ∷ [])

-- "11: picks table shorter than n × (c − t + 1), n being the batches."
abbrev pub FillHolds : Week → ℕ → Refusal → Type 0
FillHolds w size = ListHolds w or (refused 11 0 0 when (size < w.count * width_of w))

abbrev pub fill_numbers : List ℕ
fill_numbers = list_numbers ++ (11 ∷ [])

-- "14: no choice meets the rule (Choose)."
abbrev pub ChooseHolds : Week → ℕ → Refusal → Type 0
ChooseHolds w size = FillHolds w size or (refused 14 0 0 when NoPlan w)

abbrev pub choose_numbers : List ℕ
choose_numbers = fill_numbers ++ (14 ∷ [])

-- "12: log shorter than c − t."
abbrev pub RunHolds : Week → List ℕ → ℕ → Refusal → Type 0
RunHolds w choice size = (ListHolds w or ChoiceHolds (ordered_week w) choice) or (refused 12 0 0 when (size < span_of w))

abbrev pub run_numbers : List ℕ
run_numbers = list_numbers ++ (13 ∷ 12 ∷ [])
