-- When a refusal of the call holds, and where: document 01, "Who can be refused, and why".
use Rattle.std.specs.Prelude.{ℕ, ◌*◌, ◌<◌, List, [], ◌∷◌, ◌++◌}
use Rattle.week.specs.declared.refusal.Refusal.{Refusal}
use Rattle.week.specs.Refusal.{refused}
use Rattle.week.specs.RefusalOrder.{◌when◌, ◌or◌}
use Rattle.planner.specs.Choose.{width_of, NoPlan}
use Rattle.sheet.specs.List.{sheet_week}
use Rattle.sheet.specs.Holds.{ReadHolds, read_numbers}

-- "11: picks table shorter than n × (c − t + 1), n being the batches.", "19: recipe buffer shorter than n."
abbrev pub KeepHolds : List ℕ → (table_size buffer_size : ℕ) → Refusal → Type 0
KeepHolds sheet table_size buffer_size =
    let w = sheet_week sheet in
    ReadHolds sheet
    or (refused 11 0 0 when (table_size < w.count * width_of w))
    or (refused 19 0 0 when (buffer_size < w.count))

abbrev pub keep_numbers : List ℕ
keep_numbers = read_numbers ++ (11 ∷ 19 ∷ [])

-- "14: no choice meets the rule (Choose)."
abbrev pub CallHolds : List ℕ → (table_size buffer_size : ℕ) → Refusal → Type 0
CallHolds sheet table_size buffer_size = KeepHolds sheet table_size buffer_size or (refused 14 0 0 when NoPlan (sheet_week sheet))

abbrev pub call_numbers : List ℕ
call_numbers = keep_numbers ++ (14 ∷ [])
