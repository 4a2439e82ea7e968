-- Case W in order and out of it, and sheets at the corners of document 01's "The sheet", computed from the definitions: one table, one
-- claim.
use Rattle.std.specs.Prelude.{ℕ, ◌≡◌, refl, true, take}
use Prim.Native.String.{String}
use mathlib.Core.List.{List, [], ◌∷◌, map, flatten}
use Rattle.arrays.specs.Each.{some_below}
use Rattle.arrays.specs.Example.{Example, ◌is◌, same, agree}
use Rattle.arrays.specs.Text.{bytes}
use Rattle.week.specs.declared.record.Recipe.{Recipe}
use Rattle.week.specs.declared.record.Batch.{Batch}
use Rattle.week.specs.Order.{before, insert_in, among, ordered}
use Rattle.week.specs.Refusal.{refused_if, or_else, first_of, first, unless_refused, answer_by, at_place}
use Rattle.judge.specs.Fault.{week_fault, number_fault, batch_fault, list_fault}
use Rattle.judge.specs.BatchFault.{cost_fault, worth_fault}
use Rattle.sheet.specs.Hex.{is_digit, digit_of, byte_at, word_at}
use Rattle.sheet.specs.Frame.{is_week, is_batch, frame_of}
use Rattle.sheet.specs.Fault.{size_fault, frame_fault, line_fault, lines_fault}
use Rattle.sheet.specs.List.{batch_from, week_from}
use Rattle.sheet.specs.Read.{ReadAnswer, read_fault, refused_reading, read_answer}

abbrev recipe_numbers : Recipe → List ℕ
recipe_numbers r = r.cost ∷ r.worth ∷ []

abbrev batch_numbers : Batch → List ℕ
batch_numbers b = b.number ∷ b.arrival ∷ b.due ∷ b.count ∷ flatten (map recipe_numbers (take b.count b.recipes))

-- what is answered: the refusal's three numbers, the opening, the close, the batches, and each batch with its recipes
abbrev numbers : ReadAnswer → List ℕ
numbers r =
    let w = r.week in
    r.refusal.number ∷ r.refusal.place ∷ r.refusal.recipe ∷ w.opening ∷ w.closing ∷ w.count
    ∷ flatten (map batch_numbers (take w.count w.batches))

abbrev read : String → List ℕ
read sheet = numbers (read_answer (bytes sheet))

-- a refusal, and 0 everywhere else
abbrev refusal : ℕ → ℕ → List ℕ
refusal number place = number ∷ place ∷ 0 ∷ 0 ∷ 0 ∷ 0 ∷ []

case_w : List ℕ
case_w =
    0 ∷ 0 ∷ 0 ∷ 0 ∷ 100 ∷ 3
    ∷ 7 ∷ 0 ∷ 40 ∷ 2 ∷ 30 ∷ 9 ∷ 10 ∷ 4
    ∷ 8 ∷ 20 ∷ 60 ∷ 2 ∷ 30 ∷ 8 ∷ 0 ∷ 0
    ∷ 9 ∷ 0 ∷ 100 ∷ 2 ∷ 50 ∷ 10 ∷ 20 ∷ 5 ∷ []

table : List Example
table =
    -- case W, in order and the other way round
    (read
    "0100000064\n0200070000002802001E0009000A0004\n0200080014003C02001E000800000000\n02000900000064020032000A00140005\n"
    is case_w)
    ∷ (read
    "0100000064\n02000900000064020032000A00140005\n0200080014003C02001E000800000000\n0200070000002802001E0009000A0004\n"
    is case_w)
    -- batches 5, 7 and 5, due at 40, 10 and 5: the last is named, which would stand first in order
    ∷ (read "0100000064\n020005000000280100010001\n0200070000000A0100010001\n020005000000050100010001\n" is refusal 9 3)
    -- a week alone; nothing; a line feed; a week without one
    ∷ (read "0100000064\n" is (0 ∷ 0 ∷ 0 ∷ 0 ∷ 100 ∷ 0 ∷ []))
    ∷ (read "" is refusal 17 1)
    ∷ (read "\n" is refusal 16 1)
    ∷ (read "0100000064" is refusal 16 1)
    -- a carriage return; lower case; an odd number of digits
    ∷ (read "0100000064\r\n" is refusal 16 1)
    ∷ (read "010000006a\n" is refusal 16 1)
    ∷ (read "010000006\n" is refusal 16 1)
    -- a batch first, with and without its line feed; a second week, with and without
    ∷ (read "020001000000640100010001\n" is refusal 17 1)
    ∷ (read "020001000000640100010001" is refusal 16 1)
    ∷ (read "0100000064\n0100000064\n" is refusal 17 2)
    ∷ (read "0100000064\n0100000064" is refusal 16 2)
    -- a count of 0; a count that the length does not agree with; a fault of the week, which waits for all lines
    ∷ (read "0100000064\n0200010000006400\n" is refusal 4 1)
    ∷ (read "0100000064\n020001000000640200010001\n" is refusal 16 2)
    ∷ (read "0100050004\n020001000000640100010001\n\n" is refusal 16 3)
    ∷ []

examples : agree table ≡ true
unfolding
    table case_w same agree flatten before insert_in among ordered
    refused_if or_else first_of first some_below at_place unless_refused answer_by
    week_fault cost_fault worth_fault number_fault batch_fault list_fault
    is_digit digit_of byte_at word_at is_week is_batch frame_of
    size_fault frame_fault line_fault lines_fault batch_from week_from read_fault refused_reading read_answer
examples = refl
