-- "Every line ends with a line feed", and has no other: each line of a report is one.
use Prim.Native.Nat.{ℕ, zero, suc, ◌/◌, ◌%◌}
use native.Mathlib.Omega.{arith}
use mathlib.Core.Path.{◌≡◌, refl, sym}
use mathlib.Core.Bool.{Bool, true, false, cond}
use mathlib.Core.List.{List, [], ◌∷◌, ◌++◌, map, append_assoc}
use lib.Dec.{eqb, ltb}
use borrow.Author.Tests.{ne_eqb}
use Rattle.arrays.specs.Each.{All}
use Rattle.arrays.specs.Text.{bytes, line_feed, space}
use Rattle.arrays.proofs.Cases.{cond_both}
use Rattle.arrays.proofs.Tabulates.{tabulate_all}
use Rattle.week.specs.Record.{Week}
use Rattle.week.specs.declared.refusal.Refusal.{Refusal}
use Rattle.week.specs.Refusal.{unless_refused, answer_by}
use Rattle.planner.specs.Choose.{ChooseAnswer, max_picks, choose_answer}
use Rattle.sheet.specs.Read.{read_answer}
use Rattle.sheet.proofs.OneLine.{unbroken, OneLine, unbroken-append}
use Rattle.text.specs.Decimal.{digit, spelt, decimal}
use Rattle.text.specs.Line.{spaced, line_of, week_line, refusal_line}
use Rattle.report.specs.declared.line.BatchLine.{BatchLine}
use Rattle.report.specs.Line.{total_line, batch_line}
use Rattle.report.specs.Report.{batch_lines, plan_lines, refusal_lines, week_lines, report_lines}

-- a number has none
unbroken_spelt : (k n : ℕ) → unbroken (spelt k n) ≡ true
unfolding spelt unbroken
unbroken_spelt zero n = refl
unbroken_spelt (suc k) n =
    unbroken-append (cond (ltb n 10) [] (spelt k (n / 10))) (digit (n % 10) ∷ []) (by_size (ltb n 10) (unbroken_spelt k (n / 10)))
    (rw (ne_eqb (digit (n % 10)) line_feed (λ e. omega arith)))
  where
    by_size : (q : Bool) → unbroken (spelt k (n / 10)) ≡ true → unbroken (cond q [] (spelt k (n / 10))) ≡ true
    by_size true rest = refl
    by_size false rest = rest

unbroken_decimal : (n : ℕ) → unbroken (decimal n) ≡ true
unfolding decimal
unbroken_decimal n = unbroken_spelt (suc n) n

-- nor have fields after spaces
abbrev Fields : List (List ℕ) → Type 0
Fields = All (λ field. unbroken field ≡ true)

unbroken_spaced : (fields : List (List ℕ)) → Fields fields → unbroken (spaced fields) ≡ true
unfolding spaced unbroken
unbroken_spaced [] each = refl
unbroken_spaced (field ∷ fields) each =
    unbroken-append (space ∷ field) (spaced fields) each.0 (unbroken_spaced fields each.1)

unbroken_numbers : (ns : List ℕ) → Fields (map decimal ns)
unbroken_numbers [] = tt
unbroken_numbers (n ∷ ns) = (unbroken_decimal n, unbroken_numbers ns)

line_one : (first : List ℕ) (fields : List (List ℕ)) → unbroken first ≡ true → Fields fields → OneLine (line_of first fields)
line_one first fields one each =
    record {
      body = first ++ spaced fields;
      inside = unbroken-append first (spaced fields) one (unbroken_spaced fields each);
      ended = sym (append_assoc first (spaced fields) (line_feed ∷ []));
    }

week_one : (opening closing : ℕ) → OneLine (week_line opening closing)
unfolding week_line unbroken
week_one opening closing = line_one (bytes "week") _ refl (unbroken_numbers (opening ∷ closing ∷ []))

total_one : (total changes idle : ℕ) → OneLine (total_line total changes idle)
unfolding total_line unbroken
total_one total changes idle =
    line_one (bytes "total") _ refl
    (unbroken_decimal total, (refl, (unbroken_decimal changes, (refl, (unbroken_decimal idle, tt)))))

batch_one : (b : BatchLine) → OneLine (batch_line b)
unfolding batch_line
batch_one b =
    line_one (decimal b.number) _ (unbroken_decimal b.number)
    (unbroken_numbers (b.recipe ∷ b.cost ∷ b.start ∷ b.end ∷ b.finish ∷ []))

refusal_one : (r : Refusal) → OneLine (refusal_line r)
unfolding refusal_line unbroken
refusal_one r = line_one (bytes "refused") _ refl (unbroken_numbers (r.number ∷ r.place ∷ r.recipe ∷ []))

-- the lines of a report are such lines, whichever of the three it has
either : (fault : Refusal) (lines : List (List ℕ)) → All OneLine lines → All OneLine (answer_by fault refusal_lines lines)
unfolding answer_by unless_refused
either fault lines ones = cond_both (All OneLine) (eqb fault.number 0) ones (refusal_one fault, tt)

plan_ones : (w : Week) (plan : ChooseAnswer) → All OneLine (plan_lines w plan)
unfolding plan_lines batch_lines
plan_ones w plan = (week_one w.opening w.closing, (total_one _ _ _, tabulate_all OneLine _ (λ i. batch_one _) 0 w.count))

week_ones : (w : Week) → All OneLine (week_lines w)
unfolding week_lines
week_ones w = either (choose_answer w max_picks).refusal _ (plan_ones w (choose_answer w max_picks))

pub report_ones : (sheet : List ℕ) → All OneLine (report_lines sheet)
unfolding report_lines
report_ones sheet = either (read_answer sheet).refusal _ (week_ones (read_answer sheet).week)
