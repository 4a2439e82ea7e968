-- The lines of the batches: one batch more.
use Prim.Native.Nat.{ℕ, suc, ◌+◌, ◌^◌, ◌≤◌, ◌<◌}
use native.Mathlib.Omega.{arith}
use mathlib.Core.Path.{◌≡◌}
use mathlib.Core.List.{[], ◌∷◌, ◌++◌, flatten}
use lib.ListN.{length}
use Rattle.arrays.proofs.Flattened.{flatten_more}
use Rattle.week.specs.Record.{Week}
use Rattle.planner.specs.Check.{CheckAnswer}
use Rattle.planner.specs.Choose.{ChooseAnswer}
use Rattle.planner.specs.Run.{RunAnswer}
use Rattle.text.specs.Decimal.{decimal}
use Rattle.text.specs.Line.{rest_of}
use Rattle.text.proofs.Spacing.{rest_short}
use Rattle.report.specs.Line.{batch_line}
use Rattle.report.specs.Report.{batch_answer, batch_lines}

pub lines_more : (w : Week) (plan : ChooseAnswer) (checked : CheckAnswer) (ran : RunAnswer) (i : ℕ) →
    flatten (batch_lines w plan checked ran (i + 1))
    ≡ flatten (batch_lines w plan checked ran i) ++ batch_line (batch_answer w plan checked ran (suc i))
unfolding batch_lines
lines_more w plan checked ran i = flatten_more (λ k. batch_line (batch_answer w plan checked ran (suc k))) i

-- what follows a batch's number: five numbers of 16 bits, and the line feed
pub others_short : (a b c d e : ℕ) → a < 2 ^ 16 → b < 2 ^ 16 → c < 2 ^ 16 → d < 2 ^ 16 → e < 2 ^ 16 →
    length (rest_of (decimal a ∷ decimal b ∷ decimal c ∷ decimal d ∷ decimal e ∷ [])) ≤ 31
others_short a b c d e p q r s t =
    rest_short 4 (a ∷ b ∷ c ∷ d ∷ e ∷ []) (omega arith, (omega arith, (omega arith, (omega arith, (omega arith, tt)))))
