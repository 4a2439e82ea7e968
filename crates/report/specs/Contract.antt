-- What the report's functions ask and answer.
use Rattle.std.specs.Prelude.{ℕ, ◌≤◌, List, Result, Ok, Err}
use Rattle.arrays.specs.Position.{at_position}
use Rattle.jobs.specs.Stretches.{no_stretch}
use Rattle.week.specs.declared.refusal.Fault.{Fault}
use Rattle.week.specs.Record.{Week, max_batches}
use Rattle.week.specs.Fault.{numbers}
use Rattle.planner.specs.Check.{CheckAnswer}
use Rattle.text.specs.Line.{refusal_line}

-- a list and its stretches whose lines can be made: each batch has a place, and a stretch that starts no later than it ends
pub record Printable (w : Week) (checked : CheckAnswer) : Type 0 where
  pub most : w.count ≤ max_batches
  pub forward : (i : ℕ) → 1 ≤ i → i ≤ w.count →
      (at_position no_stretch checked.stretches i).start ≤ (at_position no_stretch checked.stretches i).end

-- what is written: the lines that are made, or the one line of what refuses
abbrev pub text_of : Result (List ℕ) Fault → List ℕ
text_of (Ok text) = text
text_of (Err fault) = refusal_line (numbers fault)
