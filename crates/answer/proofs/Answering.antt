-- Answers as text: the refusal's line, or what is answered where nothing refuses; and that a list which is accepted has at most 16 batches.
use Prim.Native.Nat.{ℕ, ◌≤◌}
use mathlib.Core.Path.{◌≡◌, refl, sym, ap}
use mathlib.Core.List.{List}
use Rattle.std.specs.Prelude.{Result, Ok, Err, MatchResult, IsErrAnd}
use Rattle.std.proofs.lemmas.Grind.{common_steps}
use Rattle.week.specs.declared.refusal.Fault.{Fault}
use Rattle.week.specs.declared.refusal.Refusal.{Refusal}
use Rattle.week.specs.Fault.{numbers, refusal_of, AnsweredAs}
use Rattle.week.specs.Record.{Week, max_batches}
use Rattle.week.specs.Refusal.{accepted, answer_by}
use Rattle.week.proofs.Answering.{answers}
use Rattle.week.proofs.Faults.{fault_refuses}
use Rattle.judge.proofs.Sound.{sound}
use Rattle.planner.specs.declared.choose.Plan.{Plan}
use Rattle.planner.specs.Check.{check_answer}
use Rattle.planner.specs.Choose.{chosen_answer, refused_plan}
use Rattle.planner.specs.Run.{run_answer}
use Rattle.planner.proofs.Demands.{check_passed, run_runs}
use Rattle.text.specs.Line.{refusal_line}
use Rattle.answer.specs.Answer.{plan_text, told_plan, ok_text, told_call}

-- ‘A refusal is answered `refused N P R` and nothing else.’: an error of the code refuses, and where none does there is no refusal
pub refusal_said : (fault : Fault) (passed : List ℕ) → answer_by (numbers fault) refusal_line passed ≡ refusal_line (numbers fault)
refusal_said fault passed = (answers (numbers fault) refusal_line passed).refused refl (fault_refuses fault)

pub passed_said : (passed : List ℕ) → answer_by accepted refusal_line passed ≡ passed
passed_said passed = (answers accepted refusal_line passed).passed refl

-- what is told of a result that the code's errors refuse is told of its numbers
abbrev pub numbered : {A : Type 0} → Result A Fault → Result A Refusal
numbered (Ok x) = Ok x
numbered (Err fault) = Err (numbers fault)

pub is_numbered : {A : Type 0} (r : Result A Fault) (m : Result A Refusal) →
    MatchResult r (λ x. m ≡ Ok x) (λ fault. IsErrAnd m (AnsweredAs fault)) → m ≡ numbered r
is_numbered (Ok x) m same = same
is_numbered (Err fault) (Ok x) other = absurd other
is_numbered (Err fault) (Err refusal) same = ap Err same

pub plan_told : (n : ℕ) (plan : Result Plan Fault) → told_plan n (numbered plan) ≡ plan_text n (chosen_answer plan)
unfolding told_plan plan_text refused_plan
plan_told n (Ok plan) = sym (passed_said _)
plan_told n (Err fault) = sym (refusal_said fault _)

pub call_told : {A : Type 0} (called : Result A Fault) → told_call (numbered called) ≡ ok_text (refusal_of called)
unfolding told_call ok_text
call_told (Ok done) = sym (passed_said _)
call_told (Err fault) = sym (refusal_said fault _)

-- 3: "more than 16 batches" refuses, so a list of which an operation tells more than that has no more
module _ (w : Week) where
  pub check_most : (choice : List ℕ) → (check_answer w choice).refusal.number ≡ 0 → w.count ≤ max_batches
  check_most choice z = (sound w (check_passed w choice z).list).most

  pub run_most : (choice : List ℕ) (size : ℕ) → (run_answer w choice size).refusal.number ≡ 0 → w.count ≤ max_batches
  run_most choice size z = (sound w ((run_runs w choice size).0 z).0).most

-- what an answer as text is found by
pub ruleset said = (common_steps, refusal_said, passed_said, check_most, run_most)
