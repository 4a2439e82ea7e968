-- Check's answer: which refusal comes first, and what is answered then.
use Prim.Native.Nat.{ℕ, zero, suc}
use native.Mathlib.Omega.{arith}
use mathlib.Core.Path.{◌≡◌, refl, sym, ap, ◌∙◌}
use mathlib.Core.Bool.{not}
use mathlib.Core.List.{List, [], ◌∷◌}
use borrow.Author.Tests.{eq-eqb, ne_eqb}
use Rattle.std.specs.Prelude.{Ok, Err}
use Rattle.jobs.specs.declared.rule.Stretch.{Stretch}
use Rattle.jobs.specs.declared.rule.Failing.{Failing}
use Rattle.jobs.specs.Rule.{failing}
use Rattle.jobs.specs.Stretches.{stretches_of}
use Rattle.jobs.specs.Choice.{total}
use Rattle.jobs.specs.Contract.{stretched}
use Rattle.jobs.proofs.Rules.{stretched_meets, stretched_fails}
use Rattle.week.specs.Record.{Week}
use Rattle.week.specs.declared.refusal.Reason.TheVariants.{BreaksTheRule}
use Rattle.week.specs.Refusal.{accepted, refused, first_of}
use Rattle.week.specs.Fault.{fault_at, numbers}
use Rattle.judge.specs.Fault.{handed_faults}
use Rattle.week.proofs.Faults.{fault_refuses}
use Rattle.week.proofs.First.{Proper, number_of_lem, refused_if_true, refused_if_false, refused_if_proper, first_of_proper, append_first}
use Rattle.week.proofs.First.{append_last}
use Rattle.week.proofs.Answering.{Answers, answers, answers_name}
use Rattle.planner.specs.Job.{week_jobs, week_choice}
use Rattle.planner.specs.Check.{CheckAnswer, rule_fault, check_fault, passed, refused_check, check_answer}

module _ (w : Week) (choice : List ℕ) where
  abbrev failed : ℕ
  failed = failing (week_jobs w) w.closing (week_choice w choice)

  pub check_answers : Answers (check_fault w choice) refused_check (passed w choice) (check_answer w choice)
  unfolding check_answer
  check_answers = answers _ _ _

  -- the refusal answered is the first of the order
  pub check_refusal : (check_answer w choice).refusal ≡ check_fault w choice
  unfolding check_fault passed refused_check
  check_refusal = answers_name check_answers (λ (a : CheckAnswer). a.refusal) (λ z. refl) (λ r. refl) (first_of_proper _)

  pub fault_handed : ((first_of (handed_faults w choice)).number ≡ 0 → ⊥) → check_fault w choice ≡ first_of (handed_faults w choice)
  unfolding check_fault
  fault_handed = append_first (handed_faults w choice) (rule_fault w choice ∷ [])

  rule_proper : Proper (rule_fault w choice)
  unfolding rule_fault
  rule_proper = refused_if_proper 15 failed 0 refl _

  pub fault_rule : (first_of (handed_faults w choice)).number ≡ 0 → check_fault w choice ≡ rule_fault w choice
  unfolding check_fault
  fault_rule = append_last (handed_faults w choice) (rule_fault w choice) rule_proper

  pub rule_met : failed ≡ 0 → rule_fault w choice ≡ accepted
  unfolding rule_fault
  rule_met z = refused_if_false 15 failed 0 (ap not (eq-eqb failed 0 z))

  pub rule_broken : (failed ≡ 0 → ⊥) → rule_fault w choice ≡ refused 15 failed 0
  unfolding rule_fault
  rule_broken n = refused_if_true 15 failed 0 (ap not (ne_eqb failed 0 n))

  -- the rule's answer: the stretches of a choice that meets it, or the position where it fails
  module _ {ss : List Stretch} (is : Ok ss ≡ stretched (week_jobs w) w.closing (week_choice w choice)) where
    stretched_met : failed ≡ 0
    stretched_met = by_failing failed refl
      where
        by_failing : (n : ℕ) → failed ≡ n → n ≡ 0
        by_failing zero z = refl
        by_failing (suc n) z = let fails = stretched_fails (week_jobs w) w.closing (week_choice w choice) n z in cc

    pub stretched_passed : (first_of (handed_faults w choice)).number ≡ 0 →
        {sum : ℕ} → sum ≡ total (week_jobs w) (week_choice w choice) →
        ◌≡◌ {A = CheckAnswer} (record { refusal = accepted; total = sum; stretches = ss }) (check_answer w choice)
    unfolding passed
    stretched_passed none added =
        let all : ss ≡ stretches_of (week_jobs w) w.closing (week_choice w choice) =
        let met = stretched_meets (week_jobs w) w.closing (week_choice w choice) stretched_met in cc
        in
        rw (added, all) (sym (check_answers.passed (number_of_lem (fault_rule none ∙ rule_met stretched_met))))

  module _ {f : Failing} (is : Err f ≡ stretched (week_jobs w) w.closing (week_choice w choice)) where
    stretched_at : (f.position ≡ failed) × (failed ≡ 0 → ⊥)
    stretched_at = by_failing failed refl
      where
        by_failing : (n : ℕ) → failed ≡ n → (f.position ≡ failed) × (failed ≡ 0 → ⊥)
        by_failing zero z = let met = stretched_meets (week_jobs w) w.closing (week_choice w choice) z in cc
        by_failing (suc n) z =
            let fails = stretched_fails (week_jobs w) w.closing (week_choice w choice) n z in
            let here : f ≡ record { position = suc n } = cc in
            (ap (λ (f : Failing). f.position) here ∙ sym z, λ none. omega arith)

    pub stretched_refused : (first_of (handed_faults w choice)).number ≡ 0 →
        refused_check (numbers (fault_at BreaksTheRule f.position 0)) ≡ check_answer w choice
    stretched_refused none =
        sym (check_answers.refused
        (fault_rule none ∙ rule_broken stretched_at.1 ∙ ap (λ (at : ℕ). refused 15 at 0) (sym stretched_at.0))
        (fault_refuses (fault_at BreaksTheRule f.position 0)))
