-- Reading the best choice off a filled table: what it asks, and that its answer is none, or a plan whose total can be answered.
use Prim.Native.Nat.{ℕ, ◌*◌, ◌≤◌}
use native.Mathlib.Omega.{arith}
use mathlib.Core.Path.{◌≡◌, sym}
use mathlib.Core.List.{List}
use mathlib.Core.Option.{some}
use lib.ListN.{length}
use Rattle.std.specs.Prelude.{Some}
use Rattle.arrays.specs.Made.{placed}
use Rattle.jobs.specs.declared.model.JobList.{JobList}
use Rattle.jobs.specs.Model.{jobs_of, chosen}
use Rattle.jobs.specs.Choice.{Valid, total}
use Rattle.jobs.specs.Contract.{Names}
use Rattle.jobs.proofs.ChoiceArrays.{chosen_placed}
use Rattle.jobs.proofs.BestOfAll.{best_some}
use Rattle.select.specs.Table.{filled}
use Rattle.select.specs.Contract.{Readable, best_choice}
use Rattle.select.proofs.Entries.{filled-take}
use Rattle.select.proofs.BestChoices.{choice_some}
use Rattle.select.proofs.Picks.{filled_size}
use Rattle.week.specs.declared.refusal.Refusal.{Refusal}
use Rattle.week.specs.Record.{Week, max_batches}
use Rattle.week.specs.Ordered.{ordered_week}
use Rattle.week.specs.Refusal.{accepted}
use Rattle.judge.proofs.Sound.{Sound}
use Rattle.planner.specs.Job.{job_list_of, week_jobs}
use Rattle.planner.specs.Choose.{ChooseAnswer, week_best, width_of, fill_fault, plan_of, choose_answer}
use Rattle.planner.proofs.Jobs.{plan_names, fillable}
use Rattle.planner.proofs.Choosing.{plan_passed}

module _ (w : Week) (sound : Sound (ordered_week w)) (table : List ℕ) (long : w.count * width_of w ≤ length table) where
  pub readable : {list : JobList} → list ≡ job_list_of w →
      {after : List ℕ} → after ≡ filled (week_jobs w) w.opening (width_of w) table →
      Readable list w.opening (width_of w) w.closing after
  readable is same =
      rw (is, same)
      record {
        fillable = fillable w sound _ (rw (filled_size (job_list_of w) w.opening (width_of w) table long) long);
        opened = omega (arith, sound.opens);
        inside = omega (arith, sound.opens);
        rows = filled-take (job_list_of w) w.opening (width_of w) table;
      }

-- a best choice, in list order
pub record ReadOff (w : Week) (choice : List ℕ) : Type 0 where
  pub plan : List ℕ
  pub first : week_best w ≡ some plan
  pub places : choice ≡ placed max_batches 0 plan

pub read_some : (w : Week) {choice : List ℕ} → Some choice ≡ best_choice (week_best w) → ReadOff w choice
read_some w is =
    let found = choice_some (week_best w) is in
    record { plan = found.0; first = found.1; places = found.2 }

module _ (w : Week) (sound : Sound (ordered_week w)) {choice : List ℕ} (read : ReadOff w choice) where
  valid : Valid (week_jobs w) read.plan
  valid = (best_some (week_jobs w) w.closing read.plan read.first).valid

  pub read_names : Names (job_list_of w) choice
  read_names = rw read.places (plan_names w sound read.plan valid)

  -- the sum is the one that `total` answers
  pub read_answer_lem : (size : ℕ) → (fill_fault w size).number ≡ 0 → {r : Refusal} → r ≡ accepted →
      {list : JobList} → list ≡ job_list_of w → {sum : ℕ} → sum ≡ total (jobs_of list) (chosen list choice) →
      ◌≡◌ {A = ChooseAnswer} (record { refusal = r; total = sum; choice = choice }) (choose_answer w size)
  unfolding plan_of
  read_answer_lem size passed accepts is added =
      rw (accepts, added, is, read.places, chosen_placed (job_list_of w) read.plan valid)
      (sym (plan_passed w size passed read.first))
