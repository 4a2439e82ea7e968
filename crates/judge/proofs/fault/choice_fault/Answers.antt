-- `choice_fault` answers 13: of the first index whose batch has not got the recipe that is named.
use native.Mathlib.Nat.{sub-zero}
use Rattle.std.proofs.Common.{rules, suc, ◌≡◌, ◌||◌, not, length, get_or, refl, ap, ◌∙◌}
use lib.Dec.{eqb, ltb}
use lib.Seq.{get_or-take}
use borrow.Author.Tests.{tests, eq-eqb}
use Rattle.week.specs.Record.{no_batch}
use Rattle.week.specs.Written.{batches_of}
use Rattle.week.proofs.First.{first_found, search_after}
use Rattle.week.proofs.Owned.{batches_owned}
use Rattle.week.proofs.Writing.{batches_counted}
use Rattle.judge.specs.Fault.{name_fault, choice_fault}
use Rattle.judge.proofs.fault.choice_fault.Goals as goal

pub returns : goal.returns
unfolding name_fault choice_fault
returns c =
    let w = c.args.week in
    let choice = c.args.choice.now in
    let bs = batches_of w in
    let size : length bs ≡ w.count = batches_counted w (batches_owned w _ c.well_formed.0) c.requires in
    first_found (name_fault w choice) w.count 13 suc (λ i. 0)
    (λ i. eqb (get_or choice i 0) 0 || ltb (get_or bs i no_batch).count (get_or choice i 0)) refl
    (λ i low. rw (get_or-take w.count w.batches i no_batch low)) c.position.result _ (search (rules, tests)) (search (rules, c.map_or.ensures))
    ∙ rw sub-zero at (search_after (name_fault w choice) 13 0 0 w.count (ap not (eq-eqb _ _ c.if-choice-week.false)))
