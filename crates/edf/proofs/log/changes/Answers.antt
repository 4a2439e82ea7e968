use borrow.Author.Tests.{eq-eqb, ne_eqb}
use native.Mathlib.Omega.{arith}
use Rattle.edf.specs.Run.{changes}
use Rattle.edf.proofs.Scans.{changes_more, changes_done}
use Rattle.edf.proofs.log.changes.Goals as goal
use Rattle.edf.proofs.log.changes.Goals.{then-entry-ne0+then-entry-before, else-entry-ne0}
use Rattle.edf.proofs.log.changes.Goals.{else-entry-ne0-via-then-entry-ne0+else-entry-before, else-entry-ne0-via-else-entry-ne0}

pub loop-entry-init : goal.loop-entry-init
unfolding changes
loop-entry-init c = record { whole = omega arith; few = omega arith }

pub loop-entry-preserved : goal.loop-entry-preserved
loop-entry-preserved c =
    let next = changes_more c.loop-entry.before c.args.log.now c.loop-entry.entry-index (omega arith) in
    elim c.if-entry-ne0.branch [
      | then-entry-ne0+then-entry-before w ↦
          let counted = rw (ne_eqb _ _ w.if-entry-ne0.true, ne_eqb _ _ w.if-entry-before.true) at next in
          rw (w.changed-is, w.before-is) (record { whole = omega arith; few = omega arith })
      | else-entry-ne0 w ↦
          elim w.else-entry-ne0.branch [
            | else-entry-ne0-via-then-entry-ne0+else-entry-before v ↦
                let same = rw (ne_eqb _ _ v.if-entry-ne0.true, eq-eqb _ _ v.if-entry-before.false) at next in
                rw (w.changed-is, w.before-is) (record { whole = omega arith; few = omega arith })
            | else-entry-ne0-via-else-entry-ne0 v ↦
                let idle = rw (eq-eqb _ _ v.if-entry-ne0.false) at next in
                rw (w.changed-is, w.before-is) (record { whole = omega arith; few = omega arith })
          ]
    ]

pub returns : goal.returns
returns c = omega (arith, changes_done c.loop-entry.before c.args.log.now c.loop-entry.entry-index (omega arith))
