use borrow.Author.Tests.{eq-eqb, ne_eqb}
use native.Mathlib.Omega.{arith}
use Rattle.edf.proofs.Scans.{entries_more, entries_done}
use Rattle.edf.proofs.log.entries.Goals as goal
use Rattle.edf.proofs.log.entries.Goals.{then-entry-position, else-entry-position}

pub loop-entry-preserved : goal.loop-entry-preserved
loop-entry-preserved c =
    let next = entries_more c.args.position c.args.log.now c.loop-entry.entry-index (omega arith) in
    elim c.if-entry-position.branch [
      | then-entry-position w ↦
          let counted = rw (eq-eqb _ _ w.if-entry-position.true) at next in
          rw w.count-is (record { whole = omega arith; few = omega arith })
      | else-entry-position w ↦
          let passed = rw (ne_eqb _ _ w.if-entry-position.false) at next in
          rw w.count-is (record { whole = omega arith; few = omega arith })
    ]

pub returns : goal.returns
returns c = omega (arith, entries_done c.args.position c.args.log.now c.loop-entry.entry-index (omega arith))
