use native.Mathlib.Omega.{arith}
use mathlib.Core.Path.{sym, ap, ◌∙◌}
use mathlib.Core.Bool.{not, not-not}
use Rattle.arrays.proofs.Stores.{padding_step, padding_end}
use Rattle.edf.specs.Workload.{workload_of}
use Rattle.edf.proofs.Workloads.{made_task}
use Rattle.edf.proofs.workload.workload_of.Goals as goal

pub loop-i-preserved : goal.loop-i-preserved
loop-i-preserved c =
    padding_step c.loop-i.invariant (omega arith)
    (made_task c.args.list c.args.choice.now c.loop-i.i (omega arith) c.version-version.ensures c.unwrap_or.ensures
    (sym (ap not c.is_none.ensures ∙ not-not c.is_none.result)))

pub returns : goal.returns
unfolding workload_of
returns c = rw (padding_end c.loop-i.invariant (omega arith))
