use native.Mathlib.Omega.{arith}
use Rattle.arrays.proofs.Stores.{padding_step, padding_end}
use Rattle.planner.proofs.job.jobs_of.Goals as goal

pub loop-i-preserved : goal.loop-i-preserved
loop-i-preserved c = padding_step c.loop-i.invariant (omega arith) c.job_of.ensures

pub returns : goal.returns
returns c =
    let jobs = padding_end c.loop-i.invariant (omega arith) in
    cc
