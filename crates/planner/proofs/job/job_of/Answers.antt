-- `job_of` meets its contract.
use Rattle.std.proofs.Common.{rules}
use Rattle.jobs.specs.Model.{no_version}
use Rattle.planner.specs.Job.{version_from}
use Rattle.planner.proofs.Mapped.{made}
use Rattle.planner.proofs.job.job_of.Goals as goal

pub returns : goal.returns
returns c =
    let versions = made _ _ (version_from c.args.b) (λ k v q called. search rules) _ no_version c.from_fn.ensures.items in
    cc c.ready.ensures
