use Rattle.std.proofs.Common.{◌∙◌, sym}
use Rattle.job_engine.proofs.Lists.{place_seen, job_there}
use Rattle.job_engine.proofs.jobs.job_in.Goals as goal

pub returns-in-None-clause-none : goal.returns-in-None-clause-none
returns-in-None-clause-none c = place_seen c.args.entries.now c.args.name.now ∙ sym c.place_in.ensures ∙ c.in-None.is

pub returns-in-Some-clause-some : goal.returns-in-Some-clause-some
returns-in-Some-clause-some c =
    rw c.as_slice.ensures (job_there c.args.entries.now c.args.name.now c.in-Some.j c.index-entries-j.result c.requires (sym c.place_in.ensures ∙ c.in-Some.is))
