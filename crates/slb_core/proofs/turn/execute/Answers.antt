use Rattle.std.proofs.Common.{◌∙◌}
use Rattle.slb_core.proofs.Loans.{comes_back}
use Rattle.slb_core.proofs.turn.execute.Goals as goal

pub returns-clause-reached : goal.returns-clause-reached
returns-clause-reached c =
    let back = comes_back c.args.session.now.region c.step.new.segment c.step.ensures.size in
    let same = c.in-Some.ensures.cases.same ∙ c.region.ensures.bytes in
    rw (back, ← same) c.step.ensures.reached
