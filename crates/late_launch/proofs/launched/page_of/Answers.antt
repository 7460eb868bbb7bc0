use Rattle.std.proofs.Common.{◌∙◌}
use Rattle.late_launch.proofs.RegionLemmas.{page_written}
use Rattle.late_launch.proofs.launched.page_of.Goals as goal

pub returns : goal.returns
returns c = c.write_at.ensures ∙ page_written 4096 c.args.outputs.now
