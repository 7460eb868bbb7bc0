use Rattle.job_store.proofs.Outcomes.{torn_either}
use Rattle.store_tests.proofs.hostile.overwrite.Goals as goal

pub returns : goal.returns
returns c =
    torn_either c.write_at.result c.args.at c.args.bytes.now c.args.disk.now.contents
    c.write_at.new.self.contents c.requires c.write_at.ensures.size c.write_at.ensures.ok
    c.write_at.ensures.err
