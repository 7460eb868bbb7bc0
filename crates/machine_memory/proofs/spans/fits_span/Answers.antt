use Rattle.std.proofs.lemmas.Bool.{false≢true}
use Rattle.machine_memory.proofs.SpanLemmas.{fits_found, fits_not_taken}
use Rattle.machine_memory.proofs.spans.fits_span.Goals as goal

pub returns-in-Some : goal.returns-in-Some
returns-in-Some c =
    fits_found c.args.pool.now c.args.at c.args.count c.in-Some.first c.in-Some.frames c.requires
    c.in-Some.ensures.found

pub returns-in-None : goal.returns-in-None
returns-in-None c = (
  λ e. absurd (false≢true e),
  λ lies. absurd
      (fits_not_taken c.args.pool.now c.args.at c.args.count c.requires c.in-None.ensures.none
      lies),
)
