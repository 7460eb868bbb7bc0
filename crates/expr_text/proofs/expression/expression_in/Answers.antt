use Rattle.std.proofs.Common.{subst}
use Rattle.expr_text.specs.ExpressionReading.{Reads}
use Rattle.expr_text.proofs.ExpressionLemmas.{found_if, again}
use Rattle.expr_text.proofs.expression.expression_in.Goals as goal

pub returns-clause-spelled : goal.returns-clause-spelled
returns-clause-spelled c = found_if c.read.result c.args.word.now c.read.ensures

pub returns-clause-only : goal.returns-clause-only
returns-clause-only c terms h =
    subst (λ read. Reads (λ ts. ts) c.read.result read)
    (again terms c.args.word.now h) c.read.ensures
