use Rattle.std.proofs.Common.{rules}
use Rattle.pal_asm.proofs.listing.put_statement.Goals as goal

pub returns-in_ok-put-in-Err-clause-put : goal.returns-in_ok-put-in-Err-clause-put
returns-in_ok-put-in-Err-clause-put c = search rules
