use Rattle.std.proofs.lemmas.List.Elements.{All-contains}
use Rattle.seal_device.proofs.Known.{Hashed}
use Rattle.seal_device.proofs.Values.{apart}
use Rattle.seal_device.proofs.laws.clean_values_are_apart.Goals as goal

pub returns-clause-chains : goal.returns-clause-chains
returns-clause-chains c = λ hashed one other clean known too same.
    apart hashed clean one other known too same

pub returns-clause-registers : goal.returns-clause-registers
returns-clause-registers c = λ d ledger one other noted clean here there same.
    let known = All-contains (Hashed ledger.hashed) d.chains one noted.chains here in
    let too = All-contains (Hashed ledger.hashed) d.chains other noted.chains there in
    apart ledger.hashed clean one other known too same

pub returns-clause-owners : goal.returns-clause-owners
returns-clause-owners c = λ d ledger id counter other noted clean here there same.
    let known = noted.owners id counter here in
    let too = All-contains (Hashed ledger.hashed) d.chains other noted.chains there in
    apart ledger.hashed clean counter.owner other known too same
