use Rattle.std.proofs.Common.{◌≡◌, true, Some, subst, arith}
use Rattle.flk_base.specs.Stop.{with_fuse, fused}
use Rattle.seal_device.specs.Commands.{Seal, act, costs}
use Rattle.seal_device.specs.Lists.{lists, same_chain}
use Rattle.seal_device.proofs.Growth.{grow_over_plans}
use Rattle.seal_device.proofs.Kept.{given_now, given_later, given_opens, given_tried}
use Rattle.seal_device.proofs.Kept.{given_elsewhere, no_blob, what_opened}
use Rattle.seal_device.proofs.Passing.{passed_for_good, reached_for_good, opens_nowhere, next_nowhere}
use Rattle.seal_device.proofs.Openings.{same_chain_is, chain_itself}
use Rattle.seal_device.proofs.blob_laws.opening_law.Goals as goal

pub returns-clause-opens : goal.returns-clause-opens
returns-clause-opens g c = λ d ledger bytes counter ahead blob borne plan fuse noted ok is same.
    let before = with_fuse (act lists (Seal bytes counter ahead) d).0 fuse in
    let given = given_later d bytes counter ahead blob plan before
    (given_now d ledger bytes counter ahead blob noted ok) in
    given_opens d bytes counter ahead blob (fused costs (act lists) plan before).0.state borne
    given is same

pub returns-clause-tried : goal.returns-clause-tried
returns-clause-tried g c = λ d ledger bytes counter ahead blob borne plan fuse noted ok is same.
    let before = with_fuse (act lists (Seal bytes counter ahead) d).0 fuse in
    let given = given_later d bytes counter ahead blob plan before
    (given_now d ledger bytes counter ahead blob noted ok) in
    given_tried d bytes counter ahead blob (fused costs (act lists) plan before).0.state borne
    given is same

pub returns-clause-wrong_chain : goal.returns-clause-wrong_chain
returns-clause-wrong_chain g c = λ d ledger bytes counter ahead blob plan fuse noted ok other.
    let before = with_fuse (act lists (Seal bytes counter ahead) d).0 fuse in
    let given = given_later d bytes counter ahead blob plan before
    (given_now d ledger bytes counter ahead blob noted ok) in
    given_elsewhere d bytes counter ahead blob (fused costs (act lists) plan before).0.state given
    other

pub returns-clause-passed : goal.returns-clause-passed
returns-clause-passed g c =
    λ d ledger bytes counter ahead blob b value plan more fuse fuse' noted ok is at above.
    let before = with_fuse (act lists (Seal bytes counter ahead) d).0 fuse in
    let between = (fused costs (act lists) plan before).0.state in
    let after = with_fuse between fuse' in
    let later = (fused costs (act lists) more after).0.state in
    let given = given_later d bytes counter ahead blob more after
    (given_later d bytes counter ahead blob plan before
    (given_now d ledger bytes counter ahead blob noted ok)) in
    let grew = grow_over_plans lists more after in (
      opens_nowhere d bytes counter ahead blob later (Some b) given is
          (passed_for_good between.counters later.counters b value grew at above),
      next_nowhere d bytes counter ahead blob later (Some b) given is
          (reached_for_good between.counters later.counters b value grew at (omega arith)),
    )

pub returns-clause-reached : goal.returns-clause-reached
returns-clause-reached g c =
    λ d ledger bytes counter ahead blob b value plan more fuse fuse' noted ok is at there.
    let before = with_fuse (act lists (Seal bytes counter ahead) d).0 fuse in
    let between = (fused costs (act lists) plan before).0.state in
    let after = with_fuse between fuse' in
    let later = (fused costs (act lists) more after).0.state in
    let given = given_later d bytes counter ahead blob more after
    (given_later d bytes counter ahead blob plan before
    (given_now d ledger bytes counter ahead blob noted ok)) in
    next_nowhere d bytes counter ahead blob later (Some b) given is
    (reached_for_good between.counters later.counters b value (grow_over_plans lists more after) at
    there)

pub returns-clause-not_blob : goal.returns-clause-not_blob
returns-clause-not_blob g c = λ d keys bytes is other. no_blob d keys bytes is other

pub returns-clause-opened : goal.returns-clause-opened
returns-clause-opened g c = λ d bytes content ok. what_opened d bytes content ok

pub returns-clause-same : goal.returns-clause-same
returns-clause-same g c = λ one other. (
  same_chain_is one other,
  λ is. subst (λ chain. same_chain one chain ≡ true) is (chain_itself one),
)
