use Rattle.std.proofs.Common.{◌≡◌, Bor, List, map, ap, ◌∙◌, subst}
use Rattle.dnsv_canonical.specs.Rrsets.{ReceivedRrset}
use Rattle.dnsv_verifier.specs.Table.{table_answer}
use Rattle.dnsv_anchors.specs.ByOwner.{values_at}
use Rattle.dnsv_chain.specs.ByOwner.{rrsets_at}
use Rattle.dnsv_chain.specs.Chain.{IsSignedByVouched}
use Rattle.dnsv_chain.proofs.ChainLemmas.{trusted_added}
use Rattle.dnsv_chain.proofs.chain.add_trusted.Goals as goal

pub returns-in_ok-add_keys-clause-trusted : goal.returns-in_ok-add_keys-clause-trusted
returns-in_ok-add_keys-clause-trusted c =
    let table = c.args.set.now.table.now in
    let set = c.args.set.now.rrset.now in
    let refs : c.at.result.now ≡ values_at c.args.delegations.now set.owner = c.at.ensures ∙ ap (values_at c.args.delegations.now) (c.of-owner.ensures ∙ c.owner.ensures) in
    let by : IsSignedByVouched (table_answer table) table.moment c.args.anchors.now (rrsets_at c.args.delegations.now set.owner) set =
    subst (λ (list : List (Bor ReceivedRrset)). IsSignedByVouched (table_answer table) table.moment c.args.anchors.now (map (λ r. r.now) list) set) refs (c.in_ok-is_trusted.ensures.0 c.if-branch.true) in
    trusted_added (table_answer table) table.moment c.args.anchors.now (rrsets_at c.args.delegations.now) set (values_at c.args.keys.now) (values_at c.add_keys.new.keys) by c.in_ok-add_keys.ensures.adds
