use Rattle.std.proofs.Common.{◌↔◌, Bor, List, map, sym, subst}
use Rattle.dnsv_canonical.specs.Rrsets.{ReceivedRrset}
use Rattle.dnsv_verifier.specs.Admissible.{DnskeyRecord}
use Rattle.dnsv_verifier.specs.Table.{table_answer}
use Rattle.dnsv_chain.specs.Chain.{IsSignedByVouched}
use Rattle.dnsv_chain.specs.Signing.{IsSignedUnderSome}
use Rattle.dnsv_chain.proofs.ChainLemmas.{signed_by_vouched}
use Rattle.dnsv_chain.proofs.chain.is_trusted.Goals as goal

pub returns : goal.returns
returns c =
    let table = c.args.set.now.table.now in
    let set = c.args.set.now.rrset.now in
    let delegations : List ReceivedRrset = map (λ (r : Bor ReceivedRrset). r.now) c.args.delegations.now in
    let signed : IsSignedUnderSome (table_answer table) table.moment set c.in_ok-vouched.vouched.items ↔ IsSignedByVouched (table_answer table) table.moment c.args.anchors.now delegations set =
    signed_by_vouched (table_answer table) table.moment c.args.anchors.now delegations set c.in_ok-keys.keys.items c.in_ok-keys.ensures c.in_ok-vouched.vouched.items c.in_ok-vouched.ensures in
    let tested = c.in_ok-is_signed_under_some-2.ensures in (
      λ is. signed.0 (subst (λ (keys : List DnskeyRecord). IsSignedUnderSome (table_answer table) table.moment set keys) c.as_slice-2.ensures.value (tested.0 is)),
      λ by. tested.1 (subst (λ (keys : List DnskeyRecord). IsSignedUnderSome (table_answer table) table.moment set keys) (sym c.as_slice-2.ensures.value) (signed.1 by)),
    )
