use Rattle.std.proofs.Common.{subst}
use Rattle.dnsv_chain.specs.Basis.{basis_by}
use Rattle.dnsv_verifier.specs.Asking.{GivesEach}
use Rattle.dnsv_verifier.specs.Table.{TableContents, table_answer}
use Rattle.dnsv_zone_keys.specs.Answers.AnswerSearch.{IsSaidOf}
use Rattle.dnsv_zone_keys.specs.Keys.Index.{Placed}
use Rattle.dnsv_zone_keys.specs.Keys.{IsZoneKey}
use Rattle.dnsv_faults.proofs.lemmas.NamedLemmas.{named_are}
use Rattle.dnsv_faults.proofs.signature.named.named_keys.Goals as goal

pub returns : goal.returns
returns c =
    let rrset = c.args.rrset.now in
    let rrsig = c.args.rrsig.now in
    let Gives : TableContents → Type 0 =
    λ table. GivesEach (IsSaidOf (table_answer table) table.moment rrset rrsig) (λ (placed : Placed). IsZoneKey placed.key)
    c.args.named.now c.in_ok-keys.keys.items in
    named_are (basis_by c.args.facts.now) rrset rrsig c.args.named.now c.requires c.in_ok-keys.keys.items _
    (subst Gives c.table-table.ensures c.in_ok-keys.ensures) c.put_in_order.ensures
