use Rattle.std.proofs.Common.{sym, ◌∙◌, subst}
use Rattle.std.proofs.lemmas.Bool.{false≢true}
use Rattle.dnsv_names.specs.Name.{Labels}
use Rattle.dnsv_faults.specs.KnownZones.{HasRrset}
use Rattle.dnsv_zone_keys.proofs.lemmas.IndexLemmas.{names_none}
use Rattle.dnsv_faults.proofs.lemmas.KnownLemmas.{has_keys}
use Rattle.dnsv_faults.proofs.signature.is_key_missing.Goals as goal

pub returns-then-has_rrset : goal.returns-then-has_rrset
returns-then-has_rrset c =
    let rrsets = c.args.facts.now.rrsets in
    let there = subst (λ (zone : Labels). HasRrset rrsets zone 48) c.to_name.ensures (c.has_rrset.ensures.0 c.if-has_rrset.true) in
    let keys = (has_keys rrsets c.args.rrsig.now.signer).0 there in
    let none = names_none rrsets c.args.rrsig.now c.args.named.now c.is_empty.result c.requires c.is_empty.ensures in
    (λ yes. (keys, none.0 yes), λ both. none.1 both.1)

pub returns-else-has_rrset : goal.returns-else-has_rrset
returns-else-has_rrset c =
    let rrsets = c.args.facts.now.rrsets in (
      λ yes. absurd (false≢true (sym c.if-has_rrset.false ∙ yes)),
      λ both.
          let there = (has_keys rrsets c.args.rrsig.now.signer).1 both.0 in
          c.has_rrset.ensures.1 (subst (λ (zone : Labels). HasRrset rrsets zone 48) (sym c.to_name.ensures) there),
    )
