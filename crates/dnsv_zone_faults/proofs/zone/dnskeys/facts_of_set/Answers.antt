use Rattle.std.proofs.Common.{◌↔◌, ℕ, IsTrue, map, refl, subst}
use Rattle.dnsv_canonical.specs.Canonical.{IsCanonical}
use Rattle.dnsv_canonical.specs.Rrsets.{ReceivedRrset}
use Rattle.dnsv_chain.specs.Trusted.{IsTrusted}
use Rattle.dnsv_zone_faults.specs.Dnskeys.{AreHeldKeys}
use Rattle.dnsv_zone_faults.specs.Dnskeys.DnskeySearch.{basis_in, rdata_of}
use Rattle.dnsv_zone_faults.specs.declared.zone.keyed.KeyedZone.{KeyedZone}
use Rattle.dnsv_zone_faults.proofs.zone.dnskeys.facts_of_set.Goals as goal

pub returns : goal.returns
returns c =
    let set = c.in_ok-set.set in
    let its = c.in_ok-set.ensures in
    let rdata = map rdata_of set.keys.items in
    let held = c.in_ok-held_keys.field-0 in
    let Trusts : KeyedZone → ReceivedRrset → Type 0 =
    λ keyed rrset. IsTrue c.is_trusted.result ↔ IsTrusted (basis_in keyed).meaning (basis_in keyed).moment (basis_in keyed).rrsets (basis_in keyed).anchors rrset in
    let Held : KeyedZone → ℕ → ReceivedRrset → Type 0 = λ keyed k rrset. AreHeldKeys (basis_in keyed) keyed.zone.now k rrset 1 rdata held.items in record {
      set = c.args.rrset.now;
      numbered = c.requires.set.numbered;
      number = refl;
      trusted = subst (λ (keyed : KeyedZone). Trusts keyed c.args.rrset.now) its.keyed
          (subst (λ (rrset : ReceivedRrset). Trusts set.keyed.now rrset) its.rrset c.is_trusted.ensures);
      signed = c.has_signatures.ensures;
      canonical = rdata;
      in_order = subst (λ (rrset : ReceivedRrset). IsCanonical rrset.rdata rdata) its.rrset its.is.keys.in_order;
      keys = subst (λ (keyed : KeyedZone). Held keyed c.args.number c.args.rrset.now) its.keyed
          (subst (λ (k : ℕ). Held set.keyed.now k c.args.rrset.now) its.number
          (subst (λ (rrset : ReceivedRrset). Held set.keyed.now set.number rrset) its.rrset c.in_ok-held_keys.ensures));
    }
