use Rattle.std.proofs.Common.{◌-◌, List, map, sym, subst, ◌∙◌, refl}
use Rattle.std.proofs.lemmas.Bool.{eqb-true, not-false}
use Rattle.std.specs.List.{AllByRecursion}
use Rattle.dnsv_records.specs.Dnskey.{IsDnskey}
use Rattle.dnsv_records.specs.declared.dnskey.Dnskey.{Dnskey}
use Rattle.dnsv_canonical.specs.Canonical.{IsCanonical}
use Rattle.dnsv_rrsets.specs.declared.canonical_order.ReadRecord.{ReadRecord}
use Rattle.dnsv_proof_forms.proofs.lemmas.PlaceLemmas.{each_at}
use Rattle.dnsv_trust_reasons.proofs.PlaceLemmas.{none_placed, some_placed}
use Rattle.dnsv_trust_reasons.proofs.key.key_at.Goals as goal

pub returns-in_default : goal.returns-in_default
returns-in_default c = λ key is.
    none_placed c.args.rrset.now c.deref.result.now c.args.place
    (subst (λ (each : List (ReadRecord Dnskey)). IsCanonical c.args.rrset.now.rdata (map (λ (one : ReadRecord Dnskey). one.rdata.now) each))
    (sym c.deref.ensures.value) c.in_ok-records.ensures.order)
    c.in_default.ensures is.rdata is.placed

pub returns : goal.returns
returns c =
    let rrset = c.args.rrset.now in
    let records = c.deref.result.now in
    let found = c.in-Some.found.now in
    let read = subst (λ (each : List (ReadRecord Dnskey)). AllByRecursion (λ (one : ReadRecord Dnskey). IsDnskey one.rdata.now one.record.now) each)
    (sym c.deref.ensures.value) c.in_ok-records.ensures.read in record {
      rtype = sym c.rtype.ensures ∙ eqb-true _ _ (not-false _ (sym c.ne.ensures ∙ c.if-ne.false));
      rdata = found.rdata.now;
      placed = some_placed rrset records c.args.place
          (subst (λ (each : List (ReadRecord Dnskey)). IsCanonical rrset.rdata (map (λ (one : ReadRecord Dnskey). one.rdata.now) each))
          (sym c.deref.ensures.value) c.in_ok-records.ensures.order)
          found c.in-Some.ensures;
      dnskey = found.record.now;
      read = each_at (λ (one : ReadRecord Dnskey). IsDnskey one.rdata.now one.record.now) records (c.args.place - 1) found read c.in-Some.ensures.1;
      tag = c.key_tag.ensures;
      algorithm = refl;
    }
