use Rattle.std.proofs.Common.{◌≡◌, ◌-◌, List, map, sym, subst, ◌∙◌, refl}
use Rattle.std.proofs.lemmas.Bool.{eqb-true, not-false}
use Rattle.std.specs.List.{AllByRecursion}
use Rattle.dnsv_records.specs.Ds.{IsDs}
use Rattle.dnsv_records.specs.declared.ds.Ds.{Ds}
use Rattle.dnsv_canonical.specs.Canonical.{IsCanonical}
use Rattle.dnsv_canonical.specs.Rrsets.{ReceivedRrset}
use Rattle.dnsv_canonical.proofs.NumberLemmas.{one_numbered}
use Rattle.dnsv_rrsets.specs.declared.canonical_order.ReadRecord.{ReadRecord}
use Rattle.dnsv_proof_forms.proofs.lemmas.PlaceLemmas.{each_at}
use Rattle.dnsv_lines.specs.declared.line.fault.zone.Entry.{Entry}
use Rattle.dnsv_trust_reasons.specs.Places.{IsDsEntry, IsPlaced}
use Rattle.dnsv_trust_reasons.proofs.PlaceLemmas.{none_placed, some_placed}
use Rattle.dnsv_trust_reasons.proofs.entry.ds_entry.Goals as goal

pub returns-in_default-numbered : goal.returns-in_default-numbered
returns-in_default-numbered c = λ entry is.
    let rrset = c.in-Some.rrset.now in
    let same : is.rrset ≡ rrset = one_numbered c.args.capture.now.rrsets c.args.number.rrset is.rrset rrset is.numbered c.in-Some.ensures in
    let Placed : ReceivedRrset → Type 0 = λ each. IsPlaced each c.args.number.place is.rdata in
    none_placed rrset c.deref.result.now c.args.number.place
    (subst (λ (each : List (ReadRecord Ds)). IsCanonical rrset.rdata (map (λ (one : ReadRecord Ds). one.rdata.now) each))
    (sym c.deref.ensures.value) c.in_ok-records.ensures.order)
    c.in_default-numbered.ensures is.rdata (subst Placed same is.placed)

pub returns : goal.returns
returns c =
    let rrset = c.in-Some.rrset.now in
    let records = c.deref.result.now in
    let found = c.in-Some-numbered.found.now in
    let read = subst (λ (each : List (ReadRecord Ds)). AllByRecursion (λ (one : ReadRecord Ds). IsDs one.rdata.now one.record.now) each)
    (sym c.deref.ensures.value) c.in_ok-records.ensures.read in
    subst (λ (entry : Entry). IsDsEntry c.args.capture.now.rrsets c.args.number entry) (sym c.told_ds.ensures) (record {
      rrset = rrset;
      numbered = c.in-Some.ensures;
      rtype = sym c.rtype.ensures ∙ eqb-true _ _ (not-false _ (sym c.ne.ensures ∙ c.if-ne.false));
      rdata = found.rdata.now;
      placed = some_placed rrset records c.args.number.place
          (subst (λ (each : List (ReadRecord Ds)). IsCanonical rrset.rdata (map (λ (one : ReadRecord Ds). one.rdata.now) each))
          (sym c.deref.ensures.value) c.in_ok-records.ensures.order)
          found c.in-Some-numbered.ensures;
      ds = found.record.now;
      read = each_at (λ (one : ReadRecord Ds). IsDs one.rdata.now one.record.now) records (c.args.number.place - 1) found read
          c.in-Some-numbered.ensures.1;
      is = refl;
    })
