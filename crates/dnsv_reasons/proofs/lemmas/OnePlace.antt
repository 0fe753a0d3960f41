-- What numbers name is one thing.
use Rattle.std.proofs.Common.{◌≡◌, ℕ, List, Option, Some, None, sym, ap, ap₂, subst, ◌∙◌}
use Rattle.std.specs.List.{slice_get}
use Rattle.dnsv_names.specs.Name.{Labels}
use Rattle.dnsv_records.specs.Dnskey.{IsDnskey}
use Rattle.dnsv_records.specs.Dnskey.KeyTag.{key_tag_of}
use Rattle.dnsv_records.specs.Ds.{IsDs}
use Rattle.dnsv_records.specs.Rrsig.{IsRrsig}
use Rattle.dnsv_records.specs.declared.dnskey.Dnskey.{Dnskey}
use Rattle.dnsv_records.specs.declared.ds.Ds.{Ds}
use Rattle.dnsv_records.specs.declared.nsec3.Nsec3Parameters.{Nsec3Parameters}
use Rattle.dnsv_records.specs.declared.rrsig.Rrsig.{Rrsig}
use Rattle.dnsv_records.proofs.OneRecord.{one_dnskey, one_ds, one_rrsig}
use Rattle.dnsv_zones.specs.chains.Nsec3Chain.{Parameters}
use Rattle.dnsv_zones.specs.chains.Rdata.{parameters_of}
use Rattle.dnsv_canonical.specs.Rrsets.{IsNumbered, ReceivedRrset}
use Rattle.dnsv_canonical.specs.declared.number.SignatureNumber.{SignatureNumber}
use Rattle.dnsv_canonical.proofs.CanonicalLemmas.{canonical_unique}
use Rattle.dnsv_anchors.specs.declared.anchor.Anchor.{Anchor}
use Rattle.dnsv_denial.specs.gathering.EvidenceWords.{Chain}
use Rattle.dnsv_denial.specs.gathering.EvidenceWords.Chain.{ByNsec, ByNsec3}
use Rattle.dnsv_canonical.proofs.NumberLemmas.{one_numbered}
use Rattle.dnsv_lines.specs.declared.line.derivation.KeyName.{KeyName}
use Rattle.dnsv_lines.specs.declared.line.fault.denial.Source.{Source}
use Rattle.dnsv_lines.specs.declared.line.fault.signature.ShownSignature.{ShownSignature}
use Rattle.dnsv_lines.specs.declared.line.fault.zone.Entry.{Entry}
use Rattle.dnsv_lines.specs.declared.line.fault.zone.EntryNumber.{EntryNumber}
use Rattle.dnsv_lines.specs.declared.line.fault.zone.EntryNumber.TheVariants as number
use Rattle.dnsv_gaps.specs.Asking.{Asking}
use Rattle.dnsv_gaps.specs.Sources.{AreSources}
use Rattle.dnsv_remedies.specs.declared.facts.name.AskedName.{AskedName}
use Rattle.dnsv_remedies.specs.declared.facts.name.AskedName.TheVariants.{At, Wildcard}
use Rattle.dnsv_remedies.specs.declared.facts.name.SourceNumber.{SourceNumber}
use Rattle.dnsv_trust_reasons.specs.Places.{IsAbove, IsAnchorEntry, IsEntry, IsKeyAt, IsPlaced, IsShown, anchor_entry, ds_entry, shown_of}
use Rattle.dnsv_reasons.specs.Sources.{IsAskedName, IsParametersOf, IsSource}
use Rattle.dnsv_reasons.proofs.SourceLemmas.{one_list}

-- ---- names and records

pub one_above : (name : Labels) (n : ℕ) (x y : Labels) → IsAbove name n x → IsAbove name n y → x ≡ y
one_above name n x y first second = first.is ∙ sym second.is

pub one_placed : (rrset : ReceivedRrset) (place : ℕ) (x y : List ℕ) → IsPlaced rrset place x → IsPlaced rrset place y → x ≡ y
one_placed rrset place x y first second =
    let lists : first.canonical ≡ second.canonical =
    canonical_unique rrset.rdata first.canonical second.canonical first.in_order second.in_order in
    one_numbered second.canonical place x y (subst (λ (all : List (List ℕ)). IsNumbered all place x) lists first.numbered) second.numbered

-- ---- signatures

pub one_shown : (rrsets : List ReceivedRrset) (n : SignatureNumber) (x y : ShownSignature) → IsShown rrsets n x → IsShown rrsets n y → x ≡ y
one_shown rrsets n x y first second =
    let sets : first.rrset ≡ second.rrset = one_numbered rrsets n.rrset first.rrset second.rrset first.numbered second.numbered in
    let rdata : first.rdata ≡ second.rdata =
    one_numbered second.rrset.signatures n.signature first.rdata second.rdata
    (subst (λ (set : ReceivedRrset). IsNumbered set.signatures n.signature first.rdata) sets first.is_signature) second.is_signature in
    let read : first.rrsig ≡ second.rrsig =
    one_rrsig second.rdata first.rrsig second.rrsig
    (subst (λ (octets : List ℕ). IsRrsig octets first.rrsig) rdata first.read) second.read in
    first.is ∙ ap₂ (λ (set : ReceivedRrset) (rrsig : Rrsig). shown_of n set rrsig) sets read ∙ sym second.is

-- ---- trust anchors and DS records

one_anchor : (anchors : List Anchor) (a : ℕ) (x y : Entry) → IsAnchorEntry anchors a x → IsAnchorEntry anchors a y → x ≡ y
one_anchor anchors a x y first second =
    first.is
    ∙ ap (anchor_entry a) (one_numbered anchors a first.anchor second.anchor first.numbered second.numbered)
    ∙ sym second.is

pub one_entry : (rrsets : List ReceivedRrset) (anchors : List Anchor) (n : EntryNumber) (x y : Entry) → IsEntry rrsets anchors n x
    → IsEntry rrsets anchors n y → x ≡ y
one_entry rrsets anchors (number.Anchor a) x y first second = one_anchor anchors a x y first second
one_entry rrsets anchors (number.Ds n) x y first second =
    let sets : first.rrset ≡ second.rrset = one_numbered rrsets n.rrset first.rrset second.rrset first.numbered second.numbered in
    let rdata : first.rdata ≡ second.rdata =
    one_placed second.rrset n.place first.rdata second.rdata
    (subst (λ (set : ReceivedRrset). IsPlaced set n.place first.rdata) sets first.placed) second.placed in
    let read : first.ds ≡ second.ds =
    one_ds second.rdata first.ds second.ds (subst (λ (octets : List ℕ). IsDs octets first.ds) rdata first.read) second.read in
    first.is ∙ ap₂ (λ (set : ReceivedRrset) (ds : Ds). ds_entry n set ds) sets read ∙ sym second.is

-- ---- keys

pub one_key : (set : ReceivedRrset) (place : ℕ) (x y : KeyName) → IsKeyAt set place x → IsKeyAt set place y → x ≡ y
one_key set place x y first second =
    let rdata : first.rdata ≡ second.rdata = one_placed set place first.rdata second.rdata first.placed second.placed in
    let read : first.dnskey ≡ second.dnskey =
    one_dnskey second.rdata first.dnskey second.dnskey
    (subst (λ (octets : List ℕ). IsDnskey octets first.dnskey) rdata first.read) second.read in
    let tag : x.tag.0 ≡ y.tag.0 = first.tag ∙ ap key_tag_of rdata ∙ sym second.tag in
    let algorithm : x.algorithm ≡ y.algorithm = first.algorithm ∙ ap (λ (key : Dnskey). key.algorithm) read ∙ sym second.algorithm in
    λ i. record { tag = record { 0 = tag i }; algorithm = algorithm i }

-- ---- sources

pub one_parameters : (chain : Chain) (x y : Option Nsec3Parameters) → IsParametersOf chain x → IsParametersOf chain y → x ≡ y
one_parameters ByNsec x y first second = first ∙ sym second
one_parameters (ByNsec3 shared) None y first second = absurd first
one_parameters (ByNsec3 shared) (Some x) None first second = absurd second
one_parameters (ByNsec3 shared) (Some x) (Some y) first second =
    let same : parameters_of x ≡ parameters_of y = first ∙ sym second in
    let iterations : x.iterations.0 ≡ y.iterations.0 = ap (λ (each : Parameters). each.iterations) same in
    let salt : x.salt ≡ y.salt = ap (λ (each : Parameters). each.salt) same in
    λ i. Some (record { iterations = record { 0 = iterations i }; salt = salt i })

pub one_source : (a : Asking) (n : SourceNumber) (x y : Source) → IsSource a n x → IsSource a n y → x ≡ y
one_source a n x y first second =
    let zones : first.zone ≡ second.zone = one_above a.name n.zone first.zone second.zone first.above second.above in
    let chains : first.chains ≡ second.chains =
    one_list a second.zone first.chains second.chains
    (subst (λ (zone : Labels). AreSources a zone first.chains) zones first.are) second.are in
    let at : slice_get second.chains n.place ≡ Some first.chain =
    subst (λ (each : List Chain). slice_get each n.place ≡ Some first.chain) chains first.placed in
    let here : slice_get second.chains n.place ≡ Some second.chain = second.placed in
    let chain : first.chain ≡ second.chain = cc in
    let zone : x.zone ≡ y.zone = first.its_zone ∙ zones ∙ sym second.its_zone in
    let parameters : x.parameters ≡ y.parameters =
    one_parameters second.chain x.parameters y.parameters
    (subst (λ (each : Chain). IsParametersOf each x.parameters) chain first.its_chain) second.its_chain in
    λ i. record { zone = zone i; parameters = parameters i }

pub one_asked : (name : Labels) (asked : AskedName) (x y : Labels) → IsAskedName name asked x → IsAskedName name asked y → x ≡ y
one_asked name (At n) x y first second = one_above name n x y first second
one_asked name (Wildcard n) x y first second = first.1 ∙ sym second.1
