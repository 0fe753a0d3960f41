-- The sources of a zone are one list, their records have one set of types each, and those that can't be used are one list.
use Rattle.std.proofs.Common.{◌≡◌, ℕ, List, refl, subst}
use Rattle.dnsv_names.specs.Name.{Labels}
use Rattle.dnsv_zones.specs.chains.HashedNames.{sha1_hash}
use Rattle.dnsv_zones.specs.chains.Nsec3Chain.{Nsec3Record}
use Rattle.dnsv_zones.specs.chains.NsecChain.{IsInBitmap, NsecRecord}
use Rattle.dnsv_zones.specs.forms.Nsec as by_nsec
use Rattle.dnsv_zones.specs.forms.Nsec3 as by_nsec3
use Rattle.dnsv_zones.specs.forms.RecordWords.{RecordWords}
use Rattle.dnsv_canonical.specs.declared.number.RecordNumber.{RecordNumber}
use Rattle.dnsv_denial.proofs.lemmas.gathering.EvidenceLemmas.{one_nsec_of}
use Rattle.dnsv_denial.proofs.lemmas.gathering.NumberedLemmas.{one_nsec3_of}
use Rattle.dnsv_denial.proofs.lemmas.proving.NumberLemmas.{number_cmp_total}
use Rattle.dnsv_denial.proofs.lemmas.proving.ZoneChainLemmas.{no_circle}
use Rattle.dnsv_denial.specs.gathering.EvidenceWords.{Chain, GoesBefore}
use Rattle.dnsv_proof_forms.specs.records.Numbers.{number_cmp}
use Rattle.dnsv_denial.specs.gathering.EvidenceWords.Chain.{ByNsec, ByNsec3}
use Rattle.dnsv_remedies.specs.declared.facts.name.UnusableFacts.{UnusableFacts}
use Rattle.dnsv_gaps.specs.Asking.{Asking}
use Rattle.dnsv_gaps.specs.Cases.{IsAt}
use Rattle.dnsv_gaps.specs.Sources.{AreSources, HasRecords, source_said}
use Rattle.dnsv_gaps.specs.Unusable.{AreUnusable, IsUnusableOf}
use Rattle.dnsv_reasons.proofs.lemmas.questions.ListLemmas.{in_order_by_places, one_by_keys, one_in_order}

-- of what is said of a record's types by two words, both are said of the same types
abbrev pub HasOneTypes : RecordWords RecordNumber → Type 1
HasOneTypes said = (Told : Type 0) (P Q : (ℕ → Type 0) → Type 0) → ((has : ℕ → Type 0) → P has → Q has → Told) → (name : Labels)
    (n : RecordNumber) → said.TypesAt name P n → said.TypesAt name Q n → Told

-- a record that has such types at a name is at it
abbrev pub AreAtTheirNames : RecordWords RecordNumber → Type 1
AreAtTheirNames said = (P : (ℕ → Type 0) → Type 0) (name : Labels) (n : RecordNumber) → said.TypesAt name P n → IsAt said name n

module _ (a : Asking) (zone : Labels) where
  pub one_types : (chain : Chain) → HasOneTypes (source_said a zone chain)
  one_types ByNsec Told P Q both name n x y =
      let first : by_nsec.HasTypesBy x.0 name P = x.2 in
      let second : by_nsec.HasTypesBy y.0 name Q = y.2 in
      let same : x.0 ≡ y.0 = one_nsec_of a.basis.rrsets n x.0 y.0 x.1.is y.1.is in
      both (IsInBitmap y.0.types) (subst (λ (nsec : NsecRecord). P (IsInBitmap nsec.types)) same first.1) second.1
  one_types (ByNsec3 parameters) Told P Q both name n x y =
      let first : by_nsec3.HasTypesBy (sha1_hash parameters) x.0 name P = x.2 in
      let second : by_nsec3.HasTypesBy (sha1_hash parameters) y.0 name Q = y.2 in
      let same : x.0 ≡ y.0 = one_nsec3_of a.basis.rrsets zone zone n x.0 y.0 x.1.is y.1.is in
      both (IsInBitmap y.0.types) (subst (λ (nsec3 : Nsec3Record). P (IsInBitmap nsec3.types)) same first.1) second.1

  pub at_its_name : (chain : Chain) → AreAtTheirNames (source_said a zone chain)
  at_its_name ByNsec P name n x = let has : by_nsec.HasTypesBy x.0 name P = x.2 in (x.0, x.1, (has.0, tt))
  at_its_name (ByNsec3 parameters) P name n x =
      let has : by_nsec3.HasTypesBy (sha1_hash parameters) x.0 name P = x.2 in (x.0, x.1, (has.0, tt))

  pub one_sources : (c d : List Chain) → AreSources a zone c → AreSources a zone d → c ≡ d
  one_sources c d x y =
      one_in_order GoesBefore (λ first other less more. no_circle first other other first less more refl refl) (HasRecords a zone) c d
      (in_order_by_places GoesBefore c x.order) (in_order_by_places GoesBefore d y.order) x.members y.members

  pub one_unusable : (c d : List UnusableFacts) → AreUnusable a zone c → AreUnusable a zone d → c ≡ d
  one_unusable c d x y =
      one_by_keys number_cmp number_cmp_total (λ (each : UnusableFacts). each.number)
      (λ (each : UnusableFacts). IsUnusableOf a zone each.number each.why) c d x.rising y.rising (λ each. x.members each.number each.why)
      (λ each. y.members each.number each.why)
