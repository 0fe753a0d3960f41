-- What the known zones have that may deny is one.
use Rattle.std.proofs.Common.{◌≡◌, ◌∙◌, ◌≤◌, ◌↔◌, ℕ, IsTrue, List, length, map, sym, subst}
use Rattle.std.proofs.lemmas.Cmp.{nat_cmp_total}
use Rattle.std.specs.List.{AllZip, enumerate_from}
use Rattle.std.specs.Ordering.{nat_cmp}
use Rattle.std.specs.Prelude.{Contains}
use Rattle.dnsv_names.specs.Name.{Labels, rightmost}
use Rattle.dnsv_canonical.proofs.OrderLemmas.{each_of}
use Rattle.dnsv_denial.specs.gathering.EvidenceWords.{Chain}
use Rattle.dnsv_remedies.specs.declared.facts.denial.SourceFacts.{SourceFacts}
use Rattle.dnsv_remedies.specs.declared.facts.denial.SpeakerFacts.{SpeakerFacts}
use Rattle.dnsv_faults.specs.KnownZones.{IsKnownZone}
use Rattle.dnsv_gaps.proofs.RisingLemmas.{mapped_from}
use Rattle.dnsv_gaps.specs.Asking.{Asking}
use Rattle.dnsv_gaps.specs.Denials.{IsDenialNumber}
use Rattle.dnsv_gaps.specs.Sources.{AreSources, source_said}
use Rattle.dnsv_gaps.specs.Speakers.{AreSourceFacts, AreSpeakerFacts, AreSpeakers}
use Rattle.dnsv_gaps.specs.Unusable.{AreUnusable}
use Rattle.dnsv_remedy_laws.specs.AlikeQuestions.{AreAlikeSources, AreAlikeSpeakers}
use Rattle.dnsv_reasons.proofs.lemmas.facts.ListLemmas.{alike_zip, one_test}
use Rattle.dnsv_reasons.proofs.lemmas.questions.CaseLemmas.{one_case}
use Rattle.dnsv_reasons.proofs.lemmas.questions.ListLemmas.{one_falling, zip_keyed}
use Rattle.dnsv_reasons.proofs.lemmas.questions.SourceLemmas.{one_sources, one_types, one_unusable}

module _ (a : Asking) where
  one_source : (zone : Labels) (placed : ℕ × Chain) (c d : SourceFacts) → AreSourceFacts a zone placed c → AreSourceFacts a zone placed d
      → AreAlikeSources c d
  one_source zone placed c d x y = record {
    place = x.place ∙ sym y.place;
    its_case = one_case a.basis (source_said a zone placed.1) (one_types a zone placed.1) zone a.name a.rtype c.case d.case
        x.its_case y.its_case;
  }

  one_speaker : (c d : SpeakerFacts) → c.labels ≡ d.labels → AreSpeakerFacts a c → AreSpeakerFacts a d → AreAlikeSpeakers c d
  one_speaker c d same x y =
      let zone_of : ℕ → Labels = λ n. rightmost a.name n in
      let Denials : ℕ → Type 0 = λ n. IsTrue c.has_denials ↔ ((k : ℕ) × IsDenialNumber a (zone_of n) k) in
      let Chains : ℕ → Type 0 = λ n. AreSources a (zone_of n) x.chains in
      let Unusable : ℕ → Type 0 = λ n. AreUnusable a (zone_of n) c.unusable.items in
      let chains : x.chains ≡ y.chains =
      one_sources a (zone_of d.labels) x.chains y.chains (subst Chains same x.are_sources) y.are_sources in
      let Facts : ℕ → List Chain → Type 0 = λ n each. AllZip (AreSourceFacts a (zone_of n)) (enumerate_from 0 each) c.sources.items in
      let facts : Facts d.labels y.chains =
      subst (λ (each : List Chain). Facts d.labels each) chains (subst (λ (n : ℕ). Facts n x.chains) same x.sources) in
      record {
        labels = same;
        has_denials = one_test ((k : ℕ) × IsDenialNumber a (zone_of d.labels) k) c.has_denials d.has_denials (subst Denials same x.denials)
            y.denials;
        sources = alike_zip (AreSourceFacts a (zone_of d.labels)) AreAlikeSources (one_source (zone_of d.labels))
            (enumerate_from 0 y.chains) c.sources.items d.sources.items facts y.sources;
        unusable = one_unusable a (zone_of d.labels) c.unusable.items d.unusable.items (subst Unusable same x.unusable) y.unusable;
      }

  abbrev labels_of : SpeakerFacts → ℕ
  labels_of facts = facts.labels

  abbrev IsKnown : ℕ → Type 0
  IsKnown n = (n ≤ length a.name) × IsKnownZone a.basis a.name a.rtype (rightmost a.name n)

  just_known : (speakers : List SpeakerFacts) → AreSpeakers a speakers → (n : ℕ) → Contains (map labels_of speakers) n ↔ IsKnown n
  just_known speakers are n = (
    λ there.
        let it = mapped_from labels_of speakers n there in
        let facts = each_of (AreSpeakerFacts a) speakers it.0 are.each it.1 in
        let within : n ≤ length a.name = subst (λ (k : ℕ). k ≤ length a.name) it.2 facts.within in
        (within, (are.known n within).0 there),
    λ known. (are.known n known.0).1 known.1,
  )

  pub one_speakers : (c d : List SpeakerFacts) → AreSpeakers a c → AreSpeakers a d → AllZip AreAlikeSpeakers c d
  one_speakers c d x y =
      let labels : map labels_of c ≡ map labels_of d =
      one_falling nat_cmp nat_cmp_total IsKnown (map labels_of c) (map labels_of d) x.falling y.falling (just_known c x) (just_known d y) in
      zip_keyed labels_of (AreSpeakerFacts a) AreAlikeSpeakers one_speaker c d labels x.each y.each
