-- What is so of an RRset is one.
use Rattle.std.proofs.Common.{◌≡◌, ◌∙◌, ℕ, List, map, sym, subst}
use Rattle.std.specs.List.{AllZip}
use Rattle.dnsv_records.specs.declared.rrsig.Rrsig.{Rrsig}
use Rattle.dnsv_canonical.specs.Rrsets.{ReceivedRrset}
use Rattle.dnsv_chain.specs.Basis.{Basis}
use Rattle.dnsv_mending.specs.declared.facts.signature.RrsetFacts.{RrsetFacts}
use Rattle.dnsv_mending.specs.declared.facts.signature.SignatureFacts.{SignatureFacts}
use Rattle.dnsv_faults.specs.Rrsets.{AreInOrder, AreRrsetFacts, Rank, rank_of}
use Rattle.dnsv_faults.specs.Signatures.{AreSignatureFacts}
use Rattle.dnsv_faults.proofs.lemmas.OrderLemmas.{zip_mapped}
use Rattle.dnsv_canonical.proofs.NumberLemmas.{one_numbered}
use Rattle.dnsv_remedy_laws.specs.AlikeZones.{AreAlikeRrsets, AreAlikeSignatures}
use Rattle.dnsv_reasons.proofs.lemmas.facts.ListLemmas.{alike_zip}
use Rattle.dnsv_reasons.proofs.lemmas.facts.OrderLemmas.{one_order}
use Rattle.dnsv_reasons.proofs.lemmas.facts.SignatureLemmas.{one_signature_facts}

module _ (basis : Basis) (k : ℕ) where
  -- what is so of the signature with the number of the rank
  abbrev AreFactsAt : ReceivedRrset → Rank → SignatureFacts → Type 0
  AreFactsAt rrset rank facts = AreSignatureFacts basis k rrset rank.number facts

  by_rank : (rrset : ReceivedRrset) (order : List (ℕ × Rrsig)) (facts : List SignatureFacts)
      → AllZip (λ signature known. AreSignatureFacts basis k rrset signature.0 known) order facts
      → AllZip (AreFactsAt rrset) (map rank_of order) facts
  by_rank rrset order facts each = zip_mapped (AreFactsAt rrset) rank_of order facts each

  pub one_rrset_facts : (a b : RrsetFacts) → AreRrsetFacts basis k a → AreRrsetFacts basis k b → AreAlikeRrsets a b
  one_rrset_facts a b x y =
      let rrset : x.rrset ≡ y.rrset = one_numbered basis.rrsets k x.rrset y.rrset x.numbered y.numbered in
      let InOrder : ReceivedRrset → Type 0 = λ each. AreInOrder each x.order in
      let order : map rank_of x.order ≡ map rank_of y.order =
      one_order y.rrset x.order y.order (subst InOrder rrset x.in_order) y.in_order in
      let Of : ReceivedRrset → Type 0 = λ each. AllZip (AreFactsAt each) (map rank_of x.order) a.signatures.items in
      let By : List Rank → Type 0 = λ each. AllZip (AreFactsAt y.rrset) each a.signatures.items in
      let first : AllZip (AreFactsAt y.rrset) (map rank_of y.order) a.signatures.items =
      subst By order (subst Of rrset (by_rank x.rrset x.order a.signatures.items x.each)) in
      let second : AllZip (AreFactsAt y.rrset) (map rank_of y.order) b.signatures.items =
      by_rank y.rrset y.order b.signatures.items y.each in
      record {
        number = x.number ∙ sym y.number;
        signatures =
            alike_zip (AreFactsAt y.rrset) AreAlikeSignatures (λ rank c d p q. one_signature_facts basis k y.rrset rank.number c d p q)
            (map rank_of y.order) a.signatures.items b.signatures.items first second;
      }
