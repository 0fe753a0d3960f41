-- What a wildcard's signature asks for beside it is one.
use Rattle.std.proofs.Common.{◌≡◌, ◌∙◌, ℕ, List, Option, Some, None, length, sym, subst}
use Rattle.dnsv_names.specs.Name.{rightmost}
use Rattle.dnsv_records.proofs.OneRecord.{one_rrsig}
use Rattle.dnsv_records.specs.Rrsig.{IsRrsig}
use Rattle.dnsv_records.specs.declared.rrsig.Rrsig.{Rrsig}
use Rattle.dnsv_canonical.specs.Rrsets.{ReceivedRrset}
use Rattle.dnsv_canonical.proofs.NumberLemmas.{one_numbered}
use Rattle.dnsv_remedies.specs.declared.facts.answer.CloserFacts.{CloserFacts}
use Rattle.dnsv_faults.specs.Signatures.{IsSignatureAt}
use Rattle.dnsv_gaps.specs.Asking.{Asking}
use Rattle.dnsv_gaps.specs.questions.Closers.{HasCloserAt, IsCloserOf, IsCover}
use Rattle.dnsv_remedy_laws.specs.AlikeQuestions.{MayBeAlikeClosers}
use Rattle.dnsv_remedy_laws.specs.AlikeQuestions.MayBeAlikeClosers.{without, with_one}
use Rattle.dnsv_reasons.proofs.lemmas.questions.PartLemmas.{one_part}
use Rattle.dnsv_reasons.proofs.lemmas.questions.SourceLemmas.{one_unusable}

-- one signature has a number
one_signature : (rrset : ReceivedRrset) (s : ℕ) (u v : Rrsig) → IsSignatureAt rrset s u → IsSignatureAt rrset s v → u ≡ v
one_signature rrset s u v x y =
    let rdata : x.rdata ≡ y.rdata = one_numbered rrset.signatures s x.rdata y.rdata x.numbered y.numbered in
    one_rrsig y.rdata u v (subst (λ (each : List ℕ). IsRrsig each u) rdata x.is) y.is

module _ (a : Asking) (rrset : ReceivedRrset) where
  one_closer_of : (rrsig : Rrsig) (c d : Option CloserFacts) → IsCloserOf a rrset rrsig c → IsCloserOf a rrset rrsig d
      → MayBeAlikeClosers c d
  one_closer_of rrsig None None x y = without
  one_closer_of rrsig None (Some d) x y = absurd (x y.0)
  one_closer_of rrsig (Some c) None x y = absurd (y x.0)
  one_closer_of rrsig (Some c) (Some d) x y = with_one c d (record {
    name = x.1.name ∙ sym y.1.name;
    covers = one_part a.basis (IsCover a (length rrsig.signer) rrsig.labels) c.covers.items d.covers.items x.1.covers y.1.covers;
    unusable = one_unusable a (rightmost a.name (length rrsig.signer)) c.unusable.items d.unusable.items x.1.unusable y.1.unusable;
  })

  pub one_closer : (number : ℕ) (c d : Option CloserFacts) → HasCloserAt a rrset number c → HasCloserAt a rrset number d
      → MayBeAlikeClosers c d
  one_closer number c d x y =
      let rrsig : x.rrsig ≡ y.rrsig = one_signature rrset number x.rrsig y.rrsig x.its y.its in
      one_closer_of y.rrsig c d (subst (λ (each : Rrsig). IsCloserOf a rrset each c) rrsig x.is) y.is
