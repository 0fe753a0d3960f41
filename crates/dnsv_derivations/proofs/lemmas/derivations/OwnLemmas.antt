-- The lowest signature of an RRset that is the zone's own.
use Rattle.std.proofs.Common.{◌≡◌, ◌<◌, ◌≤◌, ◌-◌, ℕ, List, length, get_or, sym, ◌∙◌, subst, ⊎_elim, arith}
use Rattle.std.proofs.lemmas.Bool.{cases_lt}
use Rattle.std.proofs.lemmas.List.{get_or_default}
use Rattle.std.proofs.lemmas.List.Elements.{Contains-get_or}
use Rattle.std.proofs.lemmas.Map.Keys.{below_from_sorted, sorted_from_strictly_increasing}
use Rattle.std.specs.List.{AllZip, Contains}
use Rattle.dnsv_names.specs.Name.{Labels, SameName}
use Rattle.dnsv_records.proofs.OneRecord.{one_rrsig}
use Rattle.dnsv_records.specs.Rrsig.{IsRrsig}
use Rattle.dnsv_records.specs.declared.rrsig.Rrsig.{Rrsig}
use Rattle.dnsv_canonical.specs.Rrsets.{IsNumbered, ReceivedRrset}
use Rattle.dnsv_canonical.specs.SignedData.{IsExpanded}
use Rattle.dnsv_chain.specs.Trust.{AreSecured}
use Rattle.dnsv_denial.specs.gathering.Evidence.{HasZoneSignature, IsSecuredBy}
use Rattle.dnsv_derivations.specs.Explained.{Setting}
use Rattle.dnsv_derivations.specs.derivations.OwnDerivations.{IsLowestOwn, IsOwnDerivation, IsOwnSignature, IsSignatureTold, SecuredIn}
use Rattle.dnsv_derivations.specs.derivations.OwnSearch.{IsNoneOwn}
use Rattle.dnsv_derivations.specs.Saying.{Adds}
use Rattle.dnsv_lines.specs.declared.line.Line.{Line}
use Rattle.dnsv_canonical.specs.declared.number.SignatureNumber.{SignatureNumber}
use Rattle.dnsv_derivations.proofs.lemmas.derivations.ClimbLemmas.{number_is}
use Rattle.dnsv_canonical.proofs.NumberLemmas.{one_numbered}
use Rattle.dnsv_derivations.proofs.lemmas.denials.PartLemmas.{signature_too}
use Rattle.dnsv_derivations.proofs.lemmas.intervals.ShownLemmas.{rdata_at, read_at}

module _ (setting : Setting) (zone : Labels) (k : ℕ) where
  -- some signature of the zone is one with a number
  pub its_number : (by : IsSecuredBy (SecuredIn setting) setting.rrsets zone k) → IsOwnSignature setting zone k by.signed.signature
  its_number by = record {
    rrset = by.rrset;
    is_rrset = by.is_rrset;
    signed = signature_too (SecuredIn setting k) (λ t. (t ≡ by.signed.signature) × SecuredIn setting k t) by.rrset zone by.signed
        (λ i. by.signed.signature, by.signed.secured);
  }

  pub own_secured : (s : ℕ) → IsOwnSignature setting zone k s → SecuredIn setting k s
  own_secured s own =
      let Secured : ℕ → Type 0 = λ t. SecuredIn setting k t in subst Secured own.signed.secured.0 own.signed.secured.1

  pub lowest_secured : (number : SignatureNumber) → number.rrset ≡ k → IsLowestOwn setting zone k number.signature
      → SecuredIn setting number.rrset number.signature
  lowest_secured number same lowest =
      let Secured : ℕ → Type 0 = λ n. SecuredIn setting n number.signature in
      subst Secured (sym same) (own_secured number.signature lowest.own)

  -- what is derived of the lowest is what is asked for
  pub own_derived : (number : SignatureNumber) (old new : List Line) → number.rrset ≡ k → IsLowestOwn setting zone k number.signature
      → Adds (IsSignatureTold setting number) old new → Adds (IsOwnDerivation setting zone k) old new
  own_derived number old new same lowest added =
      let Derives : SignatureNumber → Type 0 = λ each. IsSignatureTold setting each old added.more in record {
        more = added.more;
        is = added.is;
        says = record { s = number.signature; lowest = lowest; derivation = subst Derives (number_is number k same) added.says };
      }

  module _ (rrset : ReceivedRrset) (numbered : IsNumbered setting.rrsets k rrset) (numbers : List ℕ)
      (are : AreSecured setting.meaning setting.moment setting.rrsets setting.anchors k numbers) where
    own_at : (i : ℕ) → i < length numbers → HasZoneSignature (λ s. s ≡ get_or numbers i 0) rrset zone
        → IsOwnSignature setting zone k (get_or numbers i 0)
    own_at i within has =
        let Secured : ℕ → Type 0 = λ t. SecuredIn setting k t in
        let secured : Secured (get_or numbers i 0) = (are.members (get_or numbers i 0)).0 (Contains-get_or numbers i 0 within) in
        record {
          rrset = rrset;
          is_rrset = numbered;
          signed = signature_too (λ s. s ≡ get_or numbers i 0) (λ t. (t ≡ get_or numbers i 0) × SecuredIn setting k t) rrset zone has
              (has.secured, subst Secured (sym has.secured) secured);
        }

    -- an own signature is at a place
    record OwnPlace (s : ℕ) : Type 0 where
      place : ℕ
      within : place < length numbers
      is : get_or numbers place 0 ≡ s
      has : HasZoneSignature (λ t. t ≡ get_or numbers place 0) rrset zone

    own_place : (s : ℕ) → IsOwnSignature setting zone k s → OwnPlace s
    own_place s own =
        let Secured : ℕ → Type 0 = λ t. SecuredIn setting k t in
        let there : Contains numbers s = (are.members s).1 (subst Secured own.signed.secured.0 own.signed.secured.1) in
        let is : get_or numbers there.0 0 ≡ s = get_or_default numbers there.0 0 s there.1 ∙ there.2 in
        let Has : ReceivedRrset → Type 0 = λ each. HasZoneSignature (λ t. t ≡ get_or numbers there.0 0) each zone in
        record {
          place = there.0;
          within = there.1;
          is = is;
          has = subst Has (one_numbered setting.rrsets k own.rrset rrset own.is_rrset numbered)
              (signature_too (λ t. (t ≡ s) × SecuredIn setting k t) (λ t. t ≡ get_or numbers there.0 0) own.rrset zone own.signed
              (own.signed.secured.0 ∙ sym is));
        }

    pub lowest_found : (i : ℕ) → i < length numbers → HasZoneSignature (λ s. s ≡ get_or numbers i 0) rrset zone
        → IsNoneOwn rrset zone numbers i → IsLowestOwn setting zone k (get_or numbers i 0)
    lowest_found i within has none = record {
      own = own_at i within has;
      lowest = λ t own.
          let at = own_place t own in
          let is = at.is in
          ⊎_elim
          (λ (earlier : at.place < i). absurd (none at.place earlier at.has))
          (λ (later : i ≤ at.place). ⊎_elim
          (λ (behind : i < at.place).
          let below = below_from_sorted numbers i at.place 0 (sorted_from_strictly_increasing numbers are.rising) behind at.within in
          let least : get_or numbers i 0 ≤ t = omega (arith, below, is) in
          least)
          (λ (here : at.place ≤ i).
          let same : at.place ≡ i = omega (arith, here, later) in
          let At : ℕ → Type 0 = λ p. get_or numbers p 0 ≡ t in
          let first : get_or numbers i 0 ≡ t = subst At same is in
          let least : get_or numbers i 0 ≤ t = omega (arith, first) in
          least)
          (cases_lt i at.place))
          (cases_lt at.place i);
    }

    pub none_at_all : (n : ℕ) → length numbers ≤ n → IsNoneOwn rrset zone numbers n → (s : ℕ) → ¬ IsOwnSignature setting zone k s
    none_at_all n past none = λ s own.
        let at = own_place s own in
        let within = at.within in
        none at.place (omega (arith, within, past)) at.has

-- ---- whether a signature is the zone's own

module _ (rrset : ReceivedRrset) (zone : Labels) (number : ℕ) (rrsigs : List Rrsig) (zip : AllZip IsRrsig rrset.signatures rrsigs) where
  -- a signature with the number is the one that is read
  pub its_rrsig : (rrsig : Rrsig) → IsNumbered rrsigs number rrsig → HasZoneSignature (λ s. s ≡ number) rrset zone
      → SameName rrsig.signer zone × ¬ IsExpanded rrset.owner rrsig
  its_rrsig rrsig numbered has =
      let there = rdata_at rrset.signatures rrsigs (number - 1) rrsig zip numbered.1 in
      let Numbered : ℕ → Type 0 = λ n. IsNumbered rrset.signatures n has.rdata in
      let octets : has.rdata ≡ there.0 =
      one_numbered rrset.signatures number has.rdata there.0 (subst Numbered has.secured has.is_signature) (numbered.0, there.1) in
      let Read : List ℕ → Type 0 = λ each. IsRrsig each has.rrsig in
      let same : has.rrsig ≡ rrsig = one_rrsig there.0 has.rrsig rrsig (subst Read octets has.read) there.2 in
      let Signer : Rrsig → Type 0 = λ each. SameName each.signer zone in
      let Plain : Rrsig → Type 0 = λ each. ¬ IsExpanded rrset.owner each in
      (subst Signer same has.signer, subst Plain same has.unexpanded)

  pub its_own : (rrsig : Rrsig) → IsNumbered rrsigs number rrsig → SameName rrsig.signer zone → ¬ IsExpanded rrset.owner rrsig
      → HasZoneSignature (λ s. s ≡ number) rrset zone
  its_own rrsig numbered signer unexpanded =
      let there = rdata_at rrset.signatures rrsigs (number - 1) rrsig zip numbered.1 in record {
        signature = number;
        secured = λ i. number;
        rdata = there.0;
        is_signature = (numbered.0, there.1);
        rrsig = rrsig;
        read = there.2;
        signer = signer;
        unexpanded = unexpanded;
      }

  pub none_numbered : ((rrsig : Rrsig) → ¬ IsNumbered rrsigs number rrsig) → ¬ HasZoneSignature (λ s. s ≡ number) rrset zone
  none_numbered none has =
      let Numbered : ℕ → Type 0 = λ n. IsNumbered rrset.signatures n has.rdata in
      let numbered = subst Numbered has.secured has.is_signature in
      let there = read_at rrset.signatures rrsigs (number - 1) has.rdata zip numbered.1 in
      none there.0 (numbered.0, there.1)
