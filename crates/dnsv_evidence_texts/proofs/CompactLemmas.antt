-- What is listed of RRsets and of signatures, where places name them.
use Rattle.std.proofs.Common.{◌≡◌, ℕ, suc, true, false, List, [], ◌∷◌, refl, subst, sym}
use Rattle.dnsv_records.specs.declared.rrsig.Rrsig.{Rrsig}
use Rattle.dnsv_records.specs.Rrsig.{IsRrsig}
use Rattle.dnsv_canonical.specs.Rrsets.{ReceivedRrset}
use Rattle.dnsv_compact.specs.CompactList.{IsListedIf, IsListedRrset, IsRrsetListedIf, ListedRrset, ListedSignature, ListsRrsets, ListsSignatures, listed_signature, names_rrset, names_signature}
use Rattle.dnsv_compact.specs.declared.place.Place.{Place}
use Rattle.dnsv_evidence_texts.proofs.PartLemmas.{ListsEach}

-- ---- signatures

-- what is listed of a signature of the RRset with the number
abbrev pub OfSignature : List Place → ℕ → ℕ → List ℕ → List ListedSignature → Type 0
OfSignature todo rrset number rdata listed =
    (rrsig : Rrsig) × IsRrsig rdata rrsig × IsListedIf (names_signature todo rrset number) number rrsig listed

pub signature_named : (todo : List Place) (rrset number : ℕ) (rdata : List ℕ) (rrsig : Rrsig) → IsRrsig rdata rrsig → names_signature todo rrset number ≡ true
    → OfSignature todo rrset number rdata (listed_signature number rrsig ∷ [])
signature_named todo rrset number rdata rrsig reads named =
    (rrsig, reads, subst (λ b. IsListedIf b number rrsig (listed_signature number rrsig ∷ [])) (sym named) refl)

pub signature_unnamed : (todo : List Place) (rrset number : ℕ) (rdata : List ℕ) (rrsig : Rrsig) → IsRrsig rdata rrsig → names_signature todo rrset number ≡ false
    → OfSignature todo rrset number rdata []
signature_unnamed todo rrset number rdata rrsig reads unnamed =
    (rrsig, reads, subst (λ b. IsListedIf b number rrsig []) (sym unnamed) refl)

pub signatures_listed : (todo : List Place) (rrset number : ℕ) (signatures : List (List ℕ)) (listed : List ListedSignature)
    → ListsEach (OfSignature todo rrset) number signatures listed → ListsSignatures todo rrset number signatures listed
signatures_listed todo rrset number [] listed is = is
signatures_listed todo rrset number (rdata ∷ signatures) listed is =
    (is.2.0, is.0, is.1, is.2.1, is.2.2, signatures_listed todo rrset (suc number) signatures is.1 is.3, is.4)

-- ---- RRsets

-- what is listed of an RRset
abbrev pub OfRrset : List Place → ℕ → ReceivedRrset → List ListedRrset → Type 0
OfRrset todo number received listed = IsRrsetListedIf (names_rrset todo number) todo number received listed

pub rrset_named : (todo : List Place) (number : ℕ) (received : ReceivedRrset) (listed : ListedRrset) → IsListedRrset todo number received listed
    → names_rrset todo number ≡ true → OfRrset todo number received (listed ∷ [])
rrset_named todo number received listed is named =
    subst (λ b. IsRrsetListedIf b todo number received (listed ∷ [])) (sym named) (listed, is, refl)

pub rrset_unnamed : (todo : List Place) (number : ℕ) (received : ReceivedRrset) → names_rrset todo number ≡ false → OfRrset todo number received []
rrset_unnamed todo number received unnamed = subst (λ b. IsRrsetListedIf b todo number received []) (sym unnamed) refl

pub rrsets_listed : (todo : List Place) (number : ℕ) (rrsets : List ReceivedRrset) (listed : List ListedRrset)
    → ListsEach (OfRrset todo) number rrsets listed → ListsRrsets todo number rrsets listed
rrsets_listed todo number [] listed is = is
rrsets_listed todo number (received ∷ rrsets) listed is = (is.0, is.1, is.2, rrsets_listed todo (suc number) rrsets is.1 is.3, is.4)
