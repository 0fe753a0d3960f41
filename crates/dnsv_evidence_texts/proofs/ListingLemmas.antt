-- What is listed, RRset by RRset and signature by signature.
use Rattle.std.proofs.Common.{◌≡◌, ℕ, zero, suc, Option, ◌<◌, List, [], ◌∷◌, ◌++◌, length, get_or, refl, ap, ◌∙◌, arith}
use Rattle.std.specs.List.{AllZip}
use Rattle.dnsv_records.specs.declared.rrsig.Rrsig.{Rrsig}
use Rattle.dnsv_records.specs.Rrsig.{IsRrsig}
use Rattle.dnsv_canonical.specs.Rrsets.{ReceivedRrset}
use Rattle.dnsv_canonical.specs.SignedData.{IsSignedData}
use Rattle.dnsv_evidence_texts.specs.Listing.{ListsRrsets, ListsSignatures, SignedOctets}
use Rattle.dnsv_evidence_texts.proofs.PartLemmas.{ListsEach}

-- what is listed of a signature of the RRset with the number
abbrev pub OfSignature : ℕ → ReceivedRrset → ℕ → List ℕ → List SignedOctets → Type 0
OfSignature number rrset signature rdata listed =
    (rrsig : Rrsig) × (octets : Option (List ℕ)) × IsRrsig rdata rrsig × IsSignedData rrset.owner rrset.rtype rrset.rdata rrsig octets
    × (listed ≡ record { rrset = number; signature = signature; octets = octets } ∷ [])

pub signatures_listed : (number : ℕ) (rrset : ReceivedRrset) (signature : ℕ) (signatures : List (List ℕ)) (listed : List SignedOctets)
    → ListsEach (OfSignature number rrset) signature signatures listed → ListsSignatures number rrset signature signatures listed
signatures_listed number rrset signature [] listed is = is
signatures_listed number rrset signature (rdata ∷ signatures) listed is = (
  is.2.0,
  is.2.1,
  is.1,
  is.2.2,
  is.2.3,
  signatures_listed number rrset (suc signature) signatures is.1 is.3,
  is.4 ∙ ap (λ front. front ++ is.1) is.2.4,
)

-- what is listed of an RRset
abbrev pub OfRrset : ℕ → ReceivedRrset → List SignedOctets → Type 0
OfRrset number rrset listed = ListsSignatures number rrset 1 rrset.signatures listed

pub rrsets_listed : (number : ℕ) (rrsets : List ReceivedRrset) (listed : List SignedOctets)
    → ListsEach OfRrset number rrsets listed → ListsRrsets number rrsets listed
rrsets_listed number [] listed is = is
rrsets_listed number (rrset ∷ rrsets) listed is = (is.0, is.1, is.2, rrsets_listed (suc number) rrsets is.1 is.3, is.4)

-- the RDATA of a signature that stands at a place
pub signature_here : (rdata : List (List ℕ)) (rrsigs : List Rrsig) (i : ℕ) (d : Rrsig) → AllZip IsRrsig rdata rrsigs → i < length rrsigs → (i < length rdata) × IsRrsig (get_or rdata i []) (get_or rrsigs i d)
signature_here [] [] i d all within = absurd (omega (arith, within))
signature_here [] (r ∷ rrsigs) i d all within = absurd all
signature_here (x ∷ rdata) [] i d all within = absurd all
signature_here (x ∷ rdata) (r ∷ rrsigs) zero d all within = (omega arith, all.0)
signature_here (x ∷ rdata) (r ∷ rrsigs) (suc i) d all within =
    let later = signature_here rdata rrsigs i d all.1 (omega (arith, within)) in
    (omega (arith, later.0), later.1)

pub as_many_signatures : (rdata : List (List ℕ)) (rrsigs : List Rrsig) → AllZip IsRrsig rdata rrsigs → length rdata ≡ length rrsigs
as_many_signatures [] [] all = refl
as_many_signatures [] (r ∷ rrsigs) all = absurd all
as_many_signatures (x ∷ rdata) [] all = absurd all
as_many_signatures (x ∷ rdata) (r ∷ rrsigs) all = ap suc (as_many_signatures rdata rrsigs all.1)
