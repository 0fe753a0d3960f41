-- Which RRsets answer a question securely (RFC 4035 5.3), and which of several is named.
--
-- The evidence is its RRsets, and which of their signatures are secured: `Secured k s` says that signature s of RRset
-- k is good under a trusted key of its signer. Both are numbered from 1 on.
pub mod Search
use Rattle.std.specs.Prelude.{◌≡◌, ◌⊎◌, ◌<◌, ◌≤◌, ℕ, List}
use Rattle.dnsv_names.specs.Name.{Labels, SameName}
use Rattle.dnsv_records.specs.Rrsig.{IsRrsig}
use Rattle.dnsv_records.specs.declared.rrsig.Rrsig.{Rrsig}
use Rattle.dnsv_canonical.specs.Rrsets.{IsNumbered, ReceivedRrset}
use Rattle.dnsv_canonical.specs.SignedData.{IsExpanded}
use Rattle.dnsv_denial.specs.proving.FirstProof.{CanProveNoCloser}

-- RRset k has the name, its signature s is secured, and the two are such
pub record IsSecuredAt
    (Secured : ℕ → ℕ → Type 0) (rrsets : List ReceivedRrset) (name : Labels)
    (Such : ReceivedRrset → Rrsig → Type 0) (k s : ℕ) : Type 0 where
  pub rrset : ReceivedRrset
  pub is_rrset : IsNumbered rrsets k rrset
  pub owner : SameName rrset.owner name
  pub rdata : List ℕ
  pub is_signature : IsNumbered rrset.signatures s rdata
  pub rrsig : Rrsig
  pub read : IsRrsig rdata rrsig
  pub secured : Secured k s
  pub such : Such rrset rrsig

-- The RRset holds for the name by the signature: no wildcard is behind it, or there is a proof that no closer name than
-- the wildcard exists (RFC 4035 5.3.4, RFC 5155 8.8).
abbrev pub HoldsForName
    : (ℕ → ℕ → Type 0) → List ReceivedRrset → Labels → ReceivedRrset → Rrsig → Type 0
HoldsForName Secured rrsets name rrset rrsig =
    (¬ IsExpanded rrset.owner rrsig) ⊎ CanProveNoCloser Secured rrsets name rrsig.labels rrsig.signer

-- signature s makes RRset k, of the name and type, a secure answer
abbrev pub IsSecureSet : (ℕ → ℕ → Type 0) → List ReceivedRrset → Labels → ℕ → ℕ → ℕ → Type 0
IsSecureSet Secured rrsets name t =
    IsSecuredAt Secured rrsets name (λ rrset rrsig. (rrset.rtype ≡ t) × HoldsForName Secured rrsets name rrset rrsig)

-- these two numbers are such, and no others before them, by the first and then by the second
pub record IsFirstSuch (Such : ℕ → ℕ → Type 0) (k s : ℕ) : Type 0 where
  pub such : Such k s
  pub earliest : (j r : ℕ) → Such j r → (k < j) ⊎ ((k ≡ j) × (s ≤ r))
