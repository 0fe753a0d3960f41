-- How the code looks for a signature that is such. No public clause cites this module.
use Rattle.std.specs.Prelude.{◌≡◌, ◌<◌, ◌≤◌, ◌⊎◌, ℕ, List, Contains, Option, Some, None}
use Rattle.dnsv_names.specs.Name.{Labels}
use Rattle.dnsv_records.specs.Rrsig.{IsRrsig}
use Rattle.dnsv_records.specs.declared.rrsig.Rrsig.{Rrsig}
use Rattle.dnsv_canonical.specs.Rrsets.{IsNumbered, ReceivedRrset}
use Rattle.dnsv_verdict.specs.Insecure.{IsOptOutWildcard}
use Rattle.dnsv_verdict.specs.Secure.{IsSecuredAt}
use Rattle.dnsv_verdict.specs.declared.at_name.search.Found.{Found}

-- the signature with the number is one of the numbers, and it and the RRset are such
pub record IsFound (Such : ReceivedRrset → Rrsig → Type 0) (rrset : ReceivedRrset) (numbers : List ℕ) (s : ℕ)
    : Type 0 where
  pub rdata : List ℕ
  pub is_signature : IsNumbered rrset.signatures s rdata
  pub rrsig : Rrsig
  pub read : IsRrsig rdata rrsig
  pub among : Contains numbers s
  pub such : Such rrset rrsig

-- it is the first such, and is this one
pub record IsFirstFound
    (Such : ReceivedRrset → Rrsig → Type 0) (rrset : ReceivedRrset) (numbers : List ℕ) (s : ℕ) (rrsig : Rrsig)
    : Type 0 where
  pub found : IsFound Such rrset numbers s
  pub first : (r : ℕ) → IsFound Such rrset numbers r → s ≤ r
  pub is : found.rrsig ≡ rrsig

-- what comes first of two that may have been found, by their RRsets' numbers; the one where these are the same
abbrev pub IsEarlier : Option Found → Option Found → Option Found → Type 0
IsEarlier one other None = (one ≡ None) × (other ≡ None)
IsEarlier one other (Some found) =
    ((one ≡ Some found) × ((x : Found) → other ≡ Some x → found.rrset ≤ x.rrset))
    ⊎ ((other ≡ Some found) × ((x : Found) → one ≡ Some x → found.rrset < x.rrset))

-- signature s of RRset k, which has the name and just this type, is one that Opt-Out leaves open
abbrev pub IsOptOutSetOf : (ℕ → ℕ → Type 0) → List ReceivedRrset → Labels → ℕ → ℕ → ℕ → Type 0
IsOptOutSetOf Secured rrsets name t =
    IsSecuredAt Secured rrsets name
    (λ rrset rrsig. (rrset.rtype ≡ t) × IsOptOutWildcard Secured rrsets name rrset rrsig)
