-- Where the evidence shows that a name may lie in a zone that isn't signed (RFC 4035 5.2, RFC 5155 6, 8.8, 8.9, 9.2).
use Rattle.std.specs.Prelude.{◌≡◌, ◌⊎◌, ◌+◌, ℕ, List}
use Rattle.dnsv_names.specs.Name.{Labels, rightmost}
use Rattle.dnsv_records.specs.declared.rrsig.Rrsig.{Rrsig}
use Rattle.dnsv_zones.specs.zones.TypeNumbers.{cname}
use Rattle.dnsv_canonical.specs.Rrsets.{ReceivedRrset}
use Rattle.dnsv_canonical.specs.SignedData.{IsExpanded}
use Rattle.dnsv_denial.specs.unsigned_cuts.Cuts.{HasOptedOutNextCloser, HasUnsignedCut, IsUnsignedCut}
use Rattle.dnsv_verdict.specs.Secure.{IsSecuredAt, IsFirstSuch}

-- A wildcard is behind the signature, and an NSEC3 record covers the next closer name (RFC 5155 8.8) that has the Opt-Out
-- flag: an unsigned delegation may be closer than the wildcard (RFC 5155 6, 9.2).
abbrev pub IsOptOutWildcard : (ℕ → ℕ → Type 0) → List ReceivedRrset → Labels → ReceivedRrset → Rrsig → Type 0
IsOptOutWildcard Secured rrsets name rrset rrsig =
    IsExpanded rrset.owner rrsig × HasOptedOutNextCloser Secured rrsets name rrsig.labels rrsig.signer

-- signature s of RRset k, which has the name and the type or CNAME, is such
abbrev pub IsOptOutWildcardSet : (ℕ → ℕ → Type 0) → List ReceivedRrset → Labels → ℕ → ℕ → ℕ → Type 0
IsOptOutWildcardSet Secured rrsets name t =
    IsSecuredAt Secured rrsets name
    (λ rrset rrsig. ((rrset.rtype ≡ t) ⊎ (rrset.rtype ≡ cname)) × IsOptOutWildcard Secured rrsets name rrset rrsig)

-- the next closer name for the first such signature: it has one label more than the wildcard's parent
pub record IsOptOutWildcardCut
    (Secured : ℕ → ℕ → Type 0) (rrsets : List ReceivedRrset) (name : Labels) (t : ℕ) (cut : Labels) : Type 0 where
  pub k : ℕ
  pub s : ℕ
  pub earliest : IsFirstSuch (IsOptOutWildcardSet Secured rrsets name t) k s
  pub next_closer : cut ≡ rightmost name (earliest.such.rrsig.labels + 1)

-- Something shows that the name may lie in an unsigned zone: records of the zones above it, or such a signature.
abbrev pub IsUnsigned : (ℕ → ℕ → Type 0) → List ReceivedRrset → Labels → ℕ → Type 0
IsUnsigned Secured rrsets name t =
    HasUnsignedCut Secured rrsets name ⊎ ((k : ℕ) × (s : ℕ) × IsOptOutWildcardSet Secured rrsets name t k s)

-- the name at which the unsigned zone may begin, by the first of the two that stands
abbrev pub IsUnsignedFrom : (ℕ → ℕ → Type 0) → List ReceivedRrset → Labels → ℕ → Labels → Type 0
IsUnsignedFrom Secured rrsets name t cut =
    IsUnsignedCut Secured rrsets name cut
    ⊎ ((¬ HasUnsignedCut Secured rrsets name) × IsOptOutWildcardCut Secured rrsets name t cut)
