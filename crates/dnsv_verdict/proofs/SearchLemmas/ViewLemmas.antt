-- What a search finds for a view is found for what the view is of.
use Rattle.std.proofs.Common.{◌≡◌, ℕ, List, sym}
use Rattle.dnsv_names.specs.Name.{Labels}
use Rattle.dnsv_records.specs.declared.rrsig.Rrsig.{Rrsig}
use Rattle.dnsv_canonical.specs.Rrsets.{ReceivedRrset}
use Rattle.dnsv_chain.specs.Trust.{KeptTrust, SecuredIn}
use Rattle.dnsv_denial.specs.Viewed.{Viewed}
use Rattle.dnsv_verdict.specs.Insecure.{IsOptOutWildcard}
use Rattle.dnsv_verdict.specs.Secure.{HoldsForName, IsFirstSuch, IsSecuredAt}

-- the RRset is of the type and holds for the view's name
abbrev pub HoldsForView : ℕ → Viewed → ReceivedRrset → Rrsig → Type 0
HoldsForView t view rrset rrsig = (rrset.rtype ≡ t) × HoldsForName (SecuredIn view.trust) view.rrsets view.name rrset rrsig

-- the RRset is of the type, and Opt-Out leaves the signature's answer open for the view's name
abbrev pub IsOptOutWildcardForView : ℕ → Viewed → ReceivedRrset → Rrsig → Type 0
IsOptOutWildcardForView t view rrset rrsig =
    (rrset.rtype ≡ t) × IsOptOutWildcard (SecuredIn view.trust) view.rrsets view.name rrset rrsig

-- numbers of a signature that is such, of the evidence that a view is of
abbrev pub AtNumbers : Viewed → (ReceivedRrset → Rrsig → Type 0) → ℕ → ℕ → Type 0
AtNumbers of Such = IsSecuredAt (SecuredIn of.trust) of.rrsets of.name Such

-- the first such numbers, and the signature
abbrev pub AtFirstSuch : Viewed → (ReceivedRrset → Rrsig → Type 0) → ℕ → ℕ → Rrsig → Type 0
AtFirstSuch of Such k s rrsig = (is : IsFirstSuch (AtNumbers of Such) k s) × (is.such.rrsig ≡ rrsig)

-- a view is its RRsets, trust and name
pub viewed
    : (view : Viewed) {rrsets : List ReceivedRrset} {trust : KeptTrust} {name : Labels}
    → rrsets ≡ view.rrsets → trust ≡ view.trust → name ≡ view.name
    → view ≡ record { rrsets = rrsets; trust = trust; name = name }
viewed view same_rrsets same_trust same_name = λ i. record {
  rrsets = sym same_rrsets i;
  trust = sym same_trust i;
  name = sym same_name i;
}
