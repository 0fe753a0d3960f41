-- The target of an RRset, from its RDATA in canonical form.
use Rattle.std.proofs.Common.{◌≡◌, ◌∙◌, ℕ, List, [], ◌∷◌, map, sym, subst}
use Rattle.std.specs.Prelude.{MatchOption, Option, None, Some}
use Rattle.dnsv_names.specs.Name.{IsName, Labels, wire}
use Rattle.dnsv_canonical.proofs.CanonicalLemmas.{canonical_unique}
use Rattle.dnsv_canonical.specs.Canonical.{IsCanonical}
use Rattle.dnsv_canonical.specs.CanonicalRdata.{canonical_form}
use Rattle.dnsv_canonical.specs.Rrsets.{IsNumbered, ReceivedRrset}
use Rattle.dnsv_verdict.proofs.CaseLemmas.{some_is_one}
use Rattle.dnsv_verdict.specs.Way.{IsTarget}

abbrev pub forms_of : ReceivedRrset → List (List ℕ)
forms_of rrset = map (canonical_form rrset.rtype) rrset.rdata

-- the one name that the canonical RDATA is, if it is one, is the target
pub target_from : (rrsets : List ReceivedRrset) (k : ℕ) (rrset : ReceivedRrset) (canonical : List (List ℕ)) (found : Option Labels)
    → IsNumbered rrsets k rrset → IsCanonical (forms_of rrset) canonical
    → MatchOption found ((target : Labels) → IsName target → canonical ≡ wire target ∷ [] → ⊥)
    (λ target. IsName target × (canonical ≡ wire target ∷ []))
    → MatchOption found ((target : Labels) → ¬ IsTarget rrsets k target) (IsTarget rrsets k)
target_from rrsets k rrset canonical None is forms none = λ target there.
    let same : there.rrset ≡ rrset = some_is_one (sym there.is_rrset.1 ∙ is.1) in
    none target there.is_name (canonical_unique (forms_of rrset) canonical (wire target ∷ []) forms
    (subst (λ (each : ReceivedRrset). IsCanonical (forms_of each) (wire target ∷ [])) same there.canonical))
target_from rrsets k rrset canonical (Some target) is forms some = record {
  rrset = rrset;
  is_rrset = is;
  is_name = some.0;
  canonical = subst (λ (each : List (List ℕ)). IsCanonical (forms_of rrset) each) some.1 forms;
}
