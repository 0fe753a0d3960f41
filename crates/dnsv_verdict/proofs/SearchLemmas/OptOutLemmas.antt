-- Of what Opt-Out leaves open, the first of two types.
use Rattle.std.proofs.Common.{◌≡◌, ◌⊎◌, ℕ, ◌-◌, ◌<◌, ◌≤◌, List, Option, Some, None, refl, ap, ◌∙◌, subst, arith, inl, inr, ⊎_elim}
use Rattle.std.proofs.lemmas.Bool.{cases_lt}
use Rattle.std.specs.Prelude.{MatchOption, slice_get}
use Rattle.dnsv_names.specs.Name.{Labels}
use Rattle.dnsv_records.specs.declared.rrsig.Rrsig.{Rrsig}
use Rattle.dnsv_zones.specs.zones.TypeNumbers.{cname}
use Rattle.dnsv_canonical.specs.Rrsets.{ReceivedRrset}
use Rattle.dnsv_verdict.specs.Insecure.{IsOptOutWildcardSet}
use Rattle.dnsv_verdict.specs.Secure.Search.{IsEarlier, IsOptOutSetOf}
use Rattle.dnsv_verdict.specs.Secure.{IsFirstSuch, IsSecuredAt}
use Rattle.dnsv_verdict.specs.declared.at_name.search.Found.{Found}

-- the two numbers, where they are such in another way
pub such_too : (Secured : ℕ → ℕ → Type 0) (rrsets : List ReceivedRrset) (name : Labels) (Such Other : ReceivedRrset → Rrsig → Type 0)
    (k s : ℕ) (at : IsSecuredAt Secured rrsets name Such k s) → Other at.rrset at.rrsig → IsSecuredAt Secured rrsets name Other k s
such_too Secured rrsets name Such Other k s at other = record {
  rrset = at.rrset;
  is_rrset = at.is_rrset;
  owner = at.owner;
  rdata = at.rdata;
  is_signature = at.is_signature;
  rrsig = at.rrsig;
  read = at.read;
  secured = at.secured;
  such = other;
}

module _ (Secured : ℕ → ℕ → Type 0) (rrsets : List ReceivedRrset) (name : Labels) (t : ℕ) where
  abbrev Of : ℕ → ℕ → ℕ → Type 0
  Of = IsOptOutSetOf Secured rrsets name

  abbrev Either : ℕ → ℕ → Type 0
  Either = IsOptOutWildcardSet Secured rrsets name t

  -- what a search for one type gives
  abbrev IsFoundOf : ℕ → Option Found → Type 0
  IsFoundOf u result = MatchOption result ((k s : ℕ) → ¬ IsOptOutSetOf Secured rrsets name u k s)
      (λ found. (is : IsFirstSuch (IsOptOutSetOf Secured rrsets name u) found.rrset found.signature) × (is.such.rrsig ≡ found.rrsig.now))

  of_type : (k s : ℕ) → Either k s → Of t k s ⊎ Of cname k s
  of_type k s at = ⊎_elim
      (λ (is : at.rrset.rtype ≡ t). inl (such_too Secured rrsets name _ _ k s at (is, at.such.1)))
      (λ (is : at.rrset.rtype ≡ cname). inr (such_too Secured rrsets name _ _ k s at (is, at.such.1))) at.such.0

  asked : (k s : ℕ) → Of t k s → Either k s
  asked k s at = such_too Secured rrsets name _ _ k s at (inl at.such.0, at.such.1)

  alias : (k s : ℕ) → Of cname k s → Either k s
  alias k s at = such_too Secured rrsets name _ _ k s at (inr at.such.0, at.such.1)

  -- an RRset has one type
  same_type : (k s r : ℕ) → Of t k s → Of cname k r → Of t k r
  same_type k s r at other =
      let one : slice_get rrsets (k - 1) ≡ Some at.rrset = at.is_rrset.1 in
      let two : slice_get rrsets (k - 1) ≡ Some other.rrset = other.is_rrset.1 in
      let same : other.rrset ≡ at.rrset = cc in
      such_too Secured rrsets name _ _ k r other (ap (λ (rrset : ReceivedRrset). rrset.rtype) same ∙ at.such.0, other.such.1)

  none_of_both : (one other : Option Found) → IsFoundOf t one → IsFoundOf cname other → (one ≡ None) × (other ≡ None) → (k s : ℕ) → ¬ Either k s
  none_of_both one other by_type by_alias none k s at =
      let no_type = subst (IsFoundOf t) none.0 by_type in
      let no_alias = subst (IsFoundOf cname) none.1 by_alias in
      ⊎_elim (λ (of : Of t k s). no_type k s of) (λ (of : Of cname k s). no_alias k s of) (of_type k s at)

  -- it comes no later than what was found of the type
  not_before : (u : ℕ) (result : Option Found) → IsFoundOf u result → (j r : ℕ) → Of u j r → (x : Found) × (result ≡ Some x) × (x.rrset ≤ j)
  not_before u None none j r at = absurd (none j r at)
  not_before u (Some x) first j r at =
      (x, refl, ⊎_elim (λ (later : x.rrset < j). omega (arith, later)) (λ (same : (x.rrset ≡ j) × (x.signature ≤ r)). let is = same.0 in omega (arith, is)) (first.0.earliest j r at))

  abbrev IsFirstOf : Found → Type 0
  IsFirstOf found = (is : IsFirstSuch Either found.rrset found.signature) × (is.such.rrsig ≡ found.rrsig.now)

  of_the_type : (other : Option Found) (found : Found) → IsFoundOf t (Some found) → IsFoundOf cname other
      → ((x : Found) → other ≡ Some x → found.rrset ≤ x.rrset) → IsFirstOf found
  unfolding asked such_too
  of_the_type other found first by_alias least = (
    record {
      such = asked found.rrset found.signature first.0.such;
      earliest = λ j r at. ⊎_elim (λ (of : Of t j r). first.0.earliest j r of) (λ (of : Of cname j r). behind j r of) (of_type j r at);
    },
    first.1,
  ) where
    behind : (j r : ℕ) → Of cname j r → (found.rrset < j) ⊎ ((found.rrset ≡ j) × (found.signature ≤ r))
    behind j r of =
        let x = not_before cname other by_alias j r of in
        let order : found.rrset ≤ x.0.rrset = least x.0 x.1 in
        let up_to : x.0.rrset ≤ j = x.2 in
        ⊎_elim (λ (later : found.rrset < j). inl later)
        (λ (here : j ≤ found.rrset).
        let same : found.rrset ≡ j = omega (arith, here, order, up_to) in
        first.0.earliest j r (same_type j found.signature r (subst (λ k. Of t k found.signature) same first.0.such) of))
        (cases_lt found.rrset j)

  of_an_alias : (one : Option Found) (found : Found) → IsFoundOf t one → IsFoundOf cname (Some found)
      → ((x : Found) → one ≡ Some x → found.rrset < x.rrset) → IsFirstOf found
  unfolding alias such_too
  of_an_alias one found by_type first less = (
    record {
      such = alias found.rrset found.signature first.0.such;
      earliest = λ j r at. ⊎_elim (λ (of : Of t j r).
          let x = not_before t one by_type j r of in
          let order : found.rrset < x.0.rrset = less x.0 x.1 in
          let up_to : x.0.rrset ≤ j = x.2 in
          inl (omega (arith, order, up_to))) (λ (of : Of cname j r). first.0.earliest j r of) (of_type j r at);
    },
    first.1,
  )

  first_of_both : (one other : Option Found) (found : Found) → IsFoundOf t one → IsFoundOf cname other → IsEarlier one other (Some found) → IsFirstOf found
  first_of_both one other found by_type by_alias earlier = ⊎_elim
      (λ (a : (one ≡ Some found) × ((x : Found) → other ≡ Some x → found.rrset ≤ x.rrset)). of_the_type other found (subst (IsFoundOf t) a.0 by_type) by_alias a.1)
      (λ (b : (other ≡ Some found) × ((x : Found) → one ≡ Some x → found.rrset < x.rrset)). of_an_alias one found by_type (subst (IsFoundOf cname) b.0 by_alias) b.1)
      earlier

  -- the earlier of the two is the first
  pub of_both : (one other result : Option Found) → IsFoundOf t one → IsFoundOf cname other → IsEarlier one other result
      → MatchOption result ((k s : ℕ) → ¬ IsOptOutWildcardSet Secured rrsets name t k s)
      (λ found. (is : IsFirstSuch (IsOptOutWildcardSet Secured rrsets name t) found.rrset found.signature) × (is.such.rrsig ≡ found.rrsig.now))
  of_both one other None by_type by_alias none = none_of_both one other by_type by_alias none
  of_both one other (Some found) by_type by_alias earlier = first_of_both one other found by_type by_alias earlier
