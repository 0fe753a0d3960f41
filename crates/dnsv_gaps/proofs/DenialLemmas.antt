-- Which RRsets are denials of which zone: known zones between, and a loop over the RRsets.
use Rattle.std.proofs.Common.{◌≡◌, ◌↔◌, ◌⊎◌, ◌+◌, ◌-◌, ◌<◌, ◌≤◌, ℕ, inl, inr, List, [], ◌∷◌, ◌++◌, length, get_or, refl, sym, ◌∙◌, subst, arith, ⊎_elim}
use Rattle.std.proofs.lemmas.Bool.{cases_lt}
use Rattle.std.proofs.lemmas.List.Elements.{Contains-append_left, Contains-append_right, Contains-push_cases}
use Rattle.std.proofs.lemmas.Option.{slice_get_within}
use Rattle.std.specs.List.Sorted.{IsStrictlySortedBy}
use Rattle.std.specs.Ordering.{nat_cmp}
use Rattle.std.specs.Prelude.{Contains}
use Rattle.dnsv_names.specs.Name.{Labels, IsAtOrBelow, SameName, rightmost}
use Rattle.dnsv_names.specs.Order.{IsBelow}
use Rattle.dnsv_names.specs.Tree.AncestorLaws.{rightmost_in_line, rightmost_length, rightmost_same}
use Rattle.dnsv_names.specs.Tree.TreeLaws.{at_or_below_length, at_or_below_respects, below_by_length, below_length, below_respects}
use Rattle.dnsv_canonical.specs.Rrsets.{IsNumbered, ReceivedRrset}
use Rattle.dnsv_denial.proofs.lemmas.gathering.EvidenceLemmas.{numbered_here}
use Rattle.dnsv_canonical.proofs.NumberLemmas.{one_numbered}
use Rattle.dnsv_chain.specs.Basis.{Basis}
use Rattle.dnsv_faults.specs.KnownZones.{HasOwnAnchor, HasRrset, IsKnownZone, IsSpeaker}
use Rattle.dnsv_gaps.proofs.RisingLemmas.{nat_less, rising_push}
use Rattle.dnsv_gaps.specs.Asking.{Asking}
use Rattle.dnsv_gaps.specs.DenialSearch.{HasKnownBetween, IsKnownAbove}
use Rattle.dnsv_gaps.specs.Denials.{IsDenialNumber, IsDenialOf, IsStray, IsStrayOf}

-- ---- zones however they are spelled

module _ (basis : Basis) (name : Labels) (t : ℕ) (a b : Labels) (same : SameName a b) where
  anchor_as : HasOwnAnchor basis.anchors a → HasOwnAnchor basis.anchors b
  anchor_as has = (has.0, has.1, has.2 ∙ same)

  rrset_as : (rtype : ℕ) → HasRrset basis.rrsets a rtype → HasRrset basis.rrsets b rtype
  rrset_as rtype has = record { rrset = has.rrset; among = has.among; owner = has.owner ∙ same; its_type = has.its_type }

  speaker_as : IsSpeaker basis.rrsets name t a → IsSpeaker basis.rrsets name t b
  speaker_as is = record {
    rrset = is.rrset;
    among = is.among;
    may = is.may;
    speaks = record {
      rrsig = is.speaks.rrsig;
      its = is.speaks.its;
      signer = is.speaks.signer ∙ same;
      above = at_or_below_respects name name a b refl same is.speaks.above;
      properly = λ from. below_respects name name a b refl same (is.speaks.properly from);
    };
  }

  known_by : (HasOwnAnchor basis.anchors a ⊎ HasRrset basis.rrsets a 43 ⊎ HasRrset basis.rrsets a 48 ⊎ IsSpeaker basis.rrsets name t a)
      → HasOwnAnchor basis.anchors b ⊎ HasRrset basis.rrsets b 43 ⊎ HasRrset basis.rrsets b 48 ⊎ IsSpeaker basis.rrsets name t b
  known_by (inl has) = inl (anchor_as has)
  known_by (inr (inl has)) = inr (inl (rrset_as 43 has))
  known_by (inr (inr (inl has))) = inr (inr (inl (rrset_as 48 has)))
  known_by (inr (inr (inr is))) = inr (inr (inr (speaker_as is)))

  pub known_as : IsKnownZone basis name t a → IsKnownZone basis name t b
  known_as is = record {
    above = at_or_below_respects name name a b refl same is.above;
    properly = λ ds. below_respects name name a b refl same (is.properly ds);
    known = known_by is.known;
  }

-- ---- known zones between a zone and an owner

module _ (a : Asking) (labels : ℕ) (within : labels ≤ length a.name) (owner : Labels) where
  abbrev zone : Labels
  zone = rightmost a.name labels

  pub not_between : HasKnownBetween a labels owner
      → ¬ ((other : Labels) → IsKnownZone a.basis a.name a.rtype other → IsBelow other zone → ¬ IsBelow owner other)
  not_between has none =
      let count = has.count in
      let more = has.more in
      let size = rightmost_length a.name count has.within in
      let zone_size = rightmost_length a.name labels within in
      none (rightmost a.name count) has.is.known
      (below_by_length (rightmost a.name count) zone (rightmost_in_line a.name count labels (omega (arith, more)))
      (omega (arith, more, size, zone_size))) has.is.above

  pub none_between : ¬ HasKnownBetween a labels owner → (other : Labels) → IsKnownZone a.basis a.name a.rtype other → IsBelow other zone
      → ¬ IsBelow owner other
  none_between never other known below above =
      let same : SameName (rightmost a.name (length other)) other = rightmost_same a.name other known.above in
      let fewer = below_length other zone below in
      let zone_size = rightmost_length a.name labels within in
      never (record {
        count = length other;
        more = omega (arith, fewer, zone_size);
        within = at_or_below_length a.name other known.above;
        is = record {
          known = known_as a.basis a.name a.rtype other (rightmost a.name (length other)) (sym same) known;
          above = below_respects owner owner other (rightmost a.name (length other)) refl (sym same) above;
        };
      })

  pub stray_of : (rrset : ReceivedRrset) → rrset.owner ≡ owner → IsStray rrset → IsAtOrBelow owner zone → ¬ HasKnownBetween a labels owner
      → IsStrayOf a zone rrset
  stray_of rrset same stray below never = record {
    stray = stray;
    below = subst (λ (o : Labels). IsAtOrBelow o zone) (sym same) below;
    nearest = λ other known lower.
        subst (λ (o : Labels). ¬ IsBelow o other) (sym same) (none_between never other known lower);
  }

  pub stray_not_between : (rrset : ReceivedRrset) → rrset.owner ≡ owner → IsStrayOf a zone rrset → ¬ HasKnownBetween a labels owner
  stray_not_between rrset same stray has =
      not_between has (λ other known lower. subst (λ (o : Labels). ¬ IsBelow o other) same (stray.nearest other known lower))

-- no number of labels so far is that of a known zone between
abbrev pub NoneTo : Asking → ℕ → Labels → ℕ → Type 0
NoneTo a labels owner n = (count : ℕ) → labels < count → count < n → ¬ IsKnownAbove a count owner

pub none_yet : (a : Asking) (labels : ℕ) (owner : Labels) (n : ℕ) → n ≤ labels + 1 → NoneTo a labels owner n
none_yet a labels owner n start count more early is = omega (arith, start, more, early)

pub none_next : (a : Asking) (labels : ℕ) (owner : Labels) (n : ℕ) → ¬ IsKnownAbove a n owner → NoneTo a labels owner n
    → NoneTo a labels owner (n + 1)
none_next a labels owner n never none count more early is =
    ⊎_elim (λ (before : count < n). none count more before is)
    (λ (last : n ≤ count).
    let same : count ≡ n = omega (arith, last, early) in
    never (subst (λ (k : ℕ). IsKnownAbove a k owner) same is))
    (cases_lt count n)

pub none_all : (a : Asking) (labels : ℕ) (owner : Labels) (n : ℕ) → length a.name + 1 ≤ n → NoneTo a labels owner n
    → ¬ HasKnownBetween a labels owner
none_all a labels owner n past none has =
    let within = has.within in none has.count has.more (omega (arith, past, within)) has.is

-- ---- the denials of a zone by their numbers

module _ (Such : ReceivedRrset → Type 0) (rrsets : List ReceivedRrset) where
  -- RRset k is one of the first n, and such
  pub record IsOneTo (n k : ℕ) : Type 0 where
    pub rrset : ReceivedRrset
    pub numbered : IsNumbered rrsets k rrset
    pub early : k ≤ n
    pub such : Such rrset

  pub record AreTo (n : ℕ) (numbers : List ℕ) : Type 0 where
    pub rising : IsStrictlySortedBy nat_cmp numbers
    pub members : (k : ℕ) → Contains numbers k ↔ IsOneTo n k

  pub none_to : AreTo 0 []
  unfolding IsStrictlySortedBy
  none_to = record {
    rising = tt;
    members = λ k. (
      λ there. let within = there.1 in absurd (omega (arith, within)),
      λ one. let first = one.numbered.0 in let early = one.early in absurd (omega (arith, first, early)),
    );
  }

  later_to : (n k : ℕ) → IsOneTo n k → IsOneTo (n + 1) k
  later_to n k one = let early = one.early in
      record { rrset = one.rrset; numbered = one.numbered; early = omega (arith, early); such = one.such }

  -- one of the first so many, or the next
  last_or : (n k : ℕ) (x : ReceivedRrset) → n < length rrsets → x ≡ get_or rrsets n x → (one : IsOneTo (n + 1) k)
      → IsOneTo n k ⊎ ((k ≡ n + 1) × (one.rrset ≡ x))
  last_or n k x within at one =
      let early = one.early in
      ⊎_elim
      (λ (before : k < n + 1). inl (record { rrset = one.rrset; numbered = one.numbered; early = omega (arith, before); such = one.such }))
      (λ (last : n + 1 ≤ k).
      let same : k ≡ n + 1 = omega (arith, last, early) in
      inr (
        same,
        one_numbered rrsets (n + 1) one.rrset x (subst (λ (m : ℕ). IsNumbered rrsets m one.rrset) same one.numbered)
            (numbered_here rrsets n x within at),
      ))
      (cases_lt k (n + 1))

  pub one_to : (n : ℕ) (x : ReceivedRrset) (numbers next : List ℕ) → n < length rrsets → x ≡ get_or rrsets n x → Such x
      → next ≡ numbers ++ (n + 1) ∷ [] → AreTo n numbers → AreTo (n + 1) next
  one_to n x numbers next within at such pushed so_far = subst (AreTo (n + 1)) (sym pushed) (record {
    rising = rising_push nat_cmp numbers (n + 1) so_far.rising
        (λ k there. let early = ((so_far.members k).0 there).early in nat_less k (n + 1) (omega (arith, early)));
    members = λ k. (
      λ there. ⊎_elim (λ (before : Contains numbers k). later_to n k ((so_far.members k).0 before))
          (λ (last : n + 1 ≡ k). subst (IsOneTo (n + 1)) last (record {
            rrset = x;
            numbered = numbered_here rrsets n x within at;
            early = omega arith;
            such = such;
          }))
          (Contains-push_cases numbers (n + 1) k there),
      λ one. ⊎_elim (λ (before : IsOneTo n k). Contains-append_left numbers ((n + 1) ∷ []) k ((so_far.members k).1 before))
          (λ (last : (k ≡ n + 1) × (one.rrset ≡ x)).
          subst (Contains (numbers ++ (n + 1) ∷ [])) (sym last.0) (Contains-append_right numbers ((n + 1) ∷ []) (n + 1) (0, omega arith, refl)))
          (last_or n k x within at one),
    );
  })

  pub none_more : (n : ℕ) (x : ReceivedRrset) (numbers : List ℕ) → n < length rrsets → x ≡ get_or rrsets n x → ¬ Such x
      → AreTo n numbers → AreTo (n + 1) numbers
  none_more n x numbers within at never so_far = record {
    rising = so_far.rising;
    members = λ k. (
      λ there. later_to n k ((so_far.members k).0 there),
      λ one. ⊎_elim (λ (before : IsOneTo n k). (so_far.members k).1 before)
          (λ (last : (k ≡ n + 1) × (one.rrset ≡ x)). absurd (never (subst Such last.1 one.such)))
          (last_or n k x within at one),
    );
  }

-- all of them are the denials of the zone
pub all_denials : (a : Asking) (zone : Labels) (rrsets : List ReceivedRrset) → rrsets ≡ a.basis.rrsets → (n : ℕ) (numbers : List ℕ)
    → length rrsets ≤ n → AreTo (IsDenialOf a zone) rrsets n numbers → (k : ℕ) → Contains numbers k ↔ IsDenialNumber a zone k
all_denials a zone rrsets same n numbers past are k = (
  λ there.
      let one = (are.members k).0 there in
      record { rrset = one.rrset; numbered = subst (λ (r : List ReceivedRrset). IsNumbered r k one.rrset) same one.numbered; denial = one.such },
  λ is.
      let numbered = subst (λ (r : List ReceivedRrset). IsNumbered r k is.rrset) (sym same) is.numbered in
      let within = slice_get_within rrsets (k - 1) is.rrset numbered.1 in
      (are.members k).1 (record { rrset = is.rrset; numbered = numbered; early = omega (arith, past, within); such = is.denial }),
)
