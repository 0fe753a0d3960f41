-- What the types of a record say, and records that are there or not.
use Rattle.std.proofs.Common.{◌≡◌, ◌≢◌, ◌⊎◌, ◌+◌, ◌<◌, ◌≤◌, ℕ, Bool, true, false, inl, inr, ⊎_elim, List, [], Some, None, map, length, refl, sym, ◌∙◌, subst, arith}
use Rattle.std.proofs.lemmas.Bool.{cases_lt, false≢true}
use Rattle.std.specs.Prelude.{Contains}
use Rattle.dnsv_names.specs.Name.{Labels, rightmost}
use Rattle.dnsv_names.specs.Tree.AncestorLaws.{rightmost_all, rightmost_next_below}
use Rattle.dnsv_names.specs.Tree.TreeLaws.{below_trans_at, same_at_or_below}
use Rattle.dnsv_names.specs.declared.number.RecordType.{RecordType}
use Rattle.dnsv_zones.specs.chains.NsecChain.{IsInBitmap}
use Rattle.dnsv_zones.specs.zones.TypeNumbers.{cname, ds, ns, soa}
use Rattle.dnsv_zones.specs.zones.TypeNumbers as types
use Rattle.dnsv_zones.specs.zones.Types.{Denies, IsClosed, IsDelegation}
use Rattle.dnsv_canonical.specs.declared.number.RecordNumber.{RecordNumber}
use Rattle.dnsv_denial.specs.gathering.EvidenceWords.{Chain}
use Rattle.dnsv_denial.specs.gathering.EvidenceWords.Chain.{ByNsec, ByNsec3}
use Rattle.dnsv_gaps.specs.Asking.{Asking}
use Rattle.dnsv_gaps.specs.Cases.{HasNone, HasNoneClosed, IsAt, IsHeld, IsLongestShown}
use Rattle.dnsv_gaps.specs.Cases.IsHeld.{alias as by_alias, apex as by_apex, asked as by_asked, none as by_none}
use Rattle.dnsv_gaps.specs.Parts.{AreFactsOf}
use Rattle.dnsv_gaps.specs.Sources.{source_said}
use Rattle.dnsv_mending.specs.declared.facts.signature.RrsetFacts.{RrsetFacts}
use Rattle.dnsv_chain.specs.Basis.{Basis}
use Rattle.dnsv_true_reasons.specs.truth.Sources.{HasNoneOpenAt}
use Rattle.dnsv_true_reasons.proofs.truths.zones.RrsetTruth.{nothing_in}

-- ---- types

-- whether a bitmap has a delegation
delegation_or : (has : ℕ → Bool) → IsDelegation (IsInBitmap has) ⊎ ¬ IsDelegation (IsInBitmap has)
delegation_or has = by (has ns) refl (has soa) refl
  where
    by : (n : Bool) → has ns ≡ n → (s : Bool) → has soa ≡ s → IsDelegation (IsInBitmap has) ⊎ ¬ IsDelegation (IsInBitmap has)
    by true on true top = inr (λ is. is.no_apex top)
    by true on false top = inl (record { servers = on; no_apex = λ is. false≢true (sym top ∙ is) })
    by false off s top = inr (λ is. false≢true (sym off ∙ is.servers))

closed_or : (has : ℕ → Bool) → IsClosed (IsInBitmap has) ⊎ ¬ IsClosed (IsInBitmap has)
closed_or has = by (has types.dname) refl (delegation_or has)
  where
    by : (d : Bool) → has types.dname ≡ d → IsDelegation (IsInBitmap has) ⊎ ¬ IsDelegation (IsInBitmap has)
        → IsClosed (IsInBitmap has) ⊎ ¬ IsClosed (IsInBitmap has)
    by true on is = inl (inr on)
    by false off (inl is) = inl (inl is)
    by false off (inr not) = inr (λ closed. not_closed closed)
      where
        not_closed : IsClosed (IsInBitmap has) → ⊥
        not_closed (inl is) = not is
        not_closed (inr is) = false≢true (sym off ∙ is)

-- the type that is held is one that is in the way
pub held_is : (has : ℕ → Type 0) (t : ℕ) (rtype : RecordType) → IsHeld has t (Some rtype) → has rtype.0
held_is has t rtype (by_asked is) = is
held_is has t rtype (by_alias other is) = is
held_is has t rtype (by_apex other never same is) = is

pub held_type : (has : ℕ → Type 0) (t : ℕ) (rtype : RecordType) → IsHeld has t (Some rtype)
    → (rtype.0 ≡ t) ⊎ (rtype.0 ≡ cname) ⊎ ((t ≡ ds) × (rtype.0 ≡ soa))
held_type has t rtype (by_asked is) = inl refl
held_type has t rtype (by_alias other is) = inr (inl refl)
held_type has t rtype (by_apex other never same is) = inr (inr (same, refl))

-- where nothing is, and the record doesn't deny, it is one of a delegation
pub held_none : (has : ℕ → Bool) (t : ℕ) → IsHeld (IsInBitmap has) t None → ¬ Denies (IsInBitmap has) t → IsDelegation (IsInBitmap has)
held_none has t (by_none no_type no_alias no_apex) never = ⊎_elim
    (λ (is : IsDelegation (IsInBitmap has)). is)
    (λ (not : ¬ IsDelegation (IsInBitmap has)). absurd (never
    (record { no_type = no_type; no_alias = no_alias; side = (no_apex, λ other. not) })))
    (delegation_or has)

-- ---- the types of a record

module _ (a : Asking) (zone : Labels) where
  pub typed_leads : (chain : Chain) (x : Labels) (Says Never Other : (ℕ → Type 0) → Type 0) (n : RecordNumber)
      → (source_said a zone chain).TypesAt x Says n → ¬ (source_said a zone chain).TypesAt x Never n
      → ((has : ℕ → Bool) → Says (IsInBitmap has) → ¬ Never (IsInBitmap has) → Other (IsInBitmap has))
      → (source_said a zone chain).TypesAt x Other n
  typed_leads ByNsec x Says Never Other n is never leads =
      (is.0, is.1, (is.2.0, leads is.0.types is.2.1 (λ says. never (is.0, is.1, (is.2.0, says)))))
  typed_leads (ByNsec3 p) x Says Never Other n is never leads =
      (is.0, is.1, (is.2.0, leads is.0.types is.2.1 (λ says. never (is.0, is.1, (is.2.0, says)))))

  -- some types are what they are
  pub typed_any : (chain : Chain) (x : Labels) (Says : (ℕ → Type 0) → Type 0) (n : RecordNumber)
      → (source_said a zone chain).TypesAt x Says n
      → (has : ℕ → Bool) × Says (IsInBitmap has)
  typed_any ByNsec x Says n is = (is.0.types, is.2.1)
  typed_any (ByNsec3 p) x Says n is = (is.0.types, is.2.1)

  -- where nothing is refused
  never_typed : (chain : Chain) (x : Labels) (n : RecordNumber) → ¬ (source_said a zone chain).TypesAt x (λ has. ⊥) n
  never_typed chain x n is = (typed_any chain x (λ has. ⊥) n is).1

  pub typed_to : (chain : Chain) (x : Labels) (Says Other : (ℕ → Type 0) → Type 0) (n : RecordNumber)
      → (source_said a zone chain).TypesAt x Says n
      → ((has : ℕ → Bool) → Says (IsInBitmap has) → Other (IsInBitmap has)) → (source_said a zone chain).TypesAt x Other n
  typed_to chain x Says Other n is leads = typed_leads chain x Says (λ has. ⊥) Other n is (never_typed chain x n)
      (λ has says never. leads has says)

  -- a record at a name is closed, or it isn't
  pub closed_or_not : (chain : Chain) (x : Labels) (n : RecordNumber) → IsAt (source_said a zone chain) x n
      → (source_said a zone chain).TypesAt x IsClosed n ⊎ (source_said a zone chain).TypesAt x (λ has. ¬ IsClosed has) n
  closed_or_not ByNsec x n is = ⊎_elim
      (λ (yes : IsClosed (IsInBitmap is.0.types)). inl (is.0, is.1, (is.2.0, yes)))
      (λ (no : ¬ IsClosed (IsInBitmap is.0.types)). inr (is.0, is.1, (is.2.0, no)))
      (closed_or is.0.types)
  closed_or_not (ByNsec3 p) x n is = ⊎_elim
      (λ (yes : IsClosed (IsInBitmap is.0.types)). inl (is.0, is.1, (is.2.0, yes)))
      (λ (no : ¬ IsClosed (IsInBitmap is.0.types)). inr (is.0, is.1, (is.2.0, no)))
      (closed_or is.0.types)

  -- one that isn't shows the name to be there
  pub open_shows : (chain : Chain) (x : Labels) (n : RecordNumber) → (source_said a zone chain).TypesAt x (λ has. ¬ IsClosed has) n
      → (source_said a zone chain).Encloser x n
  open_shows ByNsec x n is = (is.0, is.1, inl (same_at_or_below is.0.owner x is.2.0))
  open_shows (ByNsec3 p) x n is = is

  pub none_open : (chain : Chain) (x : Labels) → HasNone ((source_said a zone chain).Encloser x)
      → HasNoneOpenAt (source_said a zone chain) x
  none_open chain x none n is = none n (open_shows chain x n is)

  -- ---- the next closer name

  -- no record is at the name below the longest that is shown
  pub none_next : (chain : Chain) (name : Labels) (labels : ℕ) → HasNoneClosed (source_said a zone chain) zone name
      → HasNone (IsAt (source_said a zone chain) name) → IsLongestShown (source_said a zone chain) zone name labels
      → HasNone (IsAt (source_said a zone chain) (rightmost name (labels + 1)))
  none_next chain name labels open_above unmatched longest n is = ⊎_elim
      (λ (below : labels + 1 < length name). ⊎_elim
      (λ (closed : (source_said a zone chain).TypesAt (rightmost name (labels + 1)) IsClosed n).
      open_above (labels + 1) (record {
        above = below;
        below = below_trans_at (rightmost name (labels + 1)) (rightmost name labels) zone (rightmost_next_below name labels longest.above)
            longest.within;
        closed = (n, closed);
      }))
      (λ (opens : (source_said a zone chain).TypesAt (rightmost name (labels + 1)) (λ has. ¬ IsClosed has) n).
      longest.most (labels + 1) (omega arith) below (inr (n, open_shows chain (rightmost name (labels + 1)) n opens)))
      (closed_or_not chain (rightmost name (labels + 1)) n is))
      (λ (past : length name ≤ labels + 1).
      unmatched n (subst (λ (x : Labels). IsAt (source_said a zone chain) x n) (rightmost_all name (labels + 1) past) is))
      (cases_lt (labels + 1) (length name))

-- ---- facts of no records

pub none_such : (basis : Basis) (Such : RecordNumber → Type 0) (rrsets : List RrsetFacts) → AreFactsOf basis Such rrsets → rrsets ≡ []
    → HasNone Such
none_such basis Such rrsets are none n is =
    nothing_in n.rrset (subst (λ (each : List RrsetFacts). Contains (map (λ (r : RrsetFacts). r.number) each) n.rrset) none
    ((are.members n.rrset).1 (n, refl, is)))
