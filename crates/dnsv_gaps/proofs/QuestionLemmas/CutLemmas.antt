-- Which name below a zone is seen as a delegation, and what is so of all of them.
use Rattle.std.proofs.Common.{◌≡◌, ◌↔◌, ◌⊎◌, ◌+◌, ◌-◌, ◌<◌, ◌≤◌, ℕ, suc, Bool, true, inl, inr, ⊎_elim, List, [], ◌∷◌, ◌++◌, Option, Some, None, length, get_or, map, take, refl, sym, ap, ◌∙◌, subst, arith, IsTrue}
use Rattle.std.proofs.lemmas.Bool.{cases_lt}
use Rattle.std.proofs.lemmas.List.{length-map, length-take, map-append, take_more}
use Rattle.std.specs.List.{AllZip, enumerate_from, range_with_len}
use Rattle.dnsv_names.specs.Name.{Labels, SameName, rightmost}
use Rattle.dnsv_records.specs.Rrsig.{IsRrsig}
use Rattle.dnsv_records.specs.declared.rrsig.Rrsig.{Rrsig}
use Rattle.dnsv_canonical.specs.Rrsets.{ReceivedRrset}
use Rattle.dnsv_chain.proofs.ZipLemmas.{zip_push}
use Rattle.dnsv_canonical.specs.declared.number.RecordNumber.{RecordNumber}
use Rattle.dnsv_denial.specs.gathering.EvidenceWords.{Chain}
use Rattle.dnsv_proof_forms.specs.declared.words.asked.AskedName.TheVariants as name
use Rattle.dnsv_proof_forms.specs.declared.words.asked.AskedTypes.TheVariants as types
use Rattle.dnsv_proof_forms.specs.declared.words.asked.AskedWord.TheVariants as word
use Rattle.dnsv_zones.specs.zones.Types.{IsDelegation, IsUnsignedDelegation}
use Rattle.dnsv_faults.specs.KnownZones.{HasRrset, IsKnownZone}
use Rattle.dnsv_faults.proofs.lemmas.KnownLemmas.{read_in, read_of}
use Rattle.dnsv_remedies.specs.declared.facts.cut.CutCase.{CutCase}
use Rattle.dnsv_remedies.specs.declared.facts.cut.CutFacts.{CutFacts}
use Rattle.dnsv_remedies.specs.declared.facts.cut.ParentFacts.{ParentFacts}
use Rattle.dnsv_gaps.specs.Asking.{Asking, asking}
use Rattle.dnsv_gaps.specs.DenialSearch.{HasSignerAbove}
use Rattle.dnsv_gaps.specs.SourceSearch.{AreHeldSources, chain_of, held_chain, zone_in}
use Rattle.dnsv_gaps.specs.Sources.{source_said}
use Rattle.dnsv_gaps.specs.questions.Cuts.{AreCutFacts, AreParentFacts, AreParents, IsOptedOutBySome, IsParent, IsSeen, IsShown, IsTypedBySome, HasGoal, HasOptOut, IsCutCase, IsDsFromAbove, IsSeenHere, IsSeenUnsigned, IsThere, lowest_cut}
use Rattle.dnsv_gaps.specs.questions.CutSearch.{IsCaseOfCut, IsFirstSeen, IsSaidByOne}
use Rattle.dnsv_gaps.specs.declared.asked.AskedQuestion.{AskedQuestion}
use Rattle.dnsv_gaps.specs.declared.sources.HeldSource.{HeldSource}
use Rattle.dnsv_gaps.specs.declared.sources.ZoneSource.{ZoneSource}
use Rattle.dnsv_gaps.proofs.QuestionLemmas.DnameLemmas.{range_more}
use Rattle.dnsv_gaps.proofs.QuestionLemmas.ListingLemmas.{AreTo, all_there, none_yet}
use Rattle.dnsv_gaps.proofs.QuestionLemmas.SayingLemmas.{held_there, opted_out_there, typed_there}

-- ---- zones

module _ (a : Asking) where
  abbrev pub AreParentsTo : ℕ → List ParentFacts → Type 0
  AreParentsTo = AreTo (λ (parent : ParentFacts). parent.labels) (IsParent a) (AreParentFacts a)

  pub no_parent_yet : (parents : List ParentFacts) → parents ≡ [] → AreParentsTo 0 parents
  no_parent_yet parents none = subst (AreParentsTo 0) (sym none) (none_yet (λ (parent : ParentFacts). parent.labels) (IsParent a) (AreParentFacts a))

  pub all_parents : (count : ℕ) (parents : List ParentFacts) → length a.name + 1 ≤ count → AreParentsTo count parents → AreParents a parents
  all_parents count parents past so_far =
      all_there (λ (parent : ParentFacts). parent.labels) (IsParent a) (AreParentFacts a) count parents
      (λ n is. let within = is.within in omega (arith, past, within)) so_far

  -- none up to here is known
  abbrev pub NoneKnown : ℕ → ℕ → Type 0
  NoneKnown n count = (m : ℕ) → n < m → m < count → ¬ IsKnownZone a.basis a.name a.rtype (rightmost a.name m)

  pub none_known : (n : ℕ) → NoneKnown n (n + 1)
  none_known n m below within known = absurd (omega (arith, below, within))

  pub none_known_more : (n count : ℕ) → NoneKnown n count → ¬ IsKnownZone a.basis a.name a.rtype (rightmost a.name count) → NoneKnown n (count + 1)
  none_known_more n count so_far not m below within known = ⊎_elim
      (λ (before : m < count). so_far m below before known)
      (λ (last : count ≤ m). let same : m ≡ count = omega (arith, last, within) in
      not (subst (λ (k : ℕ). IsKnownZone a.basis a.name a.rtype (rightmost a.name k)) same known))
      (cases_lt m count)

  -- ---- names seen

  -- no name up to here is seen
  abbrev pub NoneSeen : ℕ → Option ℕ → ℕ → Type 0
  NoneSeen zone next count = (c : ℕ) → zone < c → c < count → ¬ IsSeen a (rightmost a.name zone) next c

  pub none_seen : (zone : ℕ) (next : Option ℕ) → NoneSeen zone next (zone + 1)
  none_seen zone next c below within seen = absurd (omega (arith, below, within))

  pub none_seen_more : (zone : ℕ) (next : Option ℕ) (count : ℕ) → NoneSeen zone next count → ¬ IsSeen a (rightmost a.name zone) next count
      → NoneSeen zone next (count + 1)
  none_seen_more zone next count so_far not c below within seen = ⊎_elim
      (λ (before : c < count). so_far c below before seen)
      (λ (last : count ≤ c). let same : c ≡ count = omega (arith, last, within) in not (subst (λ (k : ℕ). IsSeen a (rightmost a.name zone) next k) same seen))
      (cases_lt c count)

  -- of the names, just the first that is seen is shown
  pub shown_by_first : (zone : ℕ) (next found : Option ℕ) (c : ℕ) (b : Bool) → zone < c → c ≤ lowest_cut a → IsFirstSeen a zone next found
      → (IsTrue b ↔ (found ≡ Some c)) → IsTrue b ↔ IsShown a zone next c
  shown_by_first zone next None c b below within none test = (
    λ yes. let never = test.0 yes in absurd (cc never),
    λ shown. absurd (none c below within shown.seen),
  )
  shown_by_first zone next (Some s) c b below within first test = (
    λ yes. let same : s ≡ c = cc (test.0 yes) in subst (IsShown a zone next) same first.2,
    λ shown. test.1 (ap (λ n. Some n) (⊎_elim
        (λ (less : s < c). absurd (shown.first s first.0 less first.2.seen))
        (λ (more : c ≤ s). ⊎_elim
        (λ (less : c < s). absurd (first.2.first c below less shown.seen))
        (λ (last : s ≤ c). let same : s ≡ c = omega (arith, more, last) in same)
        (cases_lt c s))
        (cases_lt s c))),
  )

  -- ---- the names below a zone

  -- those so far
  pub record AreCutsTo (zone : ℕ) (next : Option ℕ) (chains : List Chain) (lowest name : ℕ) (cuts : List CutFacts) : Type 0 where
    pub below : zone < name
    pub within : name - (zone + 1) ≤ lowest - zone
    pub each : AllZip (AreCutFacts a zone next chains) (range_with_len (zone + 1) (name - (zone + 1))) cuts

  pub no_cut_yet : (zone : ℕ) (next : Option ℕ) (chains : List Chain) (lowest : ℕ) (cuts : List CutFacts) → cuts ≡ []
      → AreCutsTo zone next chains lowest (zone + 1) cuts
  no_cut_yet zone next chains lowest cuts none =
      let start : (zone + 1) - (zone + 1) ≡ 0 = omega arith in
      record {
        below = omega arith;
        within = omega arith;
        each = subst (λ (n : ℕ). AllZip (AreCutFacts a zone next chains) (range_with_len (zone + 1) n) cuts) (sym start)
            (subst (λ each. AllZip (AreCutFacts a zone next chains) [] each) (sym none) tt);
      }

  pub one_cut_more : (zone : ℕ) (next : Option ℕ) (chains : List Chain) (lowest name : ℕ) (cuts : List CutFacts) (cut : CutFacts)
      → name < lowest + 1 → AreCutsTo zone next chains lowest name cuts → AreCutFacts a zone next chains name cut
      → AreCutsTo zone next chains lowest (name + 1) (cuts ++ cut ∷ [])
  one_cut_more zone next chains lowest name cuts cut less so_far one =
      let below = so_far.below in
      let count : (name + 1) - (zone + 1) ≡ name - (zone + 1) + 1 = omega (arith, below) in
      let number : name ≡ (zone + 1) + (name - (zone + 1)) = omega (arith, below) in
      let longer : range_with_len (zone + 1) ((name + 1) - (zone + 1)) ≡ range_with_len (zone + 1) (name - (zone + 1)) ++ name ∷ [] =
      ap (range_with_len (zone + 1)) count ∙ range_more (zone + 1) (name - (zone + 1)) name number in
      record {
        below = omega (arith, below);
        within = omega (arith, below, less);
        each = subst (λ ns. AllZip (AreCutFacts a zone next chains) ns (cuts ++ cut ∷ [])) (sym longer)
            (zip_push (AreCutFacts a zone next chains) (range_with_len (zone + 1) (name - (zone + 1))) cuts name cut so_far.each one);
      }

  pub all_cuts : (zone : ℕ) (next : Option ℕ) (chains : List Chain) (lowest name : ℕ) (cuts : List CutFacts) → lowest + 1 ≤ name
      → AreCutsTo zone next chains lowest name cuts → AllZip (AreCutFacts a zone next chains) (range_with_len (zone + 1) (lowest - zone)) cuts
  all_cuts zone next chains lowest name cuts past so_far =
      let below = so_far.below in
      let within = so_far.within in
      let count : name - (zone + 1) ≡ lowest - zone = omega (arith, below, within, past) in
      subst (λ (n : ℕ). AllZip (AreCutFacts a zone next chains) (range_with_len (zone + 1) n) cuts) count so_far.each

-- ---- sources

enumerate_more : {X : Type 0} (n : ℕ) (xs : List X) (x : X) → enumerate_from n (xs ++ x ∷ []) ≡ enumerate_from n xs ++ (n + length xs, x) ∷ []
enumerate_more n [] x = let at : n ≡ n + 0 = omega arith in λ i. (at i, x) ∷ []
enumerate_more n (y ∷ xs) x =
    let number : n + 1 + length xs ≡ n + suc (length xs) = omega arith in
    ap (λ rest. (n, y) ∷ rest) (enumerate_more (n + 1) xs x ∙ (λ i. enumerate_from (n + 1) xs ++ (number i, x) ∷ []))

-- one source more
pub one_source_more : {X Y Z : Type 0} (R : ℕ × Y → Z → Type 0) (f : X → Y) (xs : List X) (i : ℕ) (x : X) (zs : List Z) (z : Z) → i < length xs
    → x ≡ get_or xs i x → AllZip R (enumerate_from 0 (map f (take i xs))) zs → R (i, f x) z
    → AllZip R (enumerate_from 0 (map f (take (i + 1) xs))) (zs ++ z ∷ [])
one_source_more {X} {Y} {Z} R f xs i x zs z within at so_far one =
    let longer : take (i + 1) xs ≡ take i xs ++ x ∷ [] = take_more xs i x within ∙ ap (λ each. take i xs ++ each ∷ []) (sym at) in
    let count : length (map f (take i xs)) ≡ i =
    let mapped = length-map (take i xs) f in let taken = length-take i xs in omega (arith, mapped, taken, within) in
    let place : 0 + length (map f (take i xs)) ≡ i = omega (arith, count) in
    subst (λ ys. AllZip R (enumerate_from 0 ys) (zs ++ z ∷ [])) (sym (ap (map f) longer ∙ map-append f (take i xs) (x ∷ [])))
    (subst (λ ys. AllZip R ys (zs ++ z ∷ [])) (sym (enumerate_more 0 (map f (take i xs)) (f x) ∙ (λ j. enumerate_from 0 (map f (take i xs)) ++ (place j, f x) ∷ [])))
    (zip_push R (enumerate_from 0 (map f (take i xs))) zs (i, f x) z so_far one))

-- ---- delegations

-- and where nothing else shows one, Opt-Out may leave it out
pub here_left_out : (a : Asking) (zone : Labels) (next : Option ℕ) (cut : Labels) → ¬ HasRrset a.basis.rrsets cut 2 → ¬ HasRrset a.basis.rrsets cut 6
    → ¬ IsTypedBySome a zone cut IsDelegation → IsSeenHere a zone next cut → (HasGoal a ⊎ IsThere next) × IsOptedOutBySome a zone cut
here_left_out a zone next cut ns soa typed (inl has) = absurd (ns has)
here_left_out a zone next cut ns soa typed (inr (inl has)) = absurd (soa has)
here_left_out a zone next cut ns soa typed (inr (inr (inl is))) = absurd (typed is)
here_left_out a zone next cut ns soa typed (inr (inr (inr is))) = is

-- a name that is seen, by whether it is the known zone next below
module _ (a : Asking) (zone : Labels) (c : ℕ) where
  pub seen_alone : (next : Option ℕ) → next ≡ None → IsSeenHere a zone next (rightmost a.name c) ↔ IsSeen a zone next c
  seen_alone None none = (λ here. here, λ seen. seen)
  seen_alone (Some n) none = absurd (cc none)

  pub seen_above : (next : Option ℕ) (n : ℕ) → next ≡ Some n → c < n → IsSeenHere a zone next (rightmost a.name c) ↔ IsSeen a zone next c
  seen_above None n some less = absurd (cc some)
  seen_above (Some m) n some less =
      let same : m ≡ n = cc some in (
        λ here. inl (omega (arith, less, same), here),
        λ seen. ⊎_elim (λ (is : (c < m) × IsSeenHere a zone (Some m) (rightmost a.name c)). is.1)
            (λ (is : (c ≡ m) × IsSeenUnsigned a zone (rightmost a.name c)). let at = is.0 in absurd (omega (arith, less, same, at))) seen,
      )

  pub seen_beyond : (next : Option ℕ) (n : ℕ) → next ≡ Some n → n < c → ¬ IsSeen a zone next c
  seen_beyond None n some more seen = cc some
  seen_beyond (Some m) n some more (inl is) = let same : m ≡ n = cc some in let at = is.0 in absurd (omega (arith, more, same, at))
  seen_beyond (Some m) n some more (inr is) = let same : m ≡ n = cc some in let at = is.0 in absurd (omega (arith, more, same, at))

  pub seen_next : (next : Option ℕ) (n : ℕ) → next ≡ Some n → n ≤ c → c ≤ n → IsSeenUnsigned a zone (rightmost a.name c) ↔ IsSeen a zone next c
  seen_next None n some more less = absurd (cc some)
  seen_next (Some m) n some more less =
      let same : m ≡ n = cc some in (
        λ here. inr (let at : c ≡ m = omega (arith, more, less, same) in at, here),
        λ seen. ⊎_elim (λ (is : (c < m) × IsSeenHere a zone (Some m) (rightmost a.name c)). let at = is.0 in absurd (omega (arith, more, same, at)))
            (λ (is : (c ≡ m) × IsSeenUnsigned a zone (rightmost a.name c)). is.1) seen,
      )

-- one test and the other
pub by_both : (b : Bool) (P Q : Type 0) → (IsTrue b ↔ P) → (P ↔ Q) → IsTrue b ↔ Q
by_both b P Q test same = (λ yes. same.0 (test.0 yes), λ is. test.1 (same.1 is))

-- of two the other
pub the_other : (P Q : Type 0) → ¬ P → P ⊎ Q → Q
the_other P Q not (inl is) = absurd (not is)
the_other P Q not (inr is) = is

-- something may answer, by its type or as an alias
pub a_goal_of_type : (a : Asking) → HasRrset a.basis.rrsets a.name a.rtype → HasGoal a
a_goal_of_type a has = (has.rrset, has.among, record { owner = has.owner; its_type = inl has.its_type })

pub a_goal_of_cname : (a : Asking) → HasRrset a.basis.rrsets a.name 5 → HasGoal a
a_goal_of_cname a has = (has.rrset, has.among, record { owner = has.owner; its_type = inr has.its_type })

pub one_goal : (a : Asking) → HasGoal a → ¬ HasRrset a.basis.rrsets a.name a.rtype → HasRrset a.basis.rrsets a.name 5
one_goal a goal not = ⊎_elim
    (λ (its : goal.0.rtype ≡ a.rtype). absurd (not (record { rrset = goal.0; among = goal.1; owner = goal.2.owner; its_type = its })))
    (λ (alias : goal.0.rtype ≡ 5). record { rrset = goal.0; among = goal.1; owner = goal.2.owner; its_type = alias }) goal.2.its_type

-- a signature by one above, among those that are read
pub one_from_above : (rrset : ReceivedRrset) (rrsigs : List Rrsig) → AllZip IsRrsig rrset.signatures rrsigs → (zone : Labels)
    → SameName rrset.owner zone → rrset.rtype ≡ 43 → HasSignerAbove rrsigs zone true ↔ IsDsFromAbove zone rrset
one_from_above rrset rrsigs read zone owner rtype = (
  λ has. record { owner = owner; its_type = rtype; rrsig = has.rrsig; its = read_of rrset rrsigs read has.rrsig has.among; above = has.above.properly refl },
  λ is. record { rrsig = is.rrsig; among = read_in rrset rrsigs read is.rrsig is.its; above = record { at = is.above.0; properly = λ always. is.above } },
)

-- ---- what some source says

-- by one that is held, or by any
module _ (question : AskedQuestion) (zone : ℕ) (sources : List HeldSource) (held : AreHeldSources question zone sources) (c : ℕ) where
  abbrev cut : Labels
  cut = rightmost question.name.now c

  pub delegation_by_some : ((number : RecordNumber) × IsSaidByOne question zone (name.Above c) (word.Types types.Delegation) sources number)
      ↔ IsTypedBySome (asking question) (zone_in question zone) cut IsDelegation
  delegation_by_some = (
    λ said. (held_chain said.1.held, said.0, said.1.says),
    λ is.
        let there = held_there (asking question) (zone_in question zone) sources held.chains is.0
        (typed_there (asking question) (zone_in question zone) is.0 cut IsDelegation is.1 is.2) in (
          is.1,
          record {
            held = there.0;
            among = there.1;
            says = subst (λ (chain : Chain). (source_said (asking question) (zone_in question zone) chain).TypesAt cut IsDelegation is.1) (sym there.2) is.2;
          },
        ),
  )

  pub unsigned_by_some : ((number : RecordNumber) × IsSaidByOne question zone (name.Above c) (word.Types types.UnsignedDelegation) sources number)
      ↔ IsTypedBySome (asking question) (zone_in question zone) cut IsUnsignedDelegation
  unsigned_by_some = (
    λ said. (held_chain said.1.held, said.0, said.1.says),
    λ is.
        let there = held_there (asking question) (zone_in question zone) sources held.chains is.0
        (typed_there (asking question) (zone_in question zone) is.0 cut IsUnsignedDelegation is.1 is.2) in (
          is.1,
          record {
            held = there.0;
            among = there.1;
            says = subst (λ (chain : Chain). (source_said (asking question) (zone_in question zone) chain).TypesAt cut IsUnsignedDelegation is.1) (sym there.2) is.2;
          },
        ),
  )

  pub opted_out_by_some : ((number : RecordNumber) × IsSaidByOne question zone (name.Above c) word.OptedOut sources number)
      ↔ IsOptedOutBySome (asking question) (zone_in question zone) cut
  opted_out_by_some = (
    λ said. (held_chain said.1.held, said.0, said.1.says),
    λ is.
        let there = held_there (asking question) (zone_in question zone) sources held.chains is.0
        (opted_out_there (asking question) (zone_in question zone) is.0 cut is.1 is.2) in (
          is.1,
          record {
            held = there.0;
            among = there.1;
            says = subst (λ (chain : Chain). (source_said (asking question) (zone_in question zone) chain).OptedOut cut is.1) (sym there.2) is.2;
          },
        ),
  )

-- a case, by the source that is held
pub case_as : (question : AskedQuestion) (zone : ℕ) (source : ZoneSource) (held : HeldSource) (c : ℕ) (case : CutCase) → source.labels ≡ zone
    → chain_of source.records ≡ held_chain held → IsCaseOfCut question source c case
    → IsCutCase (asking question).basis (source_said (asking question) (zone_in question zone) (held_chain held))
    (HasOptOut (asking question) (zone_in question zone) (held_chain held)) (rightmost question.name.now (c - 1)) (rightmost question.name.now c) case
case_as question zone source held c case same chain is =
    let Of : ℕ → Chain → Type 0 = λ n each. IsCutCase (asking question).basis (source_said (asking question) (zone_in question n) each)
    (HasOptOut (asking question) (zone_in question n) each) (rightmost question.name.now (c - 1)) (rightmost question.name.now c) case in
    subst (Of zone) chain (subst (λ (n : ℕ). Of n (chain_of source.records)) same is)
