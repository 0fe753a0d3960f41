-- The denials of a zone and its sources, one after another.
use Rattle.std.proofs.Common.{◌≡◌, ◌≢◌, ◌↔◌, ◌⊎◌, ◌<◌, ◌≤◌, ◌+◌, ◌++◌, ℕ, zero, suc, inl, inr, List, [], ◌∷◌, Some, length, get_or, map, take, refl, sym, ap, ◌∙◌, subst, arith, append-nil, length-append, ⊎_elim}
use Rattle.std.proofs.lemmas.Bool.{cases_lt}
use Rattle.std.proofs.lemmas.List.{map-append}
use Rattle.std.proofs.lemmas.List.Elements.{Contains-append_left, Contains-append_right, Contains-push_cases}
use Rattle.std.proofs.lemmas.Option.{get_or_from_slice_get, slice_get_read, slice_get_within}
use Rattle.std.specs.List.{AllByRecursion}
use Rattle.std.specs.List.Sorted.{IsStrictlySortedBy}
use Rattle.std.specs.Prelude.{⊤, Contains, slice_get}
use Rattle.std.specs.declared.cmp.Ordering.TheVariants.{Less}
use Rattle.dnsv_names.specs.Name.{Labels}
use Rattle.dnsv_records.specs.declared.nsec3.Nsec3Parameters.{Nsec3Parameters}
use Rattle.dnsv_records.specs.OctetLaws.{recursion-append}
use Rattle.dnsv_zones.specs.Any.{Any}
use Rattle.dnsv_zones.specs.chains.Nsec3Chain.{Nsec3Record, Parameters}
use Rattle.dnsv_zones.specs.chains.Rdata.{parameters_of}
use Rattle.dnsv_canonical.specs.Evidence.{AreParametersAmong, nsec3_rdata}
use Rattle.dnsv_canonical.specs.Rrsets.{ReceivedRrset}
use Rattle.dnsv_canonical.specs.declared.number.RecordNumber.{RecordNumber}
use Rattle.dnsv_proof_forms.proofs.lemmas.PlaceLemmas.{each_at}
use Rattle.dnsv_denial.proofs.lemmas.gathering.AlikeLemmas.{any_place}
use Rattle.dnsv_denial.proofs.lemmas.gathering.NameHashesLemmas.{rising_at, used_parameters}
use Rattle.dnsv_proof_forms.specs.QuestionHashes.{AreHashedFor, AreUsed}
use Rattle.dnsv_denial.specs.gathering.ByZone.{AreGatheredRecords}
use Rattle.dnsv_denial.specs.gathering.Evidence.{IsNsecOf, IsNsec3Of}
use Rattle.dnsv_denial.specs.gathering.Gathered.{AreAll, AreNsecs, AreNsec3s}
use Rattle.dnsv_proof_forms.specs.records.Record.{read_entry, read_nsec3}
use Rattle.dnsv_denial.specs.gathering.EvidenceWords.{Chain, GoesBefore}
use Rattle.dnsv_proof_forms.specs.records.ParametersOrder.{parameters_cmp}
use Rattle.dnsv_denial.specs.gathering.EvidenceWords.Chain.{ByNsec, ByNsec3}
use Rattle.dnsv_denial.specs.gathering.EvidenceWords.GoesBefore.{by_parameters, nsec_first}
use Rattle.dnsv_proof_forms.specs.words.SaidAt.{IsSaidAt}
use Rattle.dnsv_proof_forms.specs.declared.records.parameters.OrderedParameters.{OrderedParameters}
use Rattle.dnsv_proof_forms.specs.declared.records.entry.NsecEntry.{NsecEntry}
use Rattle.dnsv_proof_forms.specs.declared.records.entry.Nsec3Entry.{Nsec3Entry}
use Rattle.dnsv_proof_forms.specs.declared.records.hashed_records.HashedRecords.{HashedRecords}
use Rattle.dnsv_denial.specs.declared.gathering.zone_records.GatheredRecords.{GatheredRecords}
use Rattle.dnsv_gaps.proofs.RisingLemmas.{contains_map, mapped_from}
use Rattle.dnsv_gaps.specs.Asking.{Asking, IsAsked, asking}
use Rattle.dnsv_gaps.specs.Denials.{IsDenialNumber}
use Rattle.dnsv_gaps.specs.SourceSearch.{AreHeldSources, AreNsecSources, AreNsec3Sources, AreZoneDenials, HasEntryWith, IsHeldIn, IsNsecSource, IsNsec3Source, held_chain, zone_in}
use Rattle.dnsv_gaps.specs.Sources.{HasRecords}
use Rattle.dnsv_gaps.specs.declared.asked.AskedQuestion.{AskedQuestion}
use Rattle.dnsv_gaps.specs.declared.sources.HeldSource.{HeldSource}
use Rattle.dnsv_gaps.specs.declared.sources.HeldSource.TheVariants as held
use Rattle.dnsv_gaps.specs.declared.sources.ZoneDenials.{ZoneDenials}
use Rattle.dnsv_denial.proofs.lemmas.gathering.EvidenceLemmas.{all_said}

-- ---- the order of sources

abbrev pub Goes : List Chain → Type 0
Goes chains = (i j : ℕ) (first other : Chain) → slice_get chains i ≡ Some first → slice_get chains j ≡ Some other → i < j
    → GoesBefore first other

at_front : {X : Type 0} (xs ys : List X) (i : ℕ) → i < length xs → slice_get (xs ++ ys) i ≡ slice_get xs i
at_front [] ys i within = absurd (omega (arith, within))
at_front (x ∷ xs) ys zero within = refl
at_front (x ∷ xs) ys (suc i) within = at_front xs ys i (omega (arith, within))

at_end : {X : Type 0} (xs : List X) (x y : X) (i : ℕ) → length xs ≤ i → slice_get (xs ++ x ∷ []) i ≡ Some y → y ≡ x
at_end [] x y zero past at = cc
at_end [] x y (suc i) past at = cc
at_end (z ∷ xs) x y zero past at = absurd (omega (arith, past))
at_end (z ∷ xs) x y (suc i) past at = at_end xs x y i (omega (arith, past)) at

goes_push : (chains : List Chain) (next : Chain) → Goes chains → ((chain : Chain) → Contains chains chain → GoesBefore chain next)
    → Goes (chains ++ next ∷ [])
goes_push chains next goes before i j first other at_i at_j less =
    let size = slice_get_within (chains ++ next ∷ []) j other at_j in
    let sizes = length-append chains (next ∷ []) in
    let early : i < length chains = omega (arith, less, size, sizes) in
    let here : slice_get chains i ≡ Some first = sym (at_front chains (next ∷ []) i early) ∙ at_i in
    ⊎_elim
    (λ (sooner : j < length chains).
    goes i j first other here (sym (at_front chains (next ∷ []) j sooner) ∙ at_j) less)
    (λ (last : length chains ≤ j).
    subst (λ (c : Chain). GoesBefore first c) (sym (at_end chains next other j last at_j))
    (before first (i, early, get_or_from_slice_get chains i first first here)))
    (cases_lt j (length chains))

-- ---- which sources have records

module _ (question : AskedQuestion) (zone : ZoneDenials) (are : AreZoneDenials question zone) where
  abbrev a : Asking
  a = asking question

  abbrev z : Labels
  z = zone_in question zone.labels

  abbrev Among : RecordNumber → Type 0
  Among number = IsDenialNumber a z number.rrset

  nsec_records : zone.records.nsecs.items ≢ [] → HasRecords a z ByNsec
  nsec_records some = first zone.records.nsecs.items some are.records.nsecs.each where
    first : (entries : List NsecEntry) → entries ≢ []
        → AllByRecursion (λ (e : NsecEntry). Among e.number × IsNsecOf a.basis.rrsets e.number (read_entry e)) entries
        → HasRecords a z ByNsec
    first [] some each = absurd (some refl)
    first (e ∷ entries) some each = (e.number, read_entry e, record { is = each.0.1; denial = each.0.0 })

  records_nsec : HasRecords a z ByNsec → zone.records.nsecs.items ≢ []
  records_nsec has none =
      let some = are.records.nsecs.all has.0 has.1 has.2.denial has.2.is in
      subst (λ (es : List NsecEntry). Any (λ (e : NsecEntry). (e.number ≡ has.0) × (read_entry e ≡ has.1)) es) none some

  nsec3_records : (p : Parameters) → HasEntryWith p zone → HasRecords a z (ByNsec3 p)
  nsec3_records p has =
      let entry : Nsec3Entry = has.1.entry in
      let it = each_at (λ (e : Nsec3Entry). Among e.number × IsNsec3Of a.basis.rrsets z e.number (read_nsec3 e)) zone.records.nsec3s has.0 entry
      are.records.nsec3s.each has.1.there in
      (entry.number, read_nsec3 entry, record { is = it.1; denial = it.0 }, has.1.says)

  records_nsec3 : (p : Parameters) → HasRecords a z (ByNsec3 p) → HasEntryWith p zone
  records_nsec3 p has =
      let some = any_place (λ (e : Nsec3Entry). (e.number ≡ has.0) × (read_nsec3 e ≡ has.1)) zone.records.nsec3s
      (are.records.nsec3s.all has.0 has.1 has.2.denial has.2.is) in
      (some.0, record { entry = some.1; there = some.2; says = ap (λ r. r.parameters) some.3.1 ∙ has.3 })

  -- ---- sources so far: that of NSEC, and those with these parameters

  abbrev pub IsAmong : List Parameters → Chain → Type 0
  IsAmong ps ByNsec = ⊤
  IsAmong ps (ByNsec3 p) = Contains ps p

  pub record AreSourcesTo (ps : List Parameters) (sources : List HeldSource) : Type 0 where
    pub members : (chain : Chain) → Contains (map held_chain sources) chain ↔ (HasRecords a z chain × IsAmong ps chain)
    pub order : Goes (map held_chain sources)
    pub each : AllByRecursion (IsHeldIn question zone.labels) sources

  nothing : {X : Type 0} (x : X) → ¬ Contains [] x
  nothing x there = let within = there.1 in absurd (omega (arith, within))

  one : {X : Type 0} (x y : X) → Contains (x ∷ []) y → x ≡ y
  one x y (zero, within, at) = at
  one x y (suc k, within, at) = absurd (omega (arith, within))

  no_nsecs : zone.records.nsecs.items ≡ [] → AreSourcesTo [] []
  no_nsecs none = record {
    members = λ chain. (λ there. absurd (nothing chain there), λ both. absurd (never chain both));
    order = λ i j first other at_i at_j less. absurd (let within = slice_get_within [] i first at_i in omega (arith, within));
    each = tt;
  } where
    never : (chain : Chain) → HasRecords a z chain × IsAmong [] chain → ⊥
    never ByNsec both = records_nsec both.0 none
    never (ByNsec3 p) both = nothing p both.1

  some_nsecs : zone.records.nsecs.items ≢ [] → (source : HeldSource) → IsNsecSource zone source → AreSourcesTo [] (source ∷ [])
  some_nsecs some (held.Nsec entries) is = record {
    members = λ chain. (
      λ there. subst (λ (c : Chain). HasRecords a z c × IsAmong [] c) (one ByNsec chain there) (nsec_records some, tt),
      λ both. only chain both,
    );
    order = λ i j first other at_i at_j less.
        let within = slice_get_within (ByNsec ∷ []) j other at_j in absurd (omega (arith, within, less));
    each = (subst (λ (es : List NsecEntry). AreNsecs question.facts.now.rrsets Among es) (sym is) are.records.nsecs, tt);
  } where
    only : (chain : Chain) → HasRecords a z chain × IsAmong [] chain → Contains (ByNsec ∷ []) chain
    only ByNsec both = (0, omega arith, refl)
    only (ByNsec3 p) both = absurd (nothing p both.1)
  some_nsecs some (held.Nsec3 hashed) is = absurd is

  pub nsecs_first : (more : List HeldSource) → AreNsecSources zone more → AreSourcesTo [] more
  nsecs_first more (inl none) = subst (AreSourcesTo []) (sym none.1) (no_nsecs none.0)
  nsecs_first more (inr some) = subst (AreSourcesTo []) (sym some.1.2) (some_nsecs some.0 some.1.0 some.1.1)

  -- ---- one with parameters more

  module _ (ps : List Parameters) (p : Parameters) (sources : List HeldSource) (so_far : AreSourcesTo ps sources)
      (behind : (q : Parameters) → Contains ps q → parameters_cmp q p ≡ Less) where
    among_more : (chain : Chain) → IsAmong ps chain → IsAmong (ps ++ p ∷ []) chain
    among_more ByNsec among = tt
    among_more (ByNsec3 q) among = Contains-append_left ps (p ∷ []) q among

    none_with : ¬ HasEntryWith p zone → AreSourcesTo (ps ++ p ∷ []) sources
    none_with none = record {
      members = λ chain. (
        λ there. let both = (so_far.members chain).0 there in (both.0, among_more chain both.1),
        λ both. (so_far.members chain).1 (both.0, among_less chain both.0 both.1),
      );
      order = so_far.order;
      each = so_far.each;
    } where
      among_less : (chain : Chain) → HasRecords a z chain → IsAmong (ps ++ p ∷ []) chain → IsAmong ps chain
      among_less ByNsec has among = tt
      among_less (ByNsec3 q) has among =
          ⊎_elim (λ (before : Contains ps q). before)
          (λ (last : p ≡ q). absurd (none (records_nsec3 p (subst (λ (r : Parameters). HasRecords a z (ByNsec3 r)) (sym last) has))))
          (Contains-push_cases ps p q among)

    goes_before : (chain : Chain) → IsAmong ps chain → GoesBefore chain (ByNsec3 p)
    goes_before ByNsec among = nsec_first p
    goes_before (ByNsec3 q) among = by_parameters q p (behind q among)

    some_with : HasEntryWith p zone → (asked : IsAsked question) → (hashed : HashedRecords) → AreHashedFor question.hashes.now zone.records.nsec3s p hashed
        → AreSourcesTo (ps ++ p ∷ []) (sources ++ held.Nsec3 hashed ∷ [])
    some_with some asked hashed is =
        let chains = map held_chain sources in
        let its : held_chain (held.Nsec3 hashed) ≡ ByNsec3 p = ap ByNsec3 is.parameters_are in
        let all : map held_chain (sources ++ held.Nsec3 hashed ∷ []) ≡ chains ++ ByNsec3 p ∷ [] =
        map-append held_chain sources (held.Nsec3 hashed ∷ []) ∙ ap (λ (c : Chain). chains ++ c ∷ []) its in record {
          members = λ chain. subst (λ (cs : List Chain). Contains cs chain ↔ (HasRecords a z chain × IsAmong (ps ++ p ∷ []) chain)) (sym all) (
            λ there. ⊎_elim
                (λ (before : Contains chains chain). let both = (so_far.members chain).0 before in (both.0, among_more chain both.1))
                (λ (last : ByNsec3 p ≡ chain).
                subst (λ (c : Chain). HasRecords a z c × IsAmong (ps ++ p ∷ []) c) last
                (nsec3_records p some, Contains-append_right ps (p ∷ []) p (0, omega arith, refl)))
                (Contains-push_cases chains (ByNsec3 p) chain there),
            λ both. from chain both.0 both.1,
          );
          order = subst Goes (sym all) (goes_push chains (ByNsec3 p) so_far.order
              (λ chain there. goes_before chain ((so_far.members chain).0 there).1));
          each = recursion-append (IsHeldIn question zone.labels) sources (held.Nsec3 hashed ∷ []) so_far.each (
            (
              is.name_is ∙ ap (λ h. h.name) asked.hashes,
              is.has_hashes,
              subst (λ (es : List Nsec3Entry). AreNsec3s question.facts.now.rrsets z Among es) (sym is.entries_are) are.records.nsec3s,
            ),
            tt,
          );
        } where
          from : (chain : Chain) → HasRecords a z chain → IsAmong (ps ++ p ∷ []) chain → Contains (map held_chain sources ++ ByNsec3 p ∷ []) chain
          from ByNsec has among = Contains-append_left (map held_chain sources) (ByNsec3 p ∷ []) ByNsec ((so_far.members ByNsec).1 (has, tt))
          from (ByNsec3 q) has among =
              ⊎_elim
              (λ (before : Contains ps q). Contains-append_left (map held_chain sources) (ByNsec3 p ∷ []) (ByNsec3 q) ((so_far.members (ByNsec3 q)).1 (has, before)))
              (λ (last : p ≡ q). Contains-append_right (map held_chain sources) (ByNsec3 p ∷ []) (ByNsec3 q) (0, omega arith, ap ByNsec3 last))
              (Contains-push_cases ps p q among)

    pub sources_more : (asked : IsAsked question) (more next : List HeldSource) → next ≡ sources ++ more → AreNsec3Sources question zone p more
        → AreSourcesTo (ps ++ p ∷ []) next
    sources_more asked more next grown (inl none) =
        subst (AreSourcesTo (ps ++ p ∷ [])) (sym (grown ∙ ap (λ (m : List HeldSource). sources ++ m) none.1 ∙ append-nil sources)) (none_with none.0)
    sources_more asked more next grown (inr some) =
        subst (AreSourcesTo (ps ++ p ∷ [])) (sym (grown ∙ ap (λ (m : List HeldSource). sources ++ m) some.1.2))
        (by_source some.0 some.1.0 some.1.1) where
          by_source : HasEntryWith p zone → (source : HeldSource) → IsNsec3Source question zone p source
              → AreSourcesTo (ps ++ p ∷ []) (sources ++ source ∷ [])
          by_source has (held.Nsec entries) is = absurd is
          by_source has (held.Nsec3 hashed) is = some_with has asked hashed is

  -- ---- all of them

  pub all_sources : (ps : List Parameters) (sources : List HeldSource)
      → ((n : RecordNumber) (nsec3 : Nsec3Record) → IsNsec3Of a.basis.rrsets z n nsec3 → Contains ps nsec3.parameters) → AreSourcesTo ps sources
      → AreHeldSources question zone.labels sources
  all_sources ps sources every are_to = record {
    chains = record {
      members = λ chain. (λ there. ((are_to.members chain).0 there).0, λ has. (are_to.members chain).1 (has, among chain has));
      order = are_to.order;
    };
    each = are_to.each;
  } where
    among : (chain : Chain) → HasRecords a z chain → IsAmong ps chain
    among ByNsec has = tt
    among (ByNsec3 p) has = subst (Contains ps) has.3 (every has.0 has.1 has.2.is)

-- ---- entries with the parameters of hashes

pub entries_with : (question : AskedQuestion) (zone : ZoneDenials) (p : Parameters) (hashed : HashedRecords)
    → AreHashedFor question.hashes.now zone.records.nsec3s p hashed
    → ((place : ℕ) × IsSaidAt (λ (e : Nsec3Entry). (read_nsec3 e).parameters ≡ parameters_of hashed.parameters.now) hashed.entries.now place)
    ↔ HasEntryWith p zone
entries_with question zone p hashed is =
    let Some : List Nsec3Entry → Parameters → Type 0 =
    λ es q. (place : ℕ) × IsSaidAt (λ (e : Nsec3Entry). (read_nsec3 e).parameters ≡ q) es place in (
      λ some. subst (Some zone.records.nsec3s) is.parameters_are
          (subst (λ (es : List Nsec3Entry). Some es (parameters_of hashed.parameters.now)) is.entries_are some),
      λ some. subst (λ (es : List Nsec3Entry). Some es (parameters_of hashed.parameters.now)) (sym is.entries_are)
          (subst (Some zone.records.nsec3s) (sym is.parameters_are) some),
    )

-- the records of the RRsets with the numbers are those of the zone's denials
pub zone_records : (a : Asking) (zone given : Labels) (rrsets : List ReceivedRrset) (numbers : List ℕ) (kept : GatheredRecords)
    → given ≡ zone → rrsets ≡ a.basis.rrsets → ((k : ℕ) → Contains numbers k ↔ IsDenialNumber a zone k)
    → AreGatheredRecords (λ k. Contains numbers k) rrsets given kept
    → AreGatheredRecords (IsDenialNumber a zone) a.basis.rrsets zone kept
zone_records a zone given rrsets numbers kept its_zone its_rrsets members are =
    let Of : List ReceivedRrset → Labels → Type 0 = λ r z. AreGatheredRecords (λ k. Contains numbers k) r z kept in
    let moved = subst (Of a.basis.rrsets) its_zone (subst (λ (r : List ReceivedRrset). Of r given) its_rrsets are) in record {
      nsecs = among_as (λ e. e.number) read_entry (IsNsecOf a.basis.rrsets) kept.nsecs.items moved.nsecs;
      nsec3s = among_as (λ e. e.number) read_nsec3 (IsNsec3Of a.basis.rrsets zone) kept.nsec3s moved.nsec3s;
    } where
      among_as : {E X : Type 0} (number : E → RecordNumber) (value : E → X) (Is : RecordNumber → X → Type 0) (entries : List E)
          → AreAll number value Is (λ n. Contains numbers n.rrset) entries → AreAll number value Is (λ n. IsDenialNumber a zone n.rrset) entries
      among_as number value Is entries are =
          all_said number value Is Is (λ n. Contains numbers n.rrset) (λ n. IsDenialNumber a zone n.rrset) entries
          (λ n x w is. ((members n.rrset).0 w, is)) (λ n x v is. ((members n.rrset).1 v, is)) are

-- ---- the parameters of the evidence, in order

abbrev pub ordered_of : OrderedParameters → Parameters
ordered_of each = parameters_of each.parameters.now

-- those before are less
pub before_all : (items : List OrderedParameters) → IsStrictlySortedBy parameters_cmp (map parameters_of (map (λ (each : OrderedParameters). each.parameters.now) items))
    → (i : ℕ) (item : OrderedParameters) → i < length items → item ≡ get_or items i item → (q : Parameters)
    → Contains (map ordered_of (take i items)) q → parameters_cmp q (ordered_of item) ≡ Less
before_all items rising i item within at q there =
    let of = mapped_from ordered_of (take i items) q there in
    let early = contains_take items i of.0 of.1 in
    let here = slice_get_read items (length items) i item refl within at in
    subst (λ (p : Parameters). parameters_cmp p (ordered_of item) ≡ Less) of.2
    (rising_at ordered_of parameters_cmp items (subst (IsStrictlySortedBy parameters_cmp) (maps items) rising) early.0 i of.0 item early.2 here early.1) where
      maps : (items : List OrderedParameters) → map parameters_of (map (λ (each : OrderedParameters). each.parameters.now) items) ≡ map ordered_of items
      maps [] = refl
      maps (x ∷ xs) = ap (λ (ps : List Parameters). ordered_of x ∷ ps) (maps xs)

      -- it stands at an earlier place
      contains_take : (items : List OrderedParameters) (i : ℕ) (x : OrderedParameters) → Contains (take i items) x
          → (j : ℕ) × (j < i) × (slice_get items j ≡ Some x)
      contains_take items i x there =
          let count = length-take-le_any i items in
          let within = there.1 in
          let less : there.0 < i = omega (arith, count, within) in
          (there.0, less, slice_take items i there.0 x (get_there (take i items) there.0 x there.1 there.2)) where
            get_there : (xs : List OrderedParameters) (k : ℕ) (x : OrderedParameters) → k < length xs → get_or xs k x ≡ x → slice_get xs k ≡ Some x
            get_there [] k x within at = absurd (omega (arith, within))
            get_there (y ∷ ys) zero x within at = ap Some at
            get_there (y ∷ ys) (suc k) x within at = get_there ys k x (omega (arith, within)) at

            length-take-le_any : (i : ℕ) (xs : List OrderedParameters) → length (take i xs) ≤ i
            length-take-le_any zero xs = omega arith
            length-take-le_any (suc i) [] = omega arith
            length-take-le_any (suc i) (x ∷ xs) = let rest = length-take-le_any i xs in omega (arith, rest)

            slice_take : (xs : List OrderedParameters) (i k : ℕ) (x : OrderedParameters) → slice_get (take i xs) k ≡ Some x → slice_get xs k ≡ Some x
            slice_take xs zero k x at = cc
            slice_take [] (suc i) k x at = cc
            slice_take (y ∷ ys) (suc i) zero x at = at
            slice_take (y ∷ ys) (suc i) (suc k) x at = slice_take ys i k x at

pub used_there : (rrsets : List ReceivedRrset) (all : List Nsec3Parameters) (items : List OrderedParameters)
    → ((each : Nsec3Parameters) → Contains all each ↔ AreParametersAmong (nsec3_rdata rrsets) each)
    → ((each : Nsec3Parameters) → Contains all each ↔ Contains (map (λ (one : OrderedParameters). one.parameters.now) items) each)
    → (item : OrderedParameters) → Contains items item → AreUsed rrsets (ordered_of item)
used_there rrsets all items evidence members item there = (
  item.parameters.now,
  (evidence item.parameters.now).0 ((members item.parameters.now).1 (contains_map (λ (one : OrderedParameters). one.parameters.now) items item there)),
  refl,
)

pub every_used : (rrsets : List ReceivedRrset) (zone : Labels) (all : List Nsec3Parameters) (items : List OrderedParameters)
    → ((each : Nsec3Parameters) → Contains all each ↔ AreParametersAmong (nsec3_rdata rrsets) each)
    → ((each : Nsec3Parameters) → Contains all each ↔ Contains (map (λ (one : OrderedParameters). one.parameters.now) items) each)
    → (n : RecordNumber) (nsec3 : Nsec3Record) → IsNsec3Of rrsets zone n nsec3 → Contains (map ordered_of items) nsec3.parameters
every_used rrsets zone all items evidence members n nsec3 is =
    let among = (members is.fields.parameters).0 ((evidence is.fields.parameters).1 (used_parameters rrsets zone n nsec3 is)) in
    let of = mapped_from (λ (one : OrderedParameters). one.parameters.now) items is.fields.parameters among in
    subst (Contains (map ordered_of items)) (ap parameters_of of.2 ∙ sym is.parameters) (contains_map ordered_of items of.0 of.1)
