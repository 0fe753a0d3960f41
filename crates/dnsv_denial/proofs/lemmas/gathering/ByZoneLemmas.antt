-- Zones that are kept with their records, and looked up by name.
use Rattle.std.proofs.Common.{◌≡◌, ℕ, ◌+◌, ◌<◌, Bool, true, false, cond, Some, List, [], ◌∷◌, ◌++◌, Vec, length, get_or, refl, sym, ap, ◌∙◌, subst, ⊎_elim, arith, append_assoc, append-nil}
use Rattle.std.proofs.lemmas.Bool.{cases_lt}
use Rattle.std.proofs.lemmas.List.Elements.{Contains-append_left, Contains-get_or, Contains-push, Contains-push_cases}
use Rattle.std.proofs.lemmas.List.Sorted.{Contains-permutation, IsPermutation-sym, searchable_from_sorted}
use Rattle.std.specs.Cmp.{Equal-is}
use Rattle.std.specs.List.{AllByRecursion, HoldsAt}
use Rattle.std.specs.List.Sorted.{IsNonDecreasingBy, IsPartitionPoint, IsPermutation, IsSortedByKey}
use Rattle.std.specs.Map.{lookup}
use Rattle.std.specs.Option.{option_map_or}
use Rattle.std.specs.Ordering.{is_eq, ordering_index}
use Rattle.std.specs.Prelude.{⊤, Contains}
use Rattle.std.specs.declared.cmp.Ordering.TheVariants.{Less, Equal, Greater}
use Rattle.dnsv_names.specs.Name.{Labels, SameName, same_name}
use Rattle.dnsv_names.specs.Order.ByWire.{search_cmp}
use Rattle.dnsv_names.specs.Order.ByWireLaws.{search_cmp_total, search_ties}
use Rattle.dnsv_names.specs.Order.OrderLaws.{same_name_Decides}
use Rattle.dnsv_records.specs.OctetLaws.{recursion-append}
use Rattle.dnsv_canonical.specs.Rrsets.{ReceivedRrset}
use Rattle.dnsv_canonical.proofs.OrderLemmas.{each_kept}
use Rattle.dnsv_anchors.specs.declared.by_owner.key.OwnerKey.{OwnerKey}
use Rattle.dnsv_denial.specs.gathering.ByZone.{AreDenialRecords, AreGatheredRecords, AreSecuredRecords, IsZoneAmong}
use Rattle.dnsv_denial.specs.gathering.Evidence.{IsNsecAt, IsNsec3At, IsSecuredBy}
use Rattle.dnsv_denial.specs.gathering.Gathered.{AreNsecsOf, AreNsec3sOf, IsDenialType}
use Rattle.dnsv_proof_forms.specs.records.Record.{read_entry, read_nsec3}
use Rattle.dnsv_denial.specs.declared.gathering.denial_records.DenialRecords.{DenialRecords}
use Rattle.dnsv_denial.specs.declared.gathering.denial_records.SecuredZone.{SecuredZone}
use Rattle.dnsv_denial.specs.declared.gathering.zone_records.GatheredRecords.{GatheredRecords}
use Rattle.dnsv_denial.proofs.lemmas.gathering.EvidenceLemmas.{all_said}
use Rattle.dnsv_denial.proofs.lemmas.gathering.NsecGather.{nsecs_of_zone}
use Rattle.dnsv_denial.proofs.lemmas.gathering.Nsec3Gather.{nsec3s_of_zone}
use Rattle.dnsv_denial.proofs.lemmas.gathering.SignerLemmas.{no_nsecs, no_nsec3s}
use Rattle.dnsv_denial.proofs.lemmas.proving.RespelledZoneLemmas.{nsec_as, nsec3_as}

-- ---- names

equal_of : (a b : Labels) → SameName a b → search_cmp a b ≡ Equal
equal_of a b same =
    let holds : is_eq (search_cmp a b) ≡ true = sym (search_ties a b) ∙ (same_name_Decides a b).1 same in
    (Equal-is (search_cmp a b)).0 holds

same_of : (a b : Labels) → search_cmp a b ≡ Equal → SameName a b
same_of a b equal = (same_name_Decides a b).0 (search_ties a b ∙ ap is_eq equal)

-- ---- the records of a zone

-- those of the RRsets that it secured
pub records_of_zone : (Secured : ℕ → ℕ → Type 0) (rrsets : List ReceivedRrset) (zone : Labels) (numbers : List ℕ) (kept : GatheredRecords)
    → ((k : ℕ) → Contains numbers k → IsSecuredBy Secured rrsets zone k)
    → ((k : ℕ) (by : IsSecuredBy Secured rrsets zone k) → IsDenialType by.rrset.rtype → Contains numbers k)
    → AreGatheredRecords (λ k. Contains numbers k) rrsets zone kept → AreSecuredRecords Secured rrsets zone kept
records_of_zone Secured rrsets zone numbers kept secured listed are = record {
  nsecs = nsecs_of_zone Secured rrsets zone (Contains numbers) kept.nsecs.items secured listed are.nsecs;
  nsec3s = nsec3s_of_zone Secured rrsets zone (Contains numbers) kept.nsec3s secured listed are.nsec3s;
}

-- ---- the zones that are made of a list of numbers

abbrev IsNamedAmong : {Y : Type 0} → List SecuredZone → OwnerKey × Vec ℕ Y → Type 0
IsNamedAmong zones entry = IsZoneAmong zones entry.0.0

found_among : {Y : Type 0} (entries : List (OwnerKey × Vec ℕ Y)) (zones : List SecuredZone) → AllByRecursion (IsNamedAmong zones) entries → (name : Labels) (k : ℕ)
    → Contains (option_map_or (λ (numbers : Vec ℕ Y). numbers.items) (lookup (λ (key : OwnerKey). same_name name key.0) entries) []) k → IsZoneAmong zones name
found_among [] zones named name k there = absurd (omega (arith, there.1))
found_among {Y} (e ∷ entries) zones named name k there =
    elim (same_name name e.0.0) as (λ b. same_name name e.0.0 ≡ b
    → Contains (option_map_or (λ (numbers : Vec ℕ Y). numbers.items) (cond b (Some e.1) (lookup (λ (key : OwnerKey). same_name name key.0) entries)) []) k → IsZoneAmong zones name) [
      | true ↦ λ is found. (named.0.0, named.0.1, named.0.2 ∙ sym ((same_name_Decides name e.0.0).0 is))
      | false ↦ λ is found. found_among entries zones named.1 name k found
    ] refl there

-- what is there for the zone among these entries
abbrev pub numbers_in : {Y : Type 0} → Labels → List (OwnerKey × Vec ℕ Y) → List ℕ
numbers_in {Y} zone entries = option_map_or (λ (numbers : Vec ℕ Y). numbers.items) (lookup (λ (key : OwnerKey). same_name zone key.0) entries) []

turned : (a b : Labels) (s : Bool) → same_name a b ≡ s → same_name b a ≡ s
turned a b true is = (same_name_Decides b a).1 (sym ((same_name_Decides a b).0 is))
turned a b false is =
    elim (same_name b a) as (λ t. same_name b a ≡ t → t ≡ false) [
      | true ↦ λ other. let its : same_name a b ≡ true = (same_name_Decides a b).1 (sym ((same_name_Decides b a).0 other)) in sym its ∙ is
      | false ↦ λ _. refl
    ] refl

pub entry_found : {Y : Type 0} (zone : Labels) (entry : OwnerKey × Vec ℕ Y) (rest : List (OwnerKey × Vec ℕ Y)) → same_name entry.0.0 zone ≡ true
    → numbers_in zone (entry ∷ rest) ≡ entry.1.items
entry_found {Y} zone entry rest is =
    ap (λ (b : Bool). option_map_or (λ (numbers : Vec ℕ Y). numbers.items) (cond b (Some entry.1) (lookup (λ (key : OwnerKey). same_name zone key.0) rest)) [])
    (turned entry.0.0 zone true is)

pub entry_passed : {Y : Type 0} (zone : Labels) (entry : OwnerKey × Vec ℕ Y) (rest : List (OwnerKey × Vec ℕ Y)) → same_name entry.0.0 zone ≡ false
    → numbers_in zone (entry ∷ rest) ≡ numbers_in zone rest
entry_passed {Y} zone entry rest is =
    ap (λ (b : Bool). option_map_or (λ (numbers : Vec ℕ Y). numbers.items) (cond b (Some entry.1) (lookup (λ (key : OwnerKey). same_name zone key.0) rest)) [])
    (turned entry.0.0 zone false is)

module _ {Y : Type 0} (Secured : ℕ → ℕ → Type 0) (rrsets : List ReceivedRrset) where
  -- the zones of the entries before the rest
  pub record AreZonesBefore (all rest : List (OwnerKey × Vec ℕ Y)) (zones : List SecuredZone) : Type 0 where
    pub done : List (OwnerKey × Vec ℕ Y)
    pub parted : done ++ rest ≡ all
    pub each : (zone : SecuredZone) → Contains zones zone → AreSecuredRecords Secured rrsets zone.name zone.records
    pub named : AllByRecursion (IsNamedAmong zones) done

  pub zones_begin : (all : List (OwnerKey × Vec ℕ Y)) → AreZonesBefore all all []
  zones_begin all = record { done = []; parted = refl; each = λ zone there. absurd (omega (arith, there.1)); named = tt }

  pub zone_more : (all rest : List (OwnerKey × Vec ℕ Y)) (kept : OwnerKey × Vec ℕ Y) (zones : List SecuredZone) (zone : SecuredZone)
      → zone.name ≡ kept.0.0 → AreSecuredRecords Secured rrsets zone.name zone.records → AreZonesBefore all (kept ∷ rest) zones → AreZonesBefore all rest (zones ++ zone ∷ [])
  zone_more all rest kept zones zone name are before = record {
    done = before.done ++ kept ∷ [];
    parted = append_assoc before.done (kept ∷ []) rest ∙ before.parted;
    each = λ other there. ⊎_elim (λ (sooner : Contains zones other). before.each other sooner)
        (λ (here : zone ≡ other). subst (λ (z : SecuredZone). AreSecuredRecords Secured rrsets z.name z.records) here are)
        (Contains-push_cases zones zone other there);
    named = recursion-append (IsNamedAmong (zones ++ zone ∷ [])) before.done (kept ∷ [])
        (each_kept (IsNamedAmong zones) (IsNamedAmong (zones ++ zone ∷ [])) before.done
        (λ e among. (among.0, Contains-append_left zones (zone ∷ []) among.0 among.1, among.2)) before.named)
        ((zone, Contains-push zones zone, subst (SameName zone.name) name refl), tt);
  }

  pub zones_end : (all : List (OwnerKey × Vec ℕ Y)) (zones : List SecuredZone) → AreZonesBefore all [] zones → (name : Labels) (k : ℕ)
      → Contains (option_map_or (λ (numbers : Vec ℕ Y). numbers.items) (lookup (λ (key : OwnerKey). same_name name key.0) all) []) k → IsZoneAmong zones name
  zones_end all zones before name k there =
      found_among all zones (subst (AllByRecursion (IsNamedAmong zones)) (sym (append-nil before.done) ∙ before.parted) before.named) name k there

-- ---- in their order

pub each_moved : (Secured : ℕ → ℕ → Type 0) (rrsets : List ReceivedRrset) (given sorted : List SecuredZone) → IsPermutation given sorted
    → ((zone : SecuredZone) → Contains given zone → AreSecuredRecords Secured rrsets zone.name zone.records)
    → (zone : SecuredZone) → Contains sorted zone → AreSecuredRecords Secured rrsets zone.name zone.records
each_moved Secured rrsets given sorted moved each zone there =
    each zone (Contains-permutation sorted given zone (IsPermutation-sym given sorted moved) there)

pub among_moved : (given sorted : List SecuredZone) → IsPermutation given sorted → (name : Labels) → IsZoneAmong given name → IsZoneAmong sorted name
among_moved given sorted moved name among = (among.0, Contains-permutation given sorted among.0 moved among.1, among.2)

-- ---- looked up

module _ (Secured : ℕ → ℕ → Type 0) (rrsets : List ReceivedRrset) where
  -- another spelling
  records_as : (a b : Labels) (kept : GatheredRecords) → SameName a b → AreSecuredRecords Secured rrsets a kept → AreSecuredRecords Secured rrsets b kept
  records_as a b kept same are = record {
    nsecs = all_said (λ entry. entry.number) read_entry (IsNsecAt Secured rrsets a) (IsNsecAt Secured rrsets b) (λ _. ⊤) (λ _. ⊤) kept.nsecs.items
        (λ n x any is. (tt, nsec_as Secured rrsets [] 0 a b same n x is)) (λ n x any is. (tt, nsec_as Secured rrsets [] 0 b a (sym same) n x is)) are.nsecs;
    nsec3s = all_said (λ entry. entry.number) read_nsec3 (IsNsec3At Secured rrsets a) (IsNsec3At Secured rrsets b) (λ _. ⊤) (λ _. ⊤) kept.nsec3s
        (λ n x any is. (tt, nsec3_as Secured rrsets [] 0 a b same n x is)) (λ n x any is. (tt, nsec3_as Secured rrsets [] 0 b a (sym same) n x is)) are.nsec3s;
  }

  pub found_zone : (kept : DenialRecords) (name : Labels) (place : ℕ) (zone : SecuredZone) → AreDenialRecords Secured rrsets kept
      → place < length kept.zones.items → zone ≡ get_or kept.zones.items place zone
      → HoldsAt (λ (each : SecuredZone). search_cmp each.name name ≡ Equal) kept.zones.items place → AreSecuredRecords Secured rrsets name zone.records
  found_zone kept name place zone are within is holds =
      let equal : search_cmp zone.name name ≡ Equal = ap (λ (each : SecuredZone). search_cmp each.name name) is ∙ holds zone in
      let its : Contains kept.zones.items zone = subst (λ (each : SecuredZone). Contains kept.zones.items each) (sym is) (Contains-get_or kept.zones.items place zone within) in
      records_as zone.name name zone.records (same_of zone.name name equal) (are.each zone its)

  not_missed : (zones : List SecuredZone) (name : Labels) (place : ℕ) → IsSortedByKey (λ (each : SecuredZone). each.name) search_cmp zones → IsZoneAmong zones name
      → (IsNonDecreasingBy (λ (each : SecuredZone). ordering_index (search_cmp each.name name)) zones
      → IsPartitionPoint (λ (each : SecuredZone). search_cmp each.name name ≡ Less) (λ each. search_cmp each.name name ≡ Greater) zones place) → ⊥
  not_missed zones name place sorted among parted =
      let zone = among.0 in
      let k = among.1.0 in
      let tied : search_cmp (get_or zones k zone).name name ≡ Equal =
      ap (λ (each : SecuredZone). search_cmp each.name name) among.1.2 ∙ equal_of zone.name name among.2 in
      let point = parted (searchable_from_sorted search_cmp_total (λ (each : SecuredZone). each.name) zones name sorted) in
      ⊎_elim
      (λ before. let less : search_cmp (get_or zones k zone).name name ≡ Less = point.0 k zone (omega arith) before in let clash : Less ≡ Equal = sym less ∙ tied in cc)
      (λ behind. let more : search_cmp (get_or zones k zone).name name ≡ Greater = point.1 k zone behind among.1.1 in let clash : Greater ≡ Equal = sym more ∙ tied in cc)
      (cases_lt k place)

  pub no_zone : (kept : DenialRecords) (name : Labels) (place : ℕ) → AreDenialRecords Secured rrsets kept
      → (IsNonDecreasingBy (λ (each : SecuredZone). ordering_index (search_cmp each.name name)) kept.zones.items
      → IsPartitionPoint (λ (each : SecuredZone). search_cmp each.name name ≡ Less) (λ each. search_cmp each.name name ≡ Greater) kept.zones.items place)
      → AreSecuredRecords Secured rrsets name kept.none
  no_zone kept name place are parted =
      let none : (k : ℕ) (by : IsSecuredBy Secured rrsets name k) → ¬ IsDenialType by.rrset.rtype =
      λ k by denies. not_missed kept.zones.items name place are.sorted (are.all name k by denies) parted in
      record {
        nsecs = subst (AreNsecsOf Secured rrsets name) (sym are.no_nsecs) (no_nsecs Secured rrsets name none);
        nsec3s = subst (AreNsec3sOf Secured rrsets name) (sym are.no_nsec3s) (no_nsec3s Secured rrsets name none);
      }
