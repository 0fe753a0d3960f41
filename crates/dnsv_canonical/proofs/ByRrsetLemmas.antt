-- RDATA kept by RRset, as one key's changes.
use Rattle.std.proofs.Common.{◌≡◌, ℕ, ◌+◌, ◌<◌, ◌==◌, ◌&&◌, ◌||◌, Bool, true, false, cond, not, Option, Some, List, [], ◌∷◌, ◌++◌, length, take, get_or, map, Vec, Bor, if◌then◌else◌, refl, sym, ap, ◌∙◌, append-nil, arith}
use Rattle.std.proofs.lemmas.Cmp.{nat_eq_equiv, on_equiv, and_equiv}
use Rattle.std.proofs.lemmas.List.{map-append, take_more}
use Rattle.std.proofs.lemmas.List.Folds.{list_any-append}
use Rattle.std.proofs.lemmas.Map.Text.{is_eq-slice_cmp}
use Rattle.std.specs.BTreeMap.{BTreeMap, Updates, get}
use Rattle.std.specs.BTreeSet as sorted
use Rattle.std.specs.BTreeSet.{BTreeSet, contains}
use Rattle.std.specs.Cmp.{IsEquivalence, both_tied, unsigned_tied}
use Rattle.std.specs.Cmp.Lexicographic.{slice_cmp}
use Rattle.std.specs.HashMap.Eq.{lookup_congr}
use Rattle.std.specs.List.{list_any}
use Rattle.std.specs.Map.{lookup}
use Rattle.std.specs.Option.{option_map_or}
use Rattle.std.specs.Ordering.{ordering_then, is_eq, nat_cmp}
use Rattle.std.specs.Str.{bytes_eq}
use Rattle.std.specs.declared.cmp.Ordering.{Ordering}
use Rattle.dnsv_names.specs.declared.number.RecordType.{RecordType}
use Rattle.dnsv_names.specs.Name.{Labels, same_name}
use Rattle.dnsv_names.specs.Order.ByWire.{search_cmp}
use Rattle.dnsv_names.specs.Order.ByWireLaws.{search_ties}
use Rattle.dnsv_message.specs.declared.name_ref.by_wire.NameRefByWire.{NameRefByWire}
use Rattle.dnsv_canonical.specs.ByRrset.{rdata_at}
use Rattle.dnsv_canonical.specs.Rrsets.{first_appearances}
use Rattle.dnsv_canonical.proofs.GroupLemmas.{same_name_equiv, first_appearances-push}

abbrev pub Key : Type 0
Key = RecordType × NameRefByWire

abbrev pub key_cmp : Key → Key → Ordering
key_cmp a b = ordering_then (nat_cmp a.0.0 b.0.0) (search_cmp a.1.0.now b.1.0.now)

abbrev same_key : Key → Key → Bool
same_key a b = (a.0.0 == b.0.0) && same_name a.1.0.now b.1.0.now

abbrev pub key_of : ℕ → Labels → Key
key_of rtype owner = (record { 0 = rtype }, record { 0 = record { ref_ptr = (0, 0); now = owner } })

same_key_equiv : IsEquivalence same_key
same_key_equiv = and_equiv (on_equiv (λ (k : Key). k.0.0) nat_eq_equiv) (on_equiv (λ (k : Key). k.1.0.now) same_name_equiv)

pub same_key_ties : (a b : Key) → is_eq (key_cmp a b) ≡ same_key a b
same_key_ties a b = sym (both_tied _ _ (nat_cmp a.0.0 b.0.0) (search_cmp a.1.0.now b.1.0.now) (sym (unsigned_tied a.0.0 b.0.0)) (search_ties a.1.0.now b.1.0.now))

abbrev pub Kept : Type 0 → Type 0
Kept Y = Vec (Bor (List ℕ)) Y

abbrev pub octets_of : {Y : Type 0} → Option (Kept Y) → List (List ℕ)
octets_of {Y} kept = option_map_or (λ (v : Kept Y). map (λ r. r.now) v.items) kept []

-- what the map's calls find is what is kept
pub rdata_found : {Y : Type 0} (m : BTreeMap Key (Kept Y)) (k : Key) → octets_of (get key_cmp m k) ≡ rdata_at m k.0.0 k.1.0.now
rdata_found m k = λ i. octets_of (lookup (λ q. same_key_ties k q i) m.entries)

module _ {Y : Type 0} (m n : BTreeMap Key (Kept Y)) (k : Key) (kept : Option (Kept Y)) (updates : Updates key_cmp m n k kept) where
  -- one key has what is given, and the others what they had
  pub rdata_after : (t : ℕ) (name : Labels) → rdata_at n t name ≡ if k.0.0 == t && same_name k.1.0.now name then octets_of kept else rdata_at m t name
  rdata_after t name =
      let q : Key = key_of t name in
      sym (rdata_found n q) ∙ ap octets_of (updates.0 q) ∙ (λ i. octets_of (cond (same_key_ties k q i) kept (get key_cmp m q)))
      ∙ elim (same_key k q) as (λ b. octets_of (cond b kept (get key_cmp m q)) ≡ if b then octets_of kept else rdata_at m t name) [
        | true ↦ refl
        | false ↦ rdata_found m q
      ]

-- RDATA that is put back behind what was taken from one key is added there, and the others have what they had
pub rdata_added : {Y : Type 0} (old left new : BTreeMap Key (Kept Y)) (k : Key) (taken more : Kept Y) (rdata : Bor (List ℕ)) → map (λ r. r.now) taken.items ≡ rdata_at old k.0.0 k.1.0.now → ((t : ℕ) (name : Labels) → (k.0.0 == t && same_name k.1.0.now name) ≡ false → rdata_at left t name ≡ rdata_at old t name) → more.items ≡ taken.items ++ rdata ∷ [] → Updates key_cmp left new k (Some more) → (t : ℕ) (name : Labels) → rdata_at new t name ≡ rdata_at old t name ++ (if t == k.0.0 && same_name name k.1.0.now then rdata.now ∷ [] else [])
rdata_added old left new k taken more rdata was others given updates t name =
    let q : Key = key_of t name in
    let octets : Bor (List ℕ) → List ℕ = λ r. r.now in
    rdata_after left new k (Some more) updates t name
    ∙ elim (same_key k q) as (λ b. same_key k q ≡ b → (if b then map octets more.items else rdata_at left t name) ≡ rdata_at old t name ++ (if b then rdata.now ∷ [] else [])) [
      | true ↦ λ is. ap (map octets) given ∙ map-append octets taken.items (rdata ∷ [])
          ∙ ap (λ rs. rs ++ rdata.now ∷ []) (was ∙ ap octets_of (lookup_congr same_key same_key_equiv.congr old.entries k q is))
      | false ↦ λ is. others t name is ∙ sym (append-nil (rdata_at old t name))
    ] refl
    ∙ ap (λ b. rdata_at old t name ++ (if b then rdata.now ∷ [] else [])) (same_key_equiv.symm k q)

-- one RDATA alone appears first
pub alone : (xs : List (Bor (List ℕ))) → length xs < 2 → map (λ r. r.now) xs ≡ first_appearances bytes_eq (map (λ r. r.now) xs)
alone [] few = refl
alone (x ∷ []) few = refl
alone (x ∷ y ∷ xs) few = absurd (omega arith)

abbrev pub octets_cmp : Bor (List ℕ) → Bor (List ℕ) → Ordering
octets_cmp a b = slice_cmp nat_cmp a.now b.now

-- the octets are those of one in the set
abbrev pub is_seen : BTreeSet (Bor (List ℕ)) → List ℕ → Bool
is_seen seen octets = list_any (λ r. bytes_eq octets r.now) seen.keys

pub seen_contains : (seen : BTreeSet (Bor (List ℕ))) (x : Bor (List ℕ)) → contains octets_cmp seen x ≡ is_seen seen x.now
seen_contains seen x = λ i. list_any (λ r. is_eq-slice_cmp x.now r.now i) seen.keys

-- once RDATA is put into a set in which just these are seen, these and it are
pub seen_behind : (before : List (List ℕ)) (x : Bor (List ℕ)) (old new : BTreeSet (Bor (List ℕ))) → sorted.Updates octets_cmp old new x true
    → ((octets : List ℕ) → is_seen old octets ≡ list_any (λ y. bytes_eq y octets) before)
    → (octets : List ℕ) → is_seen new octets ≡ list_any (λ y. bytes_eq y octets) (before ++ x.now ∷ [])
seen_behind before x old new updates seen octets =
    let q : Bor (List ℕ) = record { ref_ptr = (0, 0); now = octets } in
    let earlier : Bool = list_any (λ y. bytes_eq y octets) before in
    sym (seen_contains new q) ∙ updates.0 q
    ∙ (λ j. cond (is_eq-slice_cmp x.now octets j) true ((seen_contains old q ∙ seen octets) j))
    ∙ either earlier (bytes_eq x.now octets)
    ∙ sym (list_any-append (λ y. bytes_eq y octets) before (x.now ∷ []))
  where
    either : (s b : Bool) → cond b true s ≡ (s || (b || false))
    either true true = refl
    either true false = refl
    either false true = refl
    either false false = refl

module _ (xs : List (Bor (List ℕ))) (i : ℕ) (d : Bor (List ℕ)) (within : i < length xs) where
  abbrev x : Bor (List ℕ)
  x = get_or xs i d

  abbrev so_far : ℕ → List (List ℕ)
  so_far n = map (λ r. r.now) (take n xs)

  one_more : so_far (i + 1) ≡ so_far i ++ x.now ∷ []
  one_more = ap (map (λ (r : Bor (List ℕ)). r.now)) (take_more xs i d within) ∙ map-append (λ (r : Bor (List ℕ)). r.now) (take i xs) (x ∷ [])

  -- once an RDATA is put into the set, it is seen, and so is what was
  pub seen_more : (old new : BTreeSet (Bor (List ℕ))) → sorted.Updates octets_cmp old new x true → ((octets : List ℕ) → is_seen old octets ≡ list_any (λ y. bytes_eq y octets) (so_far i)) → (octets : List ℕ) → is_seen new octets ≡ list_any (λ y. bytes_eq y octets) (so_far (i + 1))
  seen_more old new updates seen octets =
      seen_behind (so_far i) x old new updates seen octets ∙ ap (list_any (λ y. bytes_eq y octets)) (sym one_more)

  module _ (found : List (Bor (List ℕ))) (once : map (λ r. r.now) found ≡ first_appearances bytes_eq (so_far i)) (seen : Bool) (is : list_any (λ y. bytes_eq y x.now) (so_far i) ≡ seen) where
    next : first_appearances bytes_eq (so_far (i + 1)) ≡ map (λ r. r.now) found ++ cond seen [] (x.now ∷ [])
    next =
        ap (first_appearances bytes_eq) one_more ∙ first_appearances-push bytes_eq (so_far i) x.now
        ∙ (λ j. sym once j ++ cond (is j) [] (x.now ∷ []))

  module _ (old : BTreeSet (Bor (List ℕ))) (seen : (octets : List ℕ) → is_seen old octets ≡ list_any (λ y. bytes_eq y octets) (so_far i)) (found : List (Bor (List ℕ))) (once : map (λ r. r.now) found ≡ first_appearances bytes_eq (so_far i)) where
    was_seen : (b : Bool) → not (contains octets_cmp old x) ≡ not b → list_any (λ y. bytes_eq y x.now) (so_far i) ≡ b
    was_seen b is = sym (seen x.now) ∙ sym (seen_contains old x) ∙ sym (twice (contains octets_cmp old x)) ∙ ap not is ∙ twice b
      where
        twice : (a : Bool) → not (not a) ≡ a
        twice true = refl
        twice false = refl

    -- an RDATA is listed where it comes for the first time
    pub once_more : not (contains octets_cmp old x) ≡ true → map (λ r. r.now) (found ++ x ∷ []) ≡ first_appearances bytes_eq (so_far (i + 1))
    once_more is = map-append (λ (r : Bor (List ℕ)). r.now) found (x ∷ []) ∙ sym (next found once false (was_seen false is))

    pub no_more : not (contains octets_cmp old x) ≡ false → map (λ r. r.now) found ≡ first_appearances bytes_eq (so_far (i + 1))
    no_more is = sym (next found once true (was_seen true is) ∙ append-nil (map (λ r. r.now) found))
