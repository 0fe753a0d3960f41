-- Values kept by owner, as one owner's changes.
use Rattle.std.proofs.Common.{◌≡◌, Bool, true, false, cond, Option, Some, None, List, [], ◌∷◌, ◌++◌, Vec, if◌then◌else◌, refl, sym, ap, ◌∙◌, append-nil}
use Rattle.std.proofs.lemmas.Cmp.{on_equiv}
use Rattle.std.specs.BTreeMap.{BTreeMap, Updates, get}
use Rattle.std.specs.Cmp.{IsEquivalence}
use Rattle.std.specs.HashMap.Eq.{lookup_congr}
use Rattle.std.specs.Map.{lookup}
use Rattle.std.specs.Option.{option_map_or}
use Rattle.std.specs.Ordering.{is_eq}
use Rattle.std.specs.declared.cmp.Ordering.{Ordering}
use Rattle.dnsv_names.specs.Name.{Labels, SameName, same_name}
use Rattle.dnsv_names.specs.Order.ByWire.{search_cmp}
use Rattle.dnsv_names.specs.Order.ByWireLaws.{same_name_equiv, search_ties}
use Rattle.dnsv_names.specs.Order.OrderLaws.{same_name_Decides}
use Rattle.dnsv_anchors.specs.declared.by_owner.key.OwnerKey.{OwnerKey}
use Rattle.dnsv_anchors.specs.ByOwner.{values_at}

abbrev pub key_cmp : OwnerKey → OwnerKey → Ordering
key_cmp a b = search_cmp a.0 b.0

abbrev same_key : OwnerKey → OwnerKey → Bool
same_key a b = same_name a.0 b.0

abbrev key_of : Labels → OwnerKey
key_of owner = record { 0 = owner }

same_key_equiv : IsEquivalence same_key
same_key_equiv = on_equiv (λ (k : OwnerKey). k.0) same_name_equiv

same_key_ties : (a b : OwnerKey) → is_eq (key_cmp a b) ≡ same_key a b
same_key_ties a b = sym (search_ties a.0 b.0)

abbrev pub values_of : {T Y : Type 0} → Option (Vec T Y) → List T
values_of kept = option_map_or (λ values. values.items) kept []

-- what the map's calls find is what is kept
pub values_found : {T Y : Type 0} (m : BTreeMap OwnerKey (Vec T Y)) (k : OwnerKey) → values_of (get key_cmp m k) ≡ values_at m k.0
values_found m k = λ i. values_of (lookup (λ q. same_key_ties k q i) m.entries)

-- equal names have the same
pub values_same : {T Y : Type 0} (m : BTreeMap OwnerKey (Vec T Y)) (a b : Labels) → SameName a b → values_at m a ≡ values_at m b
values_same m a b same =
    ap values_of (lookup_congr same_key same_key_equiv.congr m.entries (key_of a) (key_of b) ((same_name_Decides a b).1 same))

module _ {T Y : Type 0} (m n : BTreeMap OwnerKey (Vec T Y)) (k : OwnerKey) (kept : Option (Vec T Y)) (updates : Updates key_cmp m n k kept) where
  -- one owner has what is given, and the others what they had
  pub values_after : (name : Labels) → values_at n name ≡ if same_name k.0 name then values_of kept else values_at m name
  values_after name =
      let q : OwnerKey = key_of name in
      sym (values_found n q) ∙ ap values_of (updates.0 q) ∙ (λ i. values_of (cond (same_key_ties k q i) kept (get key_cmp m q)))
      ∙ elim (same_key k q) as (λ b. values_of (cond b kept (get key_cmp m q)) ≡ if b then values_of kept else values_at m name) [
        | true ↦ refl
        | false ↦ values_found m q
      ]

-- a value that is put back behind what was taken from one owner is added there, and the others have what they had
pub values_added : {T Y : Type 0} (old left new : BTreeMap OwnerKey (Vec T Y)) (k : OwnerKey) (taken more : Vec T Y) (value : T)
    → taken.items ≡ values_at old k.0 → Updates key_cmp old left k None → more.items ≡ taken.items ++ value ∷ []
    → Updates key_cmp left new k (Some more) → (name : Labels)
    → values_at new name ≡ values_at old name ++ (if same_name name k.0 then value ∷ [] else [])
values_added old left new k taken more value was removed given updates name =
    let q : OwnerKey = key_of name in
    values_after left new k (Some more) updates name
    ∙ elim (same_key k q) as (λ b. same_key k q ≡ b → (if b then more.items else values_at left name) ≡ values_at old name ++ (if b then value ∷ [] else [])) [
      | true ↦ λ is. given ∙ ap (λ values. values ++ value ∷ []) (was ∙ ap values_of (lookup_congr same_key same_key_equiv.congr old.entries k q is))
      | false ↦ λ is. values_after old left k None removed name ∙ (λ i. if is i then [] else values_at old name) ∙ sym (append-nil (values_at old name))
    ] refl
    ∙ ap (λ b. values_at old name ++ (if b then value ∷ [] else [])) (same_key_equiv.symm k q)
