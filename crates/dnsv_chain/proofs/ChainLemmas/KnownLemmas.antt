-- Keys that are found again by owner and RDATA.
use Rattle.std.proofs.Common.{◌≡◌, ◌++◌, ◌∷◌, if◌then◌else◌, not, ℕ, Bool, true, false, cond, List, [], refl, sym, ap, ◌∙◌, subst}
use Rattle.std.proofs.lemmas.Bool.{false≢true}
use Rattle.std.proofs.lemmas.List.Elements.{Contains-push}
use Rattle.std.specs.Bool.{OnFalse}
use Rattle.std.specs.BTreeSet.{BTreeSet, Updates, contains}
use Rattle.std.specs.Cmp.Lexicographic.{bytes_decides, texts_ties}
use Rattle.std.specs.List.{Contains}
use Rattle.std.specs.Ordering.{is_eq, ordering_then}
use Rattle.std.specs.declared.cmp.Ordering.{Ordering}
use Rattle.std.specs.declared.cmp.Ordering.TheVariants.{Equal}
use Rattle.dnsv_names.specs.Name.{Labels, SameName, same_name}
use Rattle.dnsv_names.specs.Order.ByWire.{search_cmp}
use Rattle.dnsv_names.specs.Order.ByWireLaws.{search_ties}
use Rattle.dnsv_names.specs.Order.OrderLaws.{same_name_Decides}
use Rattle.dnsv_anchors.specs.declared.by_owner.key.OwnerKey.{OwnerKey}
use Rattle.dnsv_records.specs.declared.dnskey.Dnskey.{Dnskey}
use Rattle.dnsv_canonical.specs.Canonical.{rdata_cmp}
use Rattle.dnsv_verifier.specs.Admissible.{DnskeyRecord}
use Rattle.dnsv_chain.specs.Chain.{AreKnown, HasRdata, known_cmp}

pub both_equal : (a b : Ordering) → is_eq (ordering_then a b) ≡ true → (is_eq a ≡ true) × (is_eq b ≡ true)
both_equal Equal b same = (refl, same)
both_equal a b same = absurd (false≢true same)

-- what compares as equal has equal names and the same octets
same_key : (a b : OwnerKey × (List ℕ × Dnskey)) → is_eq (known_cmp a b) ≡ true → SameName a.0.0 b.0.0 × (a.1.0 ≡ b.1.0)
same_key a b same =
    let both = both_equal (search_cmp a.0.0 b.0.0) (rdata_cmp a.1.0 b.1.0) same in (
      (same_name_Decides a.0.0 b.0.0).0 (search_ties a.0.0 b.0.0 ∙ both.0),
      (bytes_decides a.1.0 b.1.0).0 (texts_ties a.1.0 b.1.0 ∙ both.1),
    )

module _ (old_keys new_keys : Labels → List DnskeyRecord) (old new : BTreeSet (OwnerKey × (List ℕ × Dnskey))) (key : OwnerKey × (List ℕ × Dnskey)) where
  -- one key more
  pub known_more : AreKnown old old_keys → Updates known_cmp old new key true
      → ((zone : Labels) (k : DnskeyRecord) → Contains (old_keys zone) k → Contains (new_keys zone) k)
      → ((a b : Labels) → SameName a b → new_keys a ≡ new_keys b)
      → HasRdata (new_keys key.0.0) key.1.0 → AreKnown new new_keys
  known_more known updates kept same has = record {
    each = λ q there. elim (is_eq (known_cmp key q)) as (λ b. is_eq (known_cmp key q) ≡ b → cond b true (contains known_cmp old q) ≡ true → HasRdata (new_keys q.0.0) q.1.0) [
      | true ↦ λ is _.
          let alike = same_key key q is in
          subst (λ (octets : List ℕ). HasRdata (new_keys q.0.0) octets) alike.1
          (subst (λ (list : List DnskeyRecord). HasRdata list key.1.0) (same key.0.0 q.0.0 alike.0) has)
      | false ↦ λ _ before. let found = known.each q before in (found.0, kept q.0.0 found.0 found.1, found.2)
    ] refl (sym (updates.0 q) ∙ there);
  }

-- no key more
pub known_unchanged : (keys : Labels → List DnskeyRecord) (old new : BTreeSet (OwnerKey × (List ℕ × Dnskey))) (added : Bool) → added ≡ false
    → OnFalse added (new.keys ≡ old.keys) → AreKnown old keys → AreKnown new keys
known_unchanged keys old new true is same known = absurd (false≢true (sym is))
known_unchanged keys old new false is same known = record {
  each = λ q there. known.each q (sym (λ i. contains known_cmp (record { keys = same i }) q) ∙ there);
}

-- an owner and RDATA that are known are those of a key
pub found_known : (known : BTreeSet (OwnerKey × (List ℕ × Dnskey))) (keys : Labels → List DnskeyRecord) (key : OwnerKey × (List ℕ × Dnskey)) (owner : Labels) → key.0.0 ≡ owner
    → AreKnown known keys → not (contains known_cmp known key) ≡ false → HasRdata (keys owner) key.1.0
found_known known keys key owner same are found =
    subst (λ (name : Labels). HasRdata (keys name) key.1.0) same (are.each key (elim (contains known_cmp known key) as (λ b. not b ≡ false → b ≡ true) [
      | true ↦ λ _. refl
      | false ↦ λ e. sym e
    ] found))

-- the key that was added for the owner
pub added_key : (owner : Labels) (key : DnskeyRecord) (old : List DnskeyRecord) (new : List DnskeyRecord)
    → new ≡ old ++ (if same_name owner owner then key ∷ [] else []) → HasRdata new key.rdata
added_key owner key old new adds =
    (key, subst (λ (keys : List DnskeyRecord). Contains keys key) (sym (adds ∙ ap (λ (b : Bool). old ++ (if b then key ∷ [] else [])) ((same_name_Decides owner owner).1 refl))) (Contains-push old key), refl)
