-- The keys of a DNSKEY RRset, with how they sign it.
use Rattle.std.proofs.Common.{◌≡◌, ◌<◌, ◌≤◌, ◌+◌, ◌∷◌, ◌++◌, [], ℕ, List, length, map, get_or, take, refl, sym, ap, ◌∙◌, subst}
use Rattle.std.proofs.lemmas.List.{map-append, take_more}
use Rattle.std.specs.List.{AllByRecursion}
use Rattle.dnsv_canonical.specs.Rrsets.{ReceivedRrset}
use Rattle.dnsv_names.specs.PartLaws.{recursion-append}
use Rattle.dnsv_verifier.specs.Admissible.{DnskeyRecord}
use Rattle.dnsv_derivations.specs.Explained.{Setting}
use Rattle.dnsv_derivations.specs.Following.{IsGoodUnder, IsNamed}
use Rattle.dnsv_derivations.specs.derivations.WaySearch.{AreKeysInOrder, AreSetKeys, IsFirstUnder, IsKeySet, IsLowestGood, IsNoneUnder, IsNoneYet, IsSetKey, SignsAs, signature_of}
use Rattle.dnsv_derivations.specs.declared.derivations.ways.keys.GoodSignature.{GoodSignature}
use Rattle.dnsv_derivations.specs.declared.derivations.ways.keys.KeySet.{KeySet}
use Rattle.dnsv_derivations.specs.declared.derivations.ways.keys.SetKey.{SetKey}
use Rattle.dnsv_lines.specs.declared.line.derivation.KeyName.{KeyName}
use Rattle.dnsv_lines.specs.declared.line.derivation.Voucher.{Voucher}
use Rattle.dnsv_derivations.proofs.lemmas.derivations.WayLemmas.KeysLemmas.{each_at}
use Rattle.dnsv_derivations.proofs.lemmas.derivations.WayLemmas.SearchLemmas.{lowest_of_all, none_more, none_of_all, stands_at}

abbrev pub key_in : SetKey → DnskeyRecord
key_in each = each.key.now

module _ (setting : Setting) (set : KeySet) (is : IsKeySet setting set) (items : List SetKey) (same : items ≡ set.keys.items)
    (Matches : DnskeyRecord → Type 0) where
  abbrev Such : DnskeyRecord → Type 0
  Such = SignsAs setting set.number set.rrset.now Matches

  in_order : AreKeysInOrder set.rrset.now (map key_in items)
  in_order =
      let InOrder : List SetKey → Type 0 = λ all. AreKeysInOrder set.rrset.now (map key_in all) in
      subst InOrder (sym same) is.in_order

  pub set_key_at : (i : ℕ) (x : SetKey) → i < length items → x ≡ get_or items i x → IsSetKey setting set.number set.rrset.now x
  set_key_at i x within at =
      let All : List SetKey → Type 0 = λ all. AllByRecursion (IsSetKey setting set.number set.rrset.now) all in
      each_at (IsSetKey setting set.number set.rrset.now) items i x (subst All (sym same) is.each) within at

  pub set_more : (i : ℕ) (x : SetKey) → i < length items → x ≡ get_or items i x
      → ((s : ℕ) → Matches (key_in x) → ¬ IsGoodUnder setting (signature_of set.number s) set.rrset.now (key_in x))
      → IsNoneYet (map key_in items) Such i → IsNoneYet (map key_in items) Such (i + 1)
  set_more i x within at never =
      none_more key_in set.rrset.now items in_order Such i x (key_in x) within at refl (λ such. never such.0 such.1 such.2)

  pub set_found : (i : ℕ) (x : SetKey) (voucher : Voucher) (name : KeyName) (s : GoodSignature) → i < length items
      → x ≡ get_or items i x → IsNoneYet (map key_in items) Such i → IsNamed (key_in x) name
      → Matches (key_in x) × IsLowestGood setting set.number set.rrset.now (key_in x) s
      → IsFirstUnder setting set.number set.rrset.now Matches voucher (record { voucher = voucher; key = name; signature = s })
  set_found i x voucher name s within at none named found = record {
    voucher_is = refl;
    key = key_in x;
    named = named;
    stands = stands_at key_in set.rrset.now items in_order Such i x (key_in x) within at refl;
    matched = found.0;
    good = found.1;
    lowest = lowest_of_all key_in set.rrset.now items in_order Such i x (key_in x) within at refl none;
  }

  pub set_none : (n : ℕ) → length items ≤ n → IsNoneYet (map key_in items) Such n → IsNoneUnder setting set.number set.rrset.now Matches
  set_none = none_of_all key_in set.rrset.now items in_order Such

-- ---- how they are made

pub no_set_keys : (setting : Setting) (k : ℕ) (rrset : ReceivedRrset) → AreSetKeys setting k rrset [] []
no_set_keys setting k rrset = record { are = refl; each = tt }

pub set_keys_more : (setting : Setting) (k : ℕ) (rrset : ReceivedRrset) (keys : List DnskeyRecord) (made : List SetKey) (i : ℕ)
    (key : DnskeyRecord) (x : SetKey) → i < length keys → key ≡ get_or keys i key → key_in x ≡ key → IsSetKey setting k rrset x
    → AreSetKeys setting k rrset (take i keys) made → AreSetKeys setting k rrset (take (i + 1) keys) (made ++ x ∷ [])
set_keys_more setting k rrset keys made i key x within at is its so_far = record {
  are = map-append key_in made (x ∷ []) ∙ ap (λ front. front ++ key_in x ∷ []) so_far.are
      ∙ ap (λ one. take i keys ++ one ∷ []) (is ∙ at) ∙ sym (take_more keys i key within);
  each = recursion-append (IsSetKey setting k rrset) made (x ∷ []) so_far.each (its, tt);
}
