-- Keys that a DNSKEY RRset is the first of its owner to have.
use Rattle.std.proofs.Common.{◌≡◌, ◌⊎◌, inl, inr, ◌<◌, ◌≤◌, ◌+◌, ◌-◌, ◌++◌, ◌∷◌, [], ℕ, true, false, List, Some, None, Option, length, get_or, sym, ap, ◌∙◌, subst, ⊎_elim, arith}
use Rattle.std.proofs.lemmas.Bool.{cases_lt, false≢true}
use Rattle.std.proofs.lemmas.List.{get_or_default}
use Rattle.std.proofs.lemmas.List.Elements.{Contains-append_left, Contains-push}
use Rattle.std.proofs.lemmas.Option.{slice_get_within}
use Rattle.std.specs.Prelude.{Contains, is_some}
use Rattle.dnsv_names.specs.Name.{Labels, SameName}
use Rattle.dnsv_canonical.specs.Index.{numbers_at}
use Rattle.dnsv_canonical.specs.Rrsets.{IsNumbered, ReceivedRrset}
use Rattle.dnsv_derivations.specs.Explained.{Setting}
use Rattle.dnsv_derivations.specs.derivations.NewKeys.{AreNewKeys, IsHadAbove, IsHadBy, IsKeySetTo, IsNewKey, IsThere}
use Rattle.dnsv_derivations.specs.derivations.WaySearch.{AreFirstWays, HasNewKeys, IsNoWay, IsWayOf}
use Rattle.dnsv_derivations.specs.declared.derivations.ways.FoundWay.{FoundWay}
use Rattle.dnsv_derivations.specs.declared.derivations.ways.kept.KeptWay.{KeptWay}
use Rattle.dnsv_derivations.specs.declared.derivations.ways.kept.NewKey.{NewKey}
use Rattle.dnsv_derivations.proofs.lemmas.IndexLemmas.{one_there}
use Rattle.dnsv_canonical.proofs.NumberLemmas.{one_numbered}
use Rattle.dnsv_derivations.proofs.lemmas.derivations.WayLemmas.{way_leads}
use Rattle.dnsv_derivations.proofs.lemmas.derivations.WayLemmas.TrustedLemmas.{not_trusted}

module _ (setting : Setting) where
  -- what has a way is a trusted DNSKEY RRset
  into_key_set : (n k : ℕ) (way : Option FoundWay) → k ≤ n → IsWayOf setting k way → is_some way ≡ true → IsKeySetTo setting n k
  into_key_set n k None within none some = absurd (false≢true some)
  into_key_set n k (Some found) within is some = record {
    within = within;
    set = is.first.is.set;
    is_set = is.first.is.good.is_rrset;
    rtype = is.first.is.stands.rtype;
    trusted = way_leads setting k _ is.first.is;
  }

  pub known_key_set : (ways : List KeptWay) → AreFirstWays setting ways → (k : ℕ) (kept : KeptWay) → IsNumbered ways k kept
      → is_some kept.way ≡ true → IsKeySetTo setting (length ways) k
  known_key_set ways are k kept numbered some =
      let inside = slice_get_within ways (k - 1) kept numbered.1 in
      let from_one = numbered.0 in
      into_key_set (length ways) k kept.way (omega (arith, inside, from_one)) (are k kept numbered).way some

  pub had_by : (n k : ℕ) (set : ReceivedRrset) (rdata : List ℕ) → IsKeySetTo setting n k → IsNumbered setting.rrsets k set
      → Contains set.rdata rdata → IsHadBy setting n k rdata
  had_by n k set rdata is numbered has =
      let Has : ReceivedRrset → Type 0 = λ each. Contains each.rdata rdata in record {
        is = is;
        has = subst Has (one_numbered setting.rrsets k set is.set numbered is.is_set) has;
      }

  -- one of the owner, by its number
  pub had_above : (n i : ℕ) (owner : Labels) (numbers : List ℕ) (rdata : List ℕ) → numbers ≡ numbers_at setting.rrsets owner 48
      → i < length numbers → IsHadBy setting n (get_or numbers i 0) rdata → IsHadAbove setting n owner rdata
  had_above n i owner numbers rdata are within by =
      let one = one_there setting.rrsets owner 48 numbers are i within in
      let AtName : ReceivedRrset → Type 0 = λ each. SameName each.owner owner in record {
        number = get_or numbers i 0;
        by = by;
        same_owner = subst AtName (one_numbered setting.rrsets (get_or numbers i 0) one.rrset by.is.set one.is_rrset by.is.is_set) one.owner;
      }

  pub no_way_in : (k : ℕ) (way : Option FoundWay) → IsWayOf setting k way → is_some way ≡ false → IsNoWay setting k
  no_way_in k None none is = none
  no_way_in k (Some found) first is = absurd (false≢true (sym is))

  -- what isn't trusted has none
  pub none_new : (k : ℕ) (keys : List NewKey) → IsNoWay setting k → HasNewKeys setting k keys
  none_new k keys none = λ set numbered trusted. absurd (not_trusted setting k none (set, numbered, trusted))

  -- what is so of the RRset behind the first n is so of its number
  pub new_at : (n : ℕ) (rrset : ReceivedRrset) (keys : List NewKey) → IsNumbered setting.rrsets (n + 1) rrset
      → AreNewKeys setting n rrset keys → HasNewKeys setting (n + 1) keys
  new_at n rrset keys numbered are = λ set its trusted.
      let same : rrset ≡ set = one_numbered setting.rrsets (n + 1) rrset set numbered its in
      let before : n ≡ n + 1 - 1 = omega arith in
      let Of : ReceivedRrset → Type 0 = λ each. AreNewKeys setting n each keys in
      let Among : ℕ → Type 0 = λ m. AreNewKeys setting m set keys in
      subst Among before (subst Of same are)

-- ---- the RDATA, one after another

module _ (setting : Setting) (n : ℕ) (set : ReceivedRrset) where
  pub record AreThereTo (keys : List NewKey) (count : ℕ) : Type 0 where
    pub are : (i : ℕ) (d : List ℕ) → i < count → i < length set.rdata → IsThere setting n set keys (get_or set.rdata i d)

  pub none_there : (keys : List NewKey) → AreThereTo keys 0
  none_there keys = record { are = λ i d below within. absurd (omega (arith, below)) }

  -- the one at the place too
  pub one_more_there : (keys : List NewKey) (count : ℕ) (rdata : List ℕ) → rdata ≡ get_or set.rdata count rdata
      → IsThere setting n set keys rdata → AreThereTo keys count → AreThereTo keys (count + 1)
  one_more_there keys count rdata is there before = record {
    are = λ i d below within. ⊎_elim (λ (earlier : i < count). before.are i d earlier within)
        (λ (last : count ≤ i).
        let place : i ≡ count = omega (arith, below, last) in
        let same : rdata ≡ get_or set.rdata i d =
        is ∙ ap (λ (p : ℕ). get_or set.rdata p rdata) (sym place) ∙ get_or_default set.rdata i rdata d within in
        let There : List ℕ → Type 0 = λ each. IsThere setting n set keys each in
        subst There same there)
        (cases_lt i count);
  }

  still_there : (keys : List NewKey) (key : NewKey) (rdata : List ℕ) → IsThere setting n set keys rdata
      → IsThere setting n set (keys ++ key ∷ []) rdata
  still_there keys key rdata (inl among) = inl (among.0, Contains-append_left keys (key ∷ []) among.0 among.1, among.2)
  still_there keys key rdata (inr above) = inr above

  -- where a key is added for it
  pub one_more_new : (keys : List NewKey) (key : NewKey) (count : ℕ) (rdata : List ℕ) → rdata ≡ get_or set.rdata count rdata
      → IsNewKey set rdata key → AreThereTo keys count → AreThereTo (keys ++ key ∷ []) (count + 1)
  one_more_new keys key count rdata is new before =
      one_more_there (keys ++ key ∷ []) count rdata is (inl (key, Contains-push keys key, new))
      (record { are = λ i d below within. still_there keys key (get_or set.rdata i d) (before.are i d below within) })

  pub all_there : (keys : List NewKey) (count : ℕ) → length set.rdata ≤ count → AreThereTo keys count → AreNewKeys setting n set keys
  all_there keys count past first = λ rdata there.
      let within = there.1 in
      let There : List ℕ → Type 0 = λ each. IsThere setting n set keys each in
      subst There there.2 (first.are there.0 rdata (omega (arith, within, past)) there.1)
