-- How the first way into a DNSKEY RRset is found: signatures and keys.
use Rattle.std.proofs.Common.{◌≡◌, ◌≢◌, ◌<◌, ◌≤◌, ◌+◌, ◌-◌, ℕ, List, [], length, map, get_or, sym, ap, ◌∙◌, subst, ⊎_elim, arith}
use Rattle.std.proofs.lemmas.Bool.{cases_lt}
use Rattle.std.proofs.lemmas.Cmp.{nat_list_cmp_total, tied_itself}
use Rattle.std.proofs.lemmas.List.{get_or-map, get_or_default, length-map}
use Rattle.std.proofs.lemmas.List.Elements.{Contains-get_or}
use Rattle.std.proofs.lemmas.Map.Keys.{Less-from_sorted}
use Rattle.std.proofs.lemmas.Option.{slice_get_within, slice_get-get_or, get_or_from_slice_get}
use Rattle.std.specs.List.{AllZip, Contains, slice_get}
use Rattle.std.specs.List.Sorted.{IsStrictlySortedBy}
use Rattle.std.specs.declared.cmp.Ordering.TheVariants.{Less, Equal}
use Rattle.dnsv_records.proofs.OneRecord.{one_dnskey, one_rrsig}
use Rattle.dnsv_records.specs.Dnskey.{IsDnskey}
use Rattle.dnsv_records.specs.Rrsig.{IsRrsig}
use Rattle.dnsv_records.specs.declared.rrsig.Rrsig.{Rrsig}
use Rattle.dnsv_canonical.specs.Canonical.{rdata_cmp}
use Rattle.dnsv_canonical.specs.Rrsets.{IsNumbered, ReceivedRrset}
use Rattle.dnsv_verifier.specs.Admissible.{DnskeyRecord, IsGood}
use Rattle.dnsv_chain.proofs.SigningLemmas.{signature_at}
use Rattle.dnsv_chain.proofs.ZipLemmas.{zip_length}
use Rattle.dnsv_chain.specs.Trusted.{IsKeyOf}
use Rattle.dnsv_derivations.specs.Explained.{IsTodo, Setting}
use Rattle.dnsv_derivations.specs.Following.{IsGoodUnder}
use Rattle.dnsv_lines.specs.declared.line.derivation.Todo.{Todo}
use Rattle.dnsv_derivations.specs.derivations.WaySearch.{AreKeysInOrder, IsLowestGood, IsNoneTo, IsNoneYet, signature_of}

-- ---- the signatures of an RRset, at their places

module _ (setting : Setting) (k : ℕ) (rrset : ReceivedRrset) (key : DnskeyRecord) (rrsigs : List Rrsig)
    (each : AllZip IsRrsig rrset.signatures rrsigs) (is_rrset : IsNumbered setting.rrsets k rrset) where
  sizes : length rrset.signatures ≡ length rrsigs
  sizes = zip_length IsRrsig rrset.signatures rrsigs each

  abbrev good_at : (i : ℕ) (rrsig : Rrsig) → i < length rrsigs → rrsig ≡ get_or rrsigs i rrsig
      → IsGood setting.meaning setting.moment rrset rrsig key → IsGoodUnder setting (signature_of k (i + 1)) rrset key
  good_at i rrsig within at good =
      let inside : i < length rrset.signatures = omega (arith, sizes, within) in
      let place : i + 1 - 1 ≡ i = omega arith in
      record {
        is_rrset = is_rrset;
        rdata = get_or rrset.signatures i [];
        is_signature = (omega arith, ap (λ (j : ℕ). slice_get rrset.signatures j) place ∙ slice_get-get_or rrset.signatures i [] inside);
        rrsig = rrsig;
        read = signature_at rrset rrsigs i rrsig each within at [];
        good = good;
      }

  at_good : (i : ℕ) (rrsig : Rrsig) → i < length rrsigs → rrsig ≡ get_or rrsigs i rrsig
      → IsGoodUnder setting (signature_of k (i + 1)) rrset key → IsGood setting.meaning setting.moment rrset rrsig key
  at_good i rrsig within at good =
      let place : i ≡ i + 1 - 1 = omega arith in
      let rdata : get_or rrset.signatures i [] ≡ good.rdata =
      get_or_from_slice_get rrset.signatures i good.rdata [] (ap (λ (j : ℕ). slice_get rrset.signatures j) place ∙ good.is_signature.1) in
      let here : IsRrsig good.rdata rrsig =
      subst (λ (octets : List ℕ). IsRrsig octets rrsig) rdata (signature_at rrset rrsigs i rrsig each within at []) in
      let Good : Rrsig → Type 0 = λ one. IsGood setting.meaning setting.moment rrset one key in
      subst Good (one_rrsig good.rdata good.rrsig rrsig good.read here) good.good

  abbrev NoneTo : ℕ → Type 0
  NoneTo = IsNoneTo setting k rrset key

  pub none_at_first : NoneTo 0
  none_at_first = λ s within good. let from_one = good.is_signature.0 in absurd (omega (arith, within, from_one))

  pub none_to_next : (i : ℕ) (rrsig : Rrsig) → i < length rrsigs → rrsig ≡ get_or rrsigs i rrsig
      → ¬ IsGood setting.meaning setting.moment rrset rrsig key → NoneTo i → NoneTo (i + 1)
  none_to_next i rrsig within at bad none = λ s below good. ⊎_elim
      (λ (later : i < s). let Good : ℕ → Type 0 = λ n. IsGoodUnder setting (signature_of k n) rrset key in
      let last : s ≡ i + 1 = omega (arith, later, below) in
      bad (at_good i rrsig within at (subst Good last good)))
      (λ (earlier : s ≤ i). none s earlier good)
      (cases_lt i s)

  pub lowest_found : (i : ℕ) (rrsig : Rrsig) (todo : Todo) → i < length rrsigs → rrsig ≡ get_or rrsigs i rrsig
      → (good : IsGood setting.meaning setting.moment rrset rrsig key) → IsTodo setting.todo good.entry todo.0 → NoneTo i
      → IsLowestGood setting k rrset key (record { number = i + 1; todo = todo })
  lowest_found i rrsig todo within at good its_todo none = record {
    good = good_at i rrsig within at good;
    todo = its_todo;
    lowest = λ t other. ⊎_elim (λ (later : i < t). let least : i + 1 ≤ t = omega (arith, later) in least)
        (λ (earlier : t ≤ i). absurd (none t earlier other)) (cases_lt i t);
  }

  pub none_at_all : (n : ℕ) → length rrsigs ≤ n → NoneTo n → (s : ℕ) → ¬ IsGoodUnder setting (signature_of k s) rrset key
  none_at_all n past none = λ s good.
      let within = slice_get_within rrset.signatures (s - 1) good.rdata good.is_signature.1 in
      none s (omega (arith, within, sizes, past)) good

-- ---- the keys of a DNSKEY RRset

-- RDATA makes a key of the RRset
pub one_key : (set : ReceivedRrset) (a b : DnskeyRecord) → IsKeyOf set a → IsKeyOf set b → a.rdata ≡ b.rdata → a ≡ b
one_key set a b first second rdata =
    let owner : a.owner ≡ b.owner = first.owner ∙ sym second.owner in
    let Read : List ℕ → Type 0 = λ octets. IsDnskey octets a.dnskey in
    let dnskey : a.dnskey ≡ b.dnskey = one_dnskey b.rdata a.dnskey b.dnskey (subst Read rdata first.is) second.is in
    λ i. record { owner = owner i; rdata = rdata i; dnskey = dnskey i }

-- what stands behind doesn't go before
not_before : (xs : List (List ℕ)) (i j : ℕ) (d : List ℕ) → IsStrictlySortedBy rdata_cmp xs → i ≤ j → j < length xs
    → rdata_cmp (get_or xs j d) (get_or xs i d) ≢ Less
not_before xs i j d rising after within before =
    let same : rdata_cmp (get_or xs j d) (get_or xs j d) ≡ Equal = tied_itself nat_list_cmp_total (get_or xs j d) in
    ⊎_elim
    (λ (later : i < j).
    let less = Less-from_sorted rdata_cmp xs i j d rising later within in
    let turned : rdata_cmp (get_or xs j d) (get_or xs j d) ≡ Less =
    nat_list_cmp_total.trans (get_or xs j d) (get_or xs i d) (get_or xs j d) before less in cc)
    (λ (here : j ≤ i).
    let place : j ≡ i = omega (arith, here, after) in
    let At : ℕ → Type 0 = λ p. rdata_cmp (get_or xs j d) (get_or xs p d) ≡ Less in
    let itself : rdata_cmp (get_or xs j d) (get_or xs j d) ≡ Less = subst At (sym place) before in cc)
    (cases_lt i j)

module _ {X : Type 0} (key_from : X → DnskeyRecord) (set : ReceivedRrset) (items : List X)
    (in_order : AreKeysInOrder set (map key_from items)) (Such : DnskeyRecord → Type 0) where
  abbrev keys : List DnskeyRecord
  keys = map key_from items

  many : length keys ≡ length items
  many = length-map items key_from

  record PlaceOf (key : DnskeyRecord) : Type 0 where
    place : ℕ
    within : place < length keys
    is : get_or keys place key ≡ key

  place_of : (key : DnskeyRecord) → IsKeyOf set key → PlaceOf key
  place_of key stands =
      let octets : DnskeyRecord → List ℕ = λ each. each.rdata in
      let there : Contains (map octets keys) key.rdata = (in_order.canonical.members key.rdata).1 stands.among in
      let within : there.0 < length keys = let long = there.1 in let mapped = length-map keys octets in omega (arith, long, mapped) in
      let rdata : (get_or keys there.0 key).rdata ≡ key.rdata =
      sym (get_or-map octets keys there.0 key key.rdata within) ∙ there.2 in
      record {
        place = there.0;
        within = within;
        is = one_key set (get_or keys there.0 key) key (in_order.each (get_or keys there.0 key) (Contains-get_or keys there.0 key within)) stands rdata;
      }

  pub none_of_all : (n : ℕ) → length items ≤ n → IsNoneYet keys Such n → (other : DnskeyRecord) → IsKeyOf set other → ¬ Such other
  none_of_all n past none = λ other stands such.
      let at = place_of other stands in
      let within = at.within in
      none at.place other (omega (arith, within, many, past)) at.within (subst Such (sym at.is) such)

  module _ (i : ℕ) (x : X) (key : DnskeyRecord) (within : i < length items) (at : x ≡ get_or items i x) (is : key ≡ key_from x) where
    here : i < length keys
    here = omega (arith, many, within)

    at_place : get_or keys i key ≡ key
    at_place = get_or-map key_from items i x key within ∙ ap key_from (sym at) ∙ sym is

    pub stands_at : IsKeyOf set key
    stands_at =
        subst (λ (each : DnskeyRecord). IsKeyOf set each) at_place (in_order.each (get_or keys i key) (Contains-get_or keys i key here))

    pub none_more : ¬ Such key → IsNoneYet keys Such i → IsNoneYet keys Such (i + 1)
    none_more never none = λ j d below inside such. ⊎_elim
        (λ (earlier : j < i). none j d earlier inside such)
        (λ (later : i ≤ j).
        let place : j ≡ i = omega (arith, later, below) in
        let same : get_or keys j d ≡ key = get_or_default keys j d key inside ∙ ap (λ (p : ℕ). get_or keys p key) place ∙ at_place in
        never (subst Such same such))
        (cases_lt j i)

    -- none that is such goes before the first that is
    pub lowest_of_all : IsNoneYet keys Such i → (other : DnskeyRecord) → IsKeyOf set other → Such other
        → rdata_cmp other.rdata key.rdata ≢ Less
    lowest_of_all none other stands such before =
        let there = place_of other stands in
        ⊎_elim
        (λ (earlier : there.place < i). none there.place other earlier there.within (subst Such (sym there.is) such))
        (λ (later : i ≤ there.place).
        let octets : DnskeyRecord → List ℕ = λ each. each.rdata in
        let size : length (map octets keys) ≡ length keys = length-map keys octets in
        let inside = there.within in
        let first : get_or (map octets keys) i [] ≡ key.rdata = get_or-map octets keys i key [] here ∙ ap octets at_place in
        let second : get_or (map octets keys) there.place [] ≡ other.rdata =
        get_or-map octets keys there.place other [] there.within ∙ ap octets there.is in
        let turned : rdata_cmp (get_or (map octets keys) there.place []) (get_or (map octets keys) i []) ≡ Less = cc in
        not_before (map octets keys) i there.place [] in_order.canonical.rising later (omega (arith, inside, size)) turned)
        (cases_lt there.place i)
