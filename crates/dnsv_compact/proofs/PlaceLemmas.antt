-- The lowest signature that gives an entry.
use Rattle.std.proofs.Common.{◌≡◌, ◌<◌, ◌≤◌, ◌+◌, ◌++◌, ◌∷◌, [], ℕ, List, Some, length, slice_index_or, take, true, false, refl, sym, ap, ◌∙◌, subst, arith, inl, inr, ⊎_elim}
use Rattle.std.proofs.lemmas.Bool.{cases_order}
use Rattle.std.proofs.lemmas.Cmp.{tied_itself}
use Rattle.std.proofs.lemmas.List.{take_all, take_more}
use Rattle.std.specs.Cmp.{nat_cmp_is}
use Rattle.std.specs.List.{Contains}
use Rattle.std.specs.Ordering.{is_gt, nat_cmp, ordering_then}
use Rattle.std.specs.declared.cmp.Ordering.{Ordering}
use Rattle.std.specs.declared.cmp.Ordering.TheVariants.{Equal, Greater}
use Rattle.dnsv_names.specs.Octets.{octets_cmp}
use Rattle.dnsv_canonical.specs.Rrsets.{IsNumbered, ReceivedRrset}
use Rattle.dnsv_canonical.specs.SignedData.{IsSignedData}
use Rattle.dnsv_verifier.specs.EntryLaws.{octets_Equal, then_Equal}
use Rattle.dnsv_verifier.specs.Within.{IsAskedWithin}
use Rattle.dnsv_verifier.specs.declared.entry.Entry.{Entry}
use Rattle.dnsv_verifier.proofs.NumberLemmas.{contains_map, signature_cmp_total}
use Rattle.dnsv_compact.specs.CompactList.{AreInPlaces, AreKeysOf, ComesFirst, Gives, IsLowest, IsPlaceOf, key_of_entry}
use Rattle.dnsv_compact.specs.Signed.{AreSignedIn, IsFirstSigned, IsGiven, IsSignedIn, part_cmp}
use Rattle.dnsv_compact.specs.declared.key.ListedKey.{ListedKey}
use Rattle.dnsv_compact.specs.declared.place.Place.{Place}
use Rattle.dnsv_compact.specs.declared.signed.Signed.{Signed}
use Rattle.dnsv_compact.proofs.NumberedLemmas.{numbered_from_contains}
use Rattle.dnsv_compact.proofs.SignedLemmas.{asked_part}

-- what an entry asks about, by the numbers of a signature
abbrev asked_by : Entry → ℕ → ℕ → Signed
asked_by entry rrset signature = record { octets = entry.signed_data; made = entry.signature; rrset = rrset; signature = signature }

asks : (entry : Entry) (rrset signature : ℕ) → part_cmp (asked_by entry rrset signature) entry ≡ Equal
asks entry rrset signature = tied_itself signature_cmp_total (asked_part entry)

-- what is asked is given
pub given_of_asked : (from to : ℕ) (rrsets : List ReceivedRrset) (signed : List Signed) (entry : Entry) → AreSignedIn from to rrsets signed
    → IsAskedWithin from to rrsets entry → IsGiven signed entry
given_of_asked from to rrsets signed entry are within =
    let asked = within.asked in
    let (number, numbered) = numbered_from_contains rrsets asked.rrset asked.among in
    let (rdata, there, reads) = asked.its in
    let (signature, its) = numbered_from_contains asked.rrset.signatures rdata there in
    let may = asked.admissible in
    let is : IsSignedIn from to rrsets (asked_by entry number signature) = record {
      number = number;
      received = asked.rrset;
      numbered = numbered;
      is = record {
        signature = signature;
        rdata = rdata;
        its = its;
        rrsig = asked.rrsig;
        reads = reads;
        is = record {
          verifiable = record {
            moment = within.moment;
            begins = within.begins;
            ends = within.ends;
            verifiable = record { over = may.over; timely = may.timely; signer = may.signer; unexpanded = may.unexpanded };
          };
          signs = asked.is.signed_data;
          made = asked.is.signature;
          of_rrset = refl;
          of_signature = refl;
        };
      };
    } in
    (asked_by entry number signature, (are.members (asked_by entry number signature)).1 is, asks entry number signature)

not_more : (b d : ℕ) → is_gt (nat_cmp b d) ≡ false → b ≤ d
not_more b d fails =
    ⊎_elim (λ (same : b ≡ d). omega (arith, same))
    (⊎_elim (λ (less : b < d). omega (arith, less))
    (λ (more : d < b). let clash : true ≡ false = ap is_gt (nat_cmp_is b d Greater more) ∙ fails in absurd (cc)))
    (cases_order b d)

comes_first : (a b c d : ℕ) → is_gt (ordering_then (nat_cmp a c) (nat_cmp b d)) ≡ false → ComesFirst a b c d
comes_first a b c d fails =
    ⊎_elim
    (λ (same : a ≡ c).
    let tied : nat_cmp a c ≡ Equal = sym (nat_cmp_is a c Equal same) in
    inr (same, not_more b d (subst (λ (o : Ordering). is_gt (ordering_then o (nat_cmp b d)) ≡ false) tied fails)))
    (⊎_elim (λ (less : a < c). inl less)
    (λ (more : c < a).
    let over : nat_cmp a c ≡ Greater = sym (nat_cmp_is a c Greater more) in
    let clash : true ≡ false = subst (λ (o : Ordering). is_gt (ordering_then o (nat_cmp b d)) ≡ false) over fails in absurd (cc)))
    (cases_order a c)

module _ (from to : ℕ) (rrsets : List ReceivedRrset) (signed : List Signed) (are : AreSignedIn from to rrsets signed) (entry : Entry) (found : Signed) where
  -- it gives the entry
  gives : Contains signed found → part_cmp found entry ≡ Equal → Gives from to rrsets entry found.rrset found.signature
  gives among asked =
      let both = then_Equal (octets_cmp found.octets entry.signed_data) (octets_cmp found.made entry.signature) asked in
      let octets : found.octets ≡ entry.signed_data = octets_Equal found.octets entry.signed_data both.0 in
      let made : found.made ≡ entry.signature = octets_Equal found.made entry.signature both.1 in
      let is = (are.members found).0 among in
      let it = is.is in
      let by = it.is in
      record {
        received = is.received;
        numbered = subst (λ (n : ℕ). IsNumbered rrsets n is.received) (sym by.of_rrset) is.numbered;
        rdata = it.rdata;
        its = subst (λ (n : ℕ). IsNumbered is.received.signatures n it.rdata) (sym by.of_signature) it.its;
        rrsig = it.rrsig;
        reads = it.reads;
        moment = by.verifiable.moment;
        begins = by.verifiable.begins;
        ends = by.verifiable.ends;
        verifiable = by.verifiable.verifiable;
        signs = subst (λ (o : List ℕ). IsSignedData is.received.owner is.received.rtype is.received.rdata it.rrsig (Some o)) octets by.signs;
        is = sym made ∙ by.made;
      }

  -- what gives the entry is among them
  among_signed : (other another : ℕ) → Gives from to rrsets entry other another → Contains signed (asked_by entry other another)
  among_signed other another g = (are.members (asked_by entry other another)).1 (record {
    number = other;
    received = g.received;
    numbered = g.numbered;
    is = record {
      signature = another;
      rdata = g.rdata;
      its = g.its;
      rrsig = g.rrsig;
      reads = g.reads;
      is = record {
        verifiable = record { moment = g.moment; begins = g.begins; ends = g.ends; verifiable = g.verifiable };
        signs = g.signs;
        made = g.is;
        of_rrset = refl;
        of_signature = refl;
      };
    };
  })

  in_order : (other another : ℕ) → IsFirstSigned signed entry found (asked_by entry other another) → ComesFirst found.rrset found.signature other another
  in_order other another first =
      let both = then_Equal (octets_cmp found.octets entry.signed_data) (octets_cmp found.made entry.signature) first.asked in
      let rest = ordering_then (nat_cmp found.rrset other) (nat_cmp found.signature another) in
      comes_first found.rrset found.signature other another
      (subst (λ (o : Ordering). is_gt (ordering_then o rest) ≡ false) both.1
      (subst (λ (o : Ordering). is_gt (ordering_then o (ordering_then (octets_cmp found.made entry.signature) rest)) ≡ false) both.0 first.order))

  pub lowest_of : IsGiven signed entry → ((each : Signed) → Contains signed each → part_cmp each entry ≡ Equal → IsFirstSigned signed entry found each)
      → IsLowest from to rrsets entry found.rrset found.signature
  lowest_of (each, there, asked) first =
      let it = first each there asked in
      record {
        gives = gives it.among it.asked;
        lowest = λ other another g.
            in_order other another (first (asked_by entry other another) (among_signed other another g) (asks entry other another));
      }

-- ---- entry by entry

module _ (from to : ℕ) (rrsets : List ReceivedRrset) (keys : List ListedKey) where
  one_behind : (entries : List Entry) (places : List Place) (entry : Entry) (place : Place) → AreInPlaces from to rrsets keys entries places
      → IsPlaceOf from to rrsets keys entry place → AreInPlaces from to rrsets keys (entries ++ entry ∷ []) (places ++ place ∷ [])
  one_behind [] [] entry place are is = (is, tt)
  one_behind [] (p ∷ places) entry place are is = absurd are
  one_behind (e ∷ entries) [] entry place are is = absurd are
  one_behind (e ∷ entries) (p ∷ places) entry place are is = (are.0, one_behind entries places entry place are.1 is)

  pub places_more : (entries : List Entry) (n : ℕ) (entry : Entry) (old new : List Place) (place : Place) → n < length entries
      → ((other : Entry) → slice_index_or entries n other ≡ entry) → new ≡ old ++ place ∷ [] → IsPlaceOf from to rrsets keys entry place
      → AreInPlaces from to rrsets keys (take n entries) old → AreInPlaces from to rrsets keys (take (n + 1) entries) new
  places_more entries n entry old new place within at grown is so_far =
      let longer : take (n + 1) entries ≡ take n entries ++ entry ∷ [] = take_more entries n entry within ∙ ap (λ (e : Entry). take n entries ++ e ∷ []) (at entry) in
      subst (λ (es : List Entry). AreInPlaces from to rrsets keys es new) (sym longer)
      (subst (λ (ps : List Place). AreInPlaces from to rrsets keys (take n entries ++ entry ∷ []) ps) (sym grown) (one_behind (take n entries) old entry place so_far is))

  pub places_all : (entries : List Entry) (n : ℕ) (places : List Place) → length entries ≤ n → AreInPlaces from to rrsets keys (take n entries) places
      → AreInPlaces from to rrsets keys entries places
  places_all entries n places past are = subst (λ (es : List Entry). AreInPlaces from to rrsets keys es places) (take_all n entries past) are

pub contains_at : (entries : List Entry) (n : ℕ) (entry : Entry) → n < length entries → ((other : Entry) → slice_index_or entries n other ≡ entry) → Contains entries entry
contains_at entries n entry within at = (n, within, at entry)

pub its_key : (entries : List Entry) (keys : List ListedKey) (entry : Entry) → AreKeysOf entries keys → Contains entries entry → Contains keys (key_of_entry entry)
its_key entries keys entry are there = (are.members (key_of_entry entry)).1 (contains_map key_of_entry entries entry there)
