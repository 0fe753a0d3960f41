-- The signatures that can be verified: how they are gathered, and how the first that an entry asks about is found.
use Rattle.std.proofs.Common.{◌≡◌, ◌↔◌, ◌<◌, ◌≤◌, ◌+◌, ◌-◌, ℕ, List, [], Some, length, get_or, slice_get, true, false, refl, sym, ap, ◌∙◌, subst, arith, ⊎_elim}
use Rattle.std.proofs.lemmas.Bool.{cases_lt}
use Rattle.std.proofs.lemmas.Cmp.{nat_cmp_total, nat_list_cmp_total, on_total, then_total, tied_itself}
use Rattle.std.proofs.lemmas.List.Sorted.{searchable_from_sorted}
use Rattle.std.specs.Cmp.{IsTotalOrder}
use Rattle.std.specs.List.{AllZip, Contains}
use Rattle.std.specs.List.Sorted.{IsNonDecreasingBy, IsPartitionPoint, IsPartitionedBy, IsSorted, IsSortedBy}
use Rattle.std.specs.Ordering.{is_gt, is_lt, nat_cmp, ordering_index, ordering_then}
use Rattle.std.specs.declared.cmp.Ordering.{Ordering}
use Rattle.std.specs.declared.cmp.Ordering.TheVariants.{Less, Equal, Greater}
use Rattle.dnsv_names.specs.Octets.{octets_cmp}
use Rattle.dnsv_records.specs.Rrsig.{IsRrsig}
use Rattle.dnsv_records.specs.declared.rrsig.Rrsig.{Rrsig}
use Rattle.dnsv_records.proofs.OneRecord.{one_rrsig}
use Rattle.dnsv_canonical.specs.Rrsets.{IsNumbered, ReceivedRrset}
use Rattle.dnsv_canonical.proofs.SignedLemmas.{signed_data_unique}
use Rattle.dnsv_canonical.proofs.OrderLemmas.{zip_length}
use Rattle.dnsv_verifier.specs.Asking.{AddsJust}
use Rattle.dnsv_verifier.specs.Numbers.{signature_cmp}
use Rattle.dnsv_verifier.specs.declared.entry.Entry.{Entry}
use Rattle.dnsv_verifier.specs.declared.entry.parts.SignaturePart.{SignaturePart}
use Rattle.dnsv_verifier.proofs.AskLemmas.{adds_same, zip_at}
use Rattle.dnsv_verifier.proofs.NumberLemmas.{signature_cmp_total}
use Rattle.dnsv_compact.specs.Signed.{ComesOfFirst, IsFirstSigned, IsSignedAmong, IsSignedBy, IsSignedIn, part_cmp, signed_cmp}
use Rattle.dnsv_compact.specs.declared.signed.Signed.{Signed}
use Rattle.dnsv_compact.proofs.NumberedLemmas.{first_numbered, get_or_same, numbered_at, read_at, slice_get_at, within_at}

-- ---- one signature

-- what is kept of a signature is one thing
pub only_signed : (from to number : ℕ) (received : ReceivedRrset) (signature : ℕ) (rrsig : Rrsig) (a b : Signed)
    → IsSignedBy from to number received signature rrsig a → IsSignedBy from to number received signature rrsig b → a ≡ b
only_signed from to number received signature rrsig a b p q =
    let somehow : Some a.octets ≡ Some b.octets =
    signed_data_unique received.owner received.rtype received.rdata rrsig (Some a.octets) (Some b.octets) p.signs q.signs in
    let same : a.octets ≡ b.octets = cc in
    λ i. record {
      octets = same i;
      made = (p.made ∙ sym q.made) i;
      rrset = (p.of_rrset ∙ sym q.of_rrset) i;
      signature = (p.of_signature ∙ sym q.of_signature) i;
    }

-- ---- the signatures of an RRset

module _ (received : ReceivedRrset) (signatures : List Rrsig) (are : AllZip IsRrsig received.signatures signatures) where
  rdata_at : (i : ℕ) (rrsig : Rrsig) → slice_get signatures i ≡ Some rrsig
      → (rdata : List ℕ) × (slice_get received.signatures i ≡ Some rdata) × IsRrsig rdata rrsig
  rdata_at i rrsig at =
      let count = zip_length IsRrsig received.signatures signatures are in
      let within = within_at signatures i rrsig at in
      let inside : i < length received.signatures = omega (arith, count, within) in
      let rdata = get_or received.signatures i [] in (
        rdata,
        slice_get_at received.signatures i rdata inside (get_or_same received.signatures i [] rdata inside),
        subst (λ (r : Rrsig). IsRrsig rdata r) (read_at signatures i rrsig at) (zip_at IsRrsig received.signatures signatures i [] rrsig are inside),
      )

  rrsig_at : (i : ℕ) (rdata : List ℕ) (rrsig : Rrsig) → slice_get received.signatures i ≡ Some rdata → IsRrsig rdata rrsig
      → slice_get signatures i ≡ Some rrsig
  rrsig_at i rdata rrsig at is =
      let count = zip_length IsRrsig received.signatures signatures are in
      let within = within_at received.signatures i rdata at in
      let there : IsRrsig rdata (get_or signatures i rrsig) =
      subst (λ (r : List ℕ). IsRrsig r (get_or signatures i rrsig)) (read_at received.signatures i rdata at) (zip_at IsRrsig received.signatures signatures i rdata rrsig are within) in
      slice_get_at signatures i rrsig (omega (arith, count, within)) (one_rrsig rdata rrsig (get_or signatures i rrsig) is there)

  rrsig_numbered : (number : ℕ) (rdata : List ℕ) (rrsig : Rrsig) → IsNumbered received.signatures number rdata → IsRrsig rdata rrsig → IsNumbered signatures number rrsig
  rrsig_numbered number rdata rrsig its is = (its.0, rrsig_at (number - 1) rdata rrsig its.1 is)

  -- all of them are those of the RRset
  pub all_among : (from to number n : ℕ) (a b : List Signed) → length signatures ≤ n
      → AddsJust (ComesOfFirst (λ signature rrsig signed. IsSignedBy from to number received signature rrsig signed) signatures n) a b
      → AddsJust (IsSignedAmong from to number received) a b
  all_among from to number n a b past adds =
      adds_same (ComesOfFirst (λ signature rrsig signed. IsSignedBy from to number received signature rrsig signed) signatures n)
      (IsSignedAmong from to number received) a b adds
      (λ x of. let (rdata, its, reads) = rdata_at of.place of.source of.at in
      record { signature = of.place + 1; rdata = rdata; its = numbered_at received.signatures of.place rdata its; rrsig = of.source; reads = reads; is = of.is })
      (λ x among. first_numbered (λ signature rrsig signed. IsSignedBy from to number received signature rrsig signed) signatures n among.signature among.rrsig x past
      (rrsig_numbered among.signature among.rdata among.rrsig among.its among.reads) among.is)

-- those of all RRsets
pub all_in : (from to : ℕ) (rrsets : List ReceivedRrset) (n : ℕ) (b : List Signed) → length rrsets ≤ n
    → AddsJust (ComesOfFirst (IsSignedAmong from to) rrsets n) [] b → (each : Signed) → Contains b each ↔ IsSignedIn from to rrsets each
all_in from to rrsets n b past adds each = (
  λ found. ⊎_elim (λ none. absurd (omega (arith, none.1)))
      (λ of. record { number = of.place + 1; received = of.source; numbered = numbered_at rrsets of.place of.source of.at; is = of.is }) (adds.only each found),
  λ is. adds.added each (first_numbered (IsSignedAmong from to) rrsets n is.number is.received each past is.numbered is.is),
)

-- ---- the order

pub signed_cmp_total : IsTotalOrder signed_cmp
signed_cmp_total =
    then_total (on_total (λ (each : Signed). each.octets) nat_list_cmp_total)
    (then_total (on_total (λ (each : Signed). each.made) nat_list_cmp_total)
    (then_total (on_total (λ (each : Signed). each.rrset) nat_cmp_total) (on_total (λ (each : Signed). each.signature) nat_cmp_total)))

-- what is signed, and the signature
abbrev part_of : Signed → SignaturePart
part_of each = record { signed_data = each.octets; signature = each.made }

abbrev pub asked_part : Entry → SignaturePart
asked_part entry = record { signed_data = entry.signed_data; signature = entry.signature }

less_first : (p q : Ordering) → is_lt (ordering_then p q) ≡ false → is_lt p ≡ false
less_first Less q e = e
less_first p q e = refl

less_both : (o m q : Ordering) → is_lt (ordering_then o (ordering_then m q)) ≡ false → is_lt (ordering_then o m) ≡ false
less_both Less m q e = e
less_both Equal m q e = less_first m q e
less_both Greater m q e = refl

sorted_parts : (all : List Signed) → IsSorted signed_cmp all → IsSortedBy (λ a b. is_lt (signature_cmp (part_of a) (part_of b))) all
sorted_parts all sorted k d low within =
    let x = get_or all (k + 1) d in
    let y = get_or all k d in
    less_both (octets_cmp x.octets y.octets) (octets_cmp x.made y.made) (ordering_then (nat_cmp x.rrset y.rrset) (nat_cmp x.signature y.signature))
    (sorted k d low within)

lt_before : (a b : Ordering) → ordering_index a ≤ ordering_index b → is_lt b ≡ true → is_lt a ≡ true
lt_before Less b below lt = refl
lt_before a Less below lt = absurd (omega (arith, below))
lt_before a Equal below lt = cc
lt_before a Greater below lt = cc

between : (a : Ordering) → is_lt a ≡ false → ordering_index a ≤ ordering_index Equal → a ≡ Equal
between Less fails below = cc
between Equal fails below = refl
between Greater fails below = absurd (omega (arith, below))

not_greater : (a : Ordering) → ordering_index a ≤ ordering_index Equal → is_gt a ≡ false
not_greater Greater below = absurd (omega (arith, below))
not_greater a below = refl

module _ (all : List Signed) (sorted : IsSorted signed_cmp all) (entry : Entry) where
  rises : IsNonDecreasingBy (λ x. ordering_index (part_cmp x entry)) all
  rises = searchable_from_sorted signature_cmp_total part_of all (asked_part entry) (sorted_parts all sorted)

  pub parted : IsPartitionedBy (λ x. is_lt (part_cmp x entry)) all
  parted i j d before within lt = lt_before (part_cmp (get_or all i d) entry) (part_cmp (get_or all j d) entry) (rises i j d before within) lt

  module _ (start : ℕ) (from : IsPartitionPoint (λ x. is_lt (part_cmp x entry) ≡ true) (λ x. is_lt (part_cmp x entry) ≡ false) all start) where
    behind : (each : Signed) (k : ℕ) → get_or all k each ≡ each → part_cmp each entry ≡ Equal → start ≤ k
    behind each k at tied =
        ⊎_elim
        (λ (before : k < start).
        let lt : is_lt (part_cmp each entry) ≡ true = subst (λ (x : Signed). is_lt (part_cmp x entry) ≡ true) at (from.0 k each (omega arith) before) in
        let clash : true ≡ false = sym lt ∙ ap is_lt tied in absurd (cc))
        (λ (past : start ≤ k). past)
        (cases_lt k start)

    pub found_none : length all ≤ start → (each : Signed) → Contains all each → part_cmp each entry ≡ Equal → ⊥
    found_none past each (k, within, at) tied = omega (arith, past, within, behind each k at tied)

    pub found_first : (found : Signed) → start < length all → found ≡ get_or all start found → (each : Signed) → Contains all each
        → part_cmp each entry ≡ Equal → IsFirstSigned all entry found each
    found_first found inside is each (k, within, at) tied =
        let past = behind each k at tied in
        let fails : is_lt (part_cmp found entry) ≡ false =
        subst (λ (x : Signed). is_lt (part_cmp x entry) ≡ false) (sym is) (from.1 start found (omega arith) inside) in
        let rise : ordering_index (part_cmp (get_or all start each) entry) ≤ ordering_index (part_cmp (get_or all k each) entry) = rises start k each past within in
        let here : get_or all start each ≡ found = get_or_same all start each found inside ∙ sym is in
        let below : ordering_index (part_cmp found entry) ≤ ordering_index Equal =
        subst (λ (o : Ordering). ordering_index (part_cmp found entry) ≤ ordering_index o) tied
        (subst (λ (y : Signed). ordering_index (part_cmp found entry) ≤ ordering_index (part_cmp y entry)) at
        (subst (λ (x : Signed). ordering_index (part_cmp x entry) ≤ ordering_index (part_cmp (get_or all k each) entry)) here rise)) in
        let orders : IsNonDecreasingBy (λ x. ordering_index (signed_cmp x each)) all = searchable_from_sorted signed_cmp_total (λ x. x) all each sorted in
        let order : ordering_index (signed_cmp found each) ≤ ordering_index Equal =
        subst (λ (o : Ordering). ordering_index (signed_cmp found each) ≤ ordering_index o) (tied_itself signed_cmp_total each)
        (subst (λ (y : Signed). ordering_index (signed_cmp found each) ≤ ordering_index (signed_cmp y each)) at
        (subst (λ (x : Signed). ordering_index (signed_cmp x each) ≤ ordering_index (signed_cmp (get_or all k each) each)) here (orders start k each past within))) in
        record {
          among = (start, inside, sym is);
          asked = between (part_cmp found entry) fails below;
          order = not_greater (signed_cmp found each) order;
        }
