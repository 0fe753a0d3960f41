-- Records one after another in the signed data.
use Rattle.std.proofs.Common.{◌≡◌, ℕ, ◌+◌, ◌-◌, ◌<◌, ◌≤◌, List, [], ◌∷◌, ◌++◌, length, get_or, take, drop, map, Option, Some, None, false, refl, sym, ap, ◌∙◌, append_assoc, arith, length-append, ◌↔◌}
use Rattle.std.proofs.lemmas.List.{append-nil, flat_map_more, length-map, map_more, take-append-drop}
use Rattle.std.specs.Borrow.{Bor}
use Rattle.std.specs.Char.{to_ascii_lowercase}
use Rattle.std.specs.List.{AllByRecursion, flat_map}
use Rattle.std.specs.List.Sorted.{IsStrictlySortedBy}
use Rattle.std.specs.Option.{is_some}
use Rattle.std.specs.Int.{w16, to_be_bytes}
use Rattle.dnsv_names.specs.Name.{Labels}
use Rattle.dnsv_records.specs.declared.rrsig.Rrsig.{Rrsig}
use Rattle.dnsv_canonical.specs.Canonical.{IsCanonical}
use Rattle.dnsv_canonical.specs.CanonicalRdata.{octets_around_names, names_lowered, canonical_form}
use Rattle.dnsv_canonical.specs.SignedData.{signed_front, signed_label_count, signed_owner, signed_record, IsSignedData}
use Rattle.dnsv_canonical.specs.SignedRecords.{AddsSigned}
use Rattle.dnsv_canonical.proofs.CanonicalLemmas.{IsMember-from_contains, canonical_some, canonical_unique, member_passes}

-- one more record at the end, written in three parts
pub records_more : {X : Type 0} (f : X → List ℕ) (record_of : List ℕ → List ℕ) (start before after front size : List ℕ) (xs : List X) (i : ℕ) (d : X) → i < length xs → record_of (f (get_or xs i d)) ≡ front ++ size ++ f (get_or xs i d) → before ≡ start ++ flat_map record_of (map f (take i xs)) → after ≡ before ++ front ++ size ++ f (get_or xs i d) → after ≡ start ++ flat_map record_of (map f (take (i + 1) xs))
records_more f record_of start before after front size xs i d within parts so_far written =
    written
    ∙ ap (λ ys. ys ++ f (get_or xs i d)) (append_assoc before front size)
    ∙ append_assoc before (front ++ size) (f (get_or xs i d))
    ∙ ap (λ ys. before ++ ys) (sym parts)
    ∙ ap (λ ys. ys ++ record_of (f (get_or xs i d))) so_far
    ∙ flat_map_more record_of start (map f (take i xs)) (f (get_or xs i d))
    ∙ ap (λ ys. start ++ flat_map record_of ys) (sym (map_more f xs i d within))

-- one RDATA alone is in order
pub one_signed : (front : List ℕ) (forms : List (Bor (List ℕ))) (d : Bor (List ℕ)) (old new : List ℕ) → length forms ≡ 1
    → new ≡ old ++ front ++ to_be_bytes w16 (length (get_or forms 0 d).now) ++ (get_or forms 0 d).now → AddsSigned front (map (λ r. r.now) forms) old new
unfolding IsStrictlySortedBy
one_signed front [] d old new one written = absurd (omega (arith, one))
one_signed front (x ∷ y ∷ forms) d old new one written = absurd (omega (arith, one))
one_signed front (x ∷ []) d old new one written =
    let size : List ℕ = to_be_bytes w16 (length x.now) in
    record {
      canonical = x.now ∷ [];
      are = record { rising = (tt, tt); members = λ rdata. (λ there. there, λ there. there) };
      added = written ∙ ap (λ ys. ys ++ x.now) (append_assoc old front size) ∙ append_assoc old (front ++ size) x.now
          ∙ ap (λ ys. old ++ ys) (sym (append-nil (front ++ size ++ x.now)));
    }

pub not_some : {X : Type 0} (found : Option X) → is_some found ≡ false → found ≡ None
not_some None none = refl
not_some (Some x) none = cc

-- where no name is brought to lower case, RDATA keeps its form
pub kept_forms : (rtype : ℕ) (received : List (List ℕ)) → octets_around_names rtype ≡ None → map (canonical_form rtype) received ≡ received
kept_forms rtype [] none = refl
kept_forms rtype (rdata ∷ others) none = λ i. names_lowered (none i) rdata ∷ kept_forms rtype others none i

-- a signature signs at most one thing
pub signed_data_unique : (owner : Labels) (rtype : ℕ) (received : List (List ℕ)) (rrsig : Rrsig) (a b : Option (List ℕ)) → IsSignedData owner rtype received rrsig a → IsSignedData owner rtype received rrsig b → a ≡ b
signed_data_unique owner rtype received rrsig None None above other = refl
signed_data_unique owner rtype received rrsig None (Some b) above other = absurd (omega (arith, above, other.0))
signed_data_unique owner rtype received rrsig (Some a) None signed above = absurd (omega (arith, above, signed.0))
signed_data_unique owner rtype received rrsig (Some a) (Some b) signed other =
    let octets_of : List (List ℕ) → List ℕ = λ canonical. signed_front rrsig ++ flat_map (signed_record (signed_owner owner rrsig.labels) rtype rrsig.original_ttl.0) canonical in
    let lists : signed.1 ≡ other.1 = canonical_unique (map (canonical_form rtype) received) signed.1 other.1 signed.2 other.2 in
    ap Some (signed.3 ∙ ap octets_of lists ∙ sym other.3)

-- ---- where there is signed data

pub signed_somehow : (owner : Labels) (rtype : ℕ) (received : List (List ℕ)) (rrsig : Rrsig) → ((octets : List ℕ) × IsSignedData owner rtype received rrsig (Some octets)) ↔ (rrsig.labels ≤ signed_label_count owner)
signed_somehow owner rtype received rrsig = (
  λ signed. signed.1.0,
  λ within. let canonical = canonical_some (map (canonical_form rtype) received) in (_, (within, canonical.0, canonical.1, refl)),
)

-- ---- lengths

names_lowered_length : (around : Option (ℕ × ℕ)) (rdata : List ℕ) → length (names_lowered around rdata) ≡ length rdata
names_lowered_length None rdata = refl
names_lowered_length (Some (before, behind)) rdata =
    let rest : List ℕ = drop before rdata in
    let place = length rest - behind in
    omega (
      arith,
      length-append (take before rdata) (map to_ascii_lowercase (take place rest) ++ drop place rest),
      length-append (map to_ascii_lowercase (take place rest)) (drop place rest),
      length-map (take place rest) to_ascii_lowercase,
      length-append (take place rest) (drop place rest),
      ap length (take-append-drop place rest),
      length-append (take before rdata) rest,
      ap length (take-append-drop before rdata),
    )

pub forms_short : (rtype : ℕ) (received : List (List ℕ)) → AllByRecursion (λ rdata. length rdata ≤ 65535) received → AllByRecursion (λ rdata. length rdata ≤ 65535) (map (canonical_form rtype) received)
forms_short rtype [] each = tt
forms_short rtype (rdata ∷ others) each = (omega (arith, each.0, names_lowered_length (octets_around_names rtype) rdata), forms_short rtype others each.1)

-- what stands in the canonical list is one of the forms
pub canonical_short : (forms canonical : List (List ℕ)) (i : ℕ) (x : List ℕ) → AllByRecursion (λ rdata. length rdata ≤ 65535) forms → IsCanonical forms canonical
    → i < length canonical → get_or canonical i x ≡ x → length x ≤ 65535
canonical_short forms canonical i x each is within at =
    member_passes (λ rdata. length rdata ≤ 65535) forms x each (IsMember-from_contains _ x ((is.members x).0 (i, within, at)))
