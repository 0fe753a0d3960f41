-- Laws of RRsets and of signed data.
use Rattle.std.proofs.Common.{◌≡◌, ℕ, suc, ◌+◌, ◌<◌, ◌≤◌, true, false, List, [], ◌∷◌, ◌++◌, length, get_or, take, drop, refl, sym, ap, ◌∙◌, arith, append_assoc, ◌↔◌}
use Rattle.std.specs.Prelude.{AllPairs, Contains}
use Rattle.std.specs.Int.{w16, w32, byte_at, to_be_bytes}
use Rattle.std.specs.Int.Digits.{number_from_digits}
use Rattle.std.specs.List.{fold, list_any}
use Rattle.std.specs.Str.{bytes_eq}
use Rattle.std.proofs.lemmas.Bool.{true≢false}
use Rattle.std.proofs.lemmas.Cmp.{lists_equiv, nat_eq_equiv}
use Rattle.std.proofs.lemmas.List.{append-nil, drop-drop}
use Rattle.std.proofs.lemmas.List.Folds.{list_any_at}
use Rattle.std.proofs.lemmas.Map.Views.{Contains-from_any}
use Rattle.std.proofs.lemmas.Slice.Eq.{bytes_eq-Decides}
use Rattle.dnsv_names.specs.Name.{lower_case, wire}
use Rattle.dnsv_names.specs.Octets.{AreOctets, number_at}
use Rattle.dnsv_message.specs.Message.{Contents}
use Rattle.dnsv_names.specs.PartLaws.{recursion-drop, recursion-take}
use Rattle.dnsv_records.specs.OctetLaws.{take_part, length_part}
use Rattle.dnsv_records.specs.declared.rrsig.Rrsig.{Rrsig}
use Rattle.dnsv_records.specs.Rrsig.{IsRrsig}
use Rattle.dnsv_canonical.specs.Evidence.{Evidence, IsDistinct, evidence_of, with_message}
use Rattle.dnsv_canonical.specs.Rrsets.{first_appearances, message_rrsets, rrsets_from, rrsets_of}
use Rattle.dnsv_canonical.specs.SignedData.{signed_front}
use Rattle.dnsv_rrsets.proofs.AppearanceLemmas.{first_appearances_any, first_appearances_apart}

-- ---- messages one by one

held_rrsets : (held : Evidence) (messages : List Contents) → (fold with_message held messages).rrsets ≡ held.rrsets ++ rrsets_from (suc held.messages) messages
held_rrsets held [] = sym (append-nil held.rrsets)
held_rrsets held (message ∷ messages) =
    held_rrsets (with_message held message) messages
    ∙ append_assoc held.rrsets (message_rrsets (suc held.messages) message) (rrsets_from (suc (suc held.messages)) messages)

pub evidence_rrsets : (messages : List Contents) → (evidence_of messages).rrsets ≡ rrsets_of messages
evidence_rrsets messages = held_rrsets _ messages

-- ---- a beginning of the messages

from_append : (number : ℕ) (earlier later : List Contents) → rrsets_from number (earlier ++ later) ≡ rrsets_from number earlier ++ rrsets_from (number + length earlier) later
from_append number [] later = ap (λ n. rrsets_from n later) (omega arith)
from_append number (message ∷ messages) later =
    let here = message_rrsets number message in
    ap (λ rrsets. here ++ rrsets) (from_append (suc number) messages later)
    ∙ sym (append_assoc here (rrsets_from (suc number) messages) (rrsets_from (suc number + length messages) later))
    ∙ ap (λ n. (here ++ rrsets_from (suc number) messages) ++ rrsets_from n later) (omega arith)

pub rrsets_of-append : (earlier later : List Contents) → rrsets_of (earlier ++ later) ≡ rrsets_of earlier ++ rrsets_from (suc (length earlier)) later
rrsets_of-append earlier later = from_append 1 earlier later ∙ ap (λ n. rrsets_of earlier ++ rrsets_from n later) (omega arith)

-- ---- first appearances

any_contains : (xs : List (List ℕ)) (x : List ℕ) → list_any (λ y. bytes_eq y x) xs ≡ true → Contains xs x
any_contains xs x any = Contains-from_any {eq = λ q y. bytes_eq y q} (λ q y same. sym ((bytes_eq-Decides y q).0 same)) x xs any

contains_any : (xs : List (List ℕ)) (x : List ℕ) → Contains xs x → list_any (λ y. bytes_eq y x) xs ≡ true
contains_any xs x found = list_any_at (λ y. bytes_eq y x) xs found.0 x found.1 (ap (λ y. bytes_eq y x) found.2 ∙ (bytes_eq-Decides x x).1 refl)

pub first_appearances_members : (received : List (List ℕ)) (rdata : List ℕ) → Contains (first_appearances bytes_eq received) rdata ↔ Contains received rdata
first_appearances_members received rdata =
    let any : list_any (λ y. bytes_eq y rdata) (first_appearances bytes_eq received) ≡ list_any (λ y. bytes_eq y rdata) received =
    first_appearances_any bytes_eq (lists_equiv nat_eq_equiv) rdata received in (
      λ found. any_contains received rdata (sym any ∙ contains_any (first_appearances bytes_eq received) rdata found),
      λ found. any_contains (first_appearances bytes_eq received) rdata (any ∙ contains_any received rdata found),
    )

distinct_apart : (xs : List (List ℕ)) → AllPairs (λ a b. bytes_eq a b ≡ false) xs → IsDistinct xs
distinct_apart [] apart = tt
distinct_apart (x ∷ xs) apart = (
  λ found. true≢false (sym ((bytes_eq-Decides x (get_or xs found.0 x)).1 (sym found.2)) ∙ apart 0 (suc found.0) x (omega arith) (omega (arith, found.1))),
  distinct_apart xs (λ i j d before within. apart (suc i) (suc j) d (omega (arith, before)) (omega (arith, within))),
)

pub first_appearances_once : (received : List (List ℕ)) → IsDistinct (first_appearances bytes_eq received)
first_appearances_once received = distinct_apart (first_appearances bytes_eq received) (first_appearances_apart bytes_eq received)

-- ---- the front of what is signed

-- octets are the digits of the number that they write
one_octet : (xs : List ℕ) → length xs ≡ 1 → number_from_digits 256 xs ∷ [] ≡ xs
one_octet [] size = absurd (omega (arith, size))
one_octet (a ∷ []) size = ap (λ n. n ∷ []) (omega arith)
one_octet (a ∷ b ∷ xs) size = absurd (omega (arith, size))

two_octets : (xs : List ℕ) → AreOctets xs → length xs ≡ 2 → to_be_bytes w16 (number_from_digits 256 xs) ≡ xs
two_octets [] are size = absurd (omega (arith, size))
two_octets (a ∷ []) are size = absurd (omega (arith, size))
two_octets (a ∷ b ∷ []) are size =
    let number = number_from_digits 256 (a ∷ b ∷ []) in
    let high : byte_at 1 number ≡ a = omega (arith, are.0, are.1.0) in
    let low : byte_at 0 number ≡ b = omega (arith, are.0, are.1.0) in
    λ i. high i ∷ low i ∷ []
two_octets (a ∷ b ∷ c ∷ xs) are size = absurd (omega (arith, size))

four_octets : (xs : List ℕ) → AreOctets xs → length xs ≡ 4 → to_be_bytes w32 (number_from_digits 256 xs) ≡ xs
four_octets [] are size = absurd (omega (arith, size))
four_octets (a ∷ []) are size = absurd (omega (arith, size))
four_octets (a ∷ b ∷ []) are size = absurd (omega (arith, size))
four_octets (a ∷ b ∷ c ∷ []) are size = absurd (omega (arith, size))
four_octets (a ∷ b ∷ c ∷ d ∷ []) are size =
    let number = number_from_digits 256 (a ∷ b ∷ c ∷ d ∷ []) in
    let first : byte_at 3 number ≡ a = omega (arith, are.0, are.1.0, are.1.1.0, are.1.1.1.0) in
    let second : byte_at 2 number ≡ b = omega (arith, are.0, are.1.0, are.1.1.0, are.1.1.1.0) in
    let third : byte_at 1 number ≡ c = omega (arith, are.0, are.1.0, are.1.1.0, are.1.1.1.0) in
    let fourth : byte_at 0 number ≡ d = omega (arith, are.0, are.1.0, are.1.1.0, are.1.1.1.0) in
    λ i. first i ∷ second i ∷ third i ∷ fourth i ∷ []
four_octets (a ∷ b ∷ c ∷ d ∷ e ∷ xs) are size = absurd (omega (arith, size))

module _ (rdata : List ℕ) (are : AreOctets rdata) where
  field_octets : (place width : ℕ) → AreOctets (take width (drop place rdata))
  field_octets place width = recursion-take (λ octet. octet < 256) width (drop place rdata) (recursion-drop (λ octet. octet < 256) place rdata are)

  field_of_2 : (place : ℕ) → place + 2 ≤ length rdata → to_be_bytes w16 (number_at rdata place 2) ≡ take 2 (drop place rdata)
  field_of_2 place within = two_octets (take 2 (drop place rdata)) (field_octets place 2) (length_part place 2 rdata within)

  field_of_4 : (place : ℕ) → place + 4 ≤ length rdata → to_be_bytes w32 (number_at rdata place 4) ≡ take 4 (drop place rdata)
  field_of_4 place within = four_octets (take 4 (drop place rdata)) (field_octets place 4) (length_part place 4 rdata within)

  fields_of_1 : 4 ≤ length rdata → number_at rdata 2 1 ∷ number_at rdata 3 1 ∷ [] ≡ take 2 (drop 2 rdata)
  fields_of_1 within =
      let first : number_at rdata 2 1 ∷ [] ≡ take 1 (drop 2 rdata) = one_octet (take 1 (drop 2 rdata)) (length_part 2 1 rdata (omega arith)) in
      let second : number_at rdata 3 1 ∷ [] ≡ take 1 (drop 3 rdata) = one_octet (take 1 (drop 3 rdata)) (length_part 3 1 rdata (omega arith)) in
      (λ i. first i ++ second i)
      ∙ ap (λ rest. take 1 (drop 2 rdata) ++ take 1 rest) (sym (drop-drop 1 2 rdata))
      ∙ sym (take_part 1 1 2 (drop 2 rdata) refl)

  pub front_of_octets : (rrsig : Rrsig) → IsRrsig rdata rrsig → signed_front rrsig ≡ take 18 rdata ++ wire (lower_case rrsig.signer)
  front_of_octets rrsig is =
      let head = is.head in
      let covered = ap (to_be_bytes w16) is.type_covered ∙ field_of_2 0 (omega arith) in
      let singles : rrsig.algorithm.0 ∷ rrsig.labels ∷ [] ≡ take 2 (drop 2 rdata) = (λ i. is.algorithm i ∷ is.labels i ∷ []) ∙ fields_of_1 (omega arith) in
      let ttl = ap (to_be_bytes w32) is.original_ttl ∙ field_of_4 4 (omega arith) in
      let ends = ap (to_be_bytes w32) is.expiration ∙ field_of_4 8 (omega arith) in
      let begins = ap (to_be_bytes w32) is.inception ∙ field_of_4 12 (omega arith) in
      let tag = ap (to_be_bytes w16) is.key_tag ∙ field_of_2 16 (omega arith) in
      let to_4 : take 4 rdata ≡ take 2 rdata ++ take 2 (drop 2 rdata) = take_part 2 2 4 rdata refl in
      let to_8 : take 8 rdata ≡ take 4 rdata ++ take 4 (drop 4 rdata) = take_part 4 4 8 rdata refl in
      let to_12 : take 12 rdata ≡ take 8 rdata ++ take 4 (drop 8 rdata) = take_part 8 4 12 rdata refl in
      let to_16 : take 16 rdata ≡ take 12 rdata ++ take 4 (drop 12 rdata) = take_part 12 4 16 rdata refl in
      let to_18 : take 18 rdata ≡ take 16 rdata ++ take 2 (drop 16 rdata) = take_part 16 2 18 rdata refl in
      (λ i. (((((covered i ++ singles i) ++ ttl i) ++ ends i) ++ begins i) ++ tag i) ++ wire (lower_case rrsig.signer))
      ∙ ap (λ front. ((((front ++ take 4 (drop 4 rdata)) ++ take 4 (drop 8 rdata)) ++ take 4 (drop 12 rdata)) ++ take 2 (drop 16 rdata)) ++ wire (lower_case rrsig.signer)) (sym to_4)
      ∙ ap (λ front. (((front ++ take 4 (drop 8 rdata)) ++ take 4 (drop 12 rdata)) ++ take 2 (drop 16 rdata)) ++ wire (lower_case rrsig.signer)) (sym to_8)
      ∙ ap (λ front. ((front ++ take 4 (drop 12 rdata)) ++ take 2 (drop 16 rdata)) ++ wire (lower_case rrsig.signer)) (sym to_12)
      ∙ ap (λ front. (front ++ take 2 (drop 16 rdata)) ++ wire (lower_case rrsig.signer)) (sym to_16)
      ∙ ap (λ front. front ++ wire (lower_case rrsig.signer)) (sym to_18)
