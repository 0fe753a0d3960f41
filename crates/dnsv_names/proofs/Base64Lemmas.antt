-- Octets in base64, a group of four symbols at a time.
use Rattle.std.proofs.Common.{◌≡◌, ◌<◌, ◌≤◌, ◌+◌, ◌-◌, ◌*◌, ◌/◌, ◌↔◌, ℕ, Bool, true, false, if◌then◌else◌, nat_lt, nat_eq, IsTrue, List, ◌++◌, length, take, drop, get_or, replicate, refl, sym, ap, ◌∙◌, subst, arith, rules, Option, Some, None, Result, Ok, Err, length-append}
use Rattle.std.proofs.lemmas.Bool.{false≢true, le-ltb}
use Rattle.std.proofs.lemmas.Bool.Decides.{Decides-eqb}
use Rattle.std.proofs.lemmas.List.{length-replicate, take-append-drop, length-take-le, take_at, drop_at}
use Rattle.std.specs.Option.{IfSome, is_some}
use Rattle.base64.specs.Decode.{bytes_fit, decode_outcome, or_else, or_error}
use Rattle.base64.specs.Engines.{standard}
use Rattle.base64.specs.GeneralPurpose.{IsBytes, IsConsistent, IsStrict, decode_of, decode_slice_of, decoded_bytes_of, encode_of}
use Rattle.base64.specs.Rfc4648.{encode_symbols, padding_len}
use Rattle.base64.specs.declared.decode.DecodeError.{DecodeError}
use Rattle.base64.specs.declared.decode.DecodeSliceError.{DecodeSliceError}
use Rattle.base64.specs.declared.decode.DecodeSliceError.TheVariants.{OutputSliceTooSmall}
use Rattle.base64.specs.declared.engine.general_purpose.GeneralPurpose.{GeneralPurpose}
use Rattle.base64.proofs.EngineFacts.{decode_of-encode_of, decode_of_strict, encode_of-append}
use Rattle.base64.proofs.RoundTrip.{length-encode_symbols}
use Rattle.dnsv_names.specs.Octets.{AreOctets}
use Rattle.dnsv_names.specs.Lines.Base64Field.{IsBase64}
use Rattle.dnsv_names.specs.Lines.LineReading.{SaysOctets}
use Rattle.dnsv_names.specs.PartLaws.{octet_at_place, octets_fit, recursion-append, recursion-drop, recursion-take}

-- octets have one text in base64, of which they are the only ones
pub decoded : (octets coded : List ℕ) → AreOctets octets → coded ≡ encode_of standard octets → decode_of standard coded ≡ Ok octets
decoded octets coded are is =
    let consistent : IsConsistent standard = search rules in
    ap (decode_of standard) is ∙ decode_of-encode_of standard octets consistent (octet_at_place octets are)

-- what was decoded is said
pub exact : (field octets : List ℕ) → ((i : ℕ) → get_or octets i 0 < 256) → (IsStrict standard → field ≡ encode_of standard octets)
    → AreOctets octets × (field ≡ encode_of standard octets)
exact field octets bytes coded =
    let strict : IsStrict standard = search rules in
    (octets_fit octets bytes, coded strict)

fits_by : (b : Bool) (m n : ℕ) → ◌≡◌ {A = Result ℕ DecodeSliceError} (if b then Err OutputSliceTooSmall else Ok m) (Ok n) → m ≡ n
fits_by true m n e = cc
fits_by false m n e = cc

-- what decoding into three octets says, by the faults of its parts
slice_said : (x y : Option DecodeError) (b : Bool) (octets : List ℕ) (n : ℕ) → b ≡ false
    → or_error x (if b then Err OutputSliceTooSmall else or_error y (bytes_fit (length octets) 3)) ≡ Ok n
    → (decode_outcome (or_else x y) octets ≡ Ok octets) × (length octets ≡ n)
slice_said None None false octets n one said = (refl, fits_by (nat_lt 3 (length octets)) (length octets) n said)
slice_said None None true octets n one said = cc
slice_said None (Some e) false octets n one said = cc
slice_said None (Some e) true octets n one said = cc
slice_said (Some e) y b octets n one said = cc

slice_says : (x y : Option DecodeError) (b : Bool) (octets found : List ℕ) → b ≡ false → length found ≤ 3
    → decode_outcome (or_else x y) octets ≡ Ok found
    → or_error x (if b then Err OutputSliceTooSmall else or_error y (bytes_fit (length octets) 3)) ≡ Ok (length found)
slice_says None None false octets found one few is =
    let same : octets ≡ found = cc in
    let room : nat_lt 3 (length found) ≡ false = le-ltb 3 (length found) few in
    rw (same, room) refl
slice_says None None true octets found one few is = cc
slice_says None (Some e) b octets found one few is = cc
slice_says (Some e) y b octets found one few is = cc

module _ (e : GeneralPurpose) (strict : IsStrict e) (consistent : IsConsistent e) (padded : e.config.encode_padding ≡ true) where
  size : (octets : List ℕ) → length (encode_of e octets) ≡ 4 * ((length octets + 2) / 3)
  size octets =
      rw padded
      (omega (arith, length-append (encode_symbols e.encode_table octets) (replicate (padding_len (length octets)) e.padding.value), length-encode_symbols e.encode_table octets, length-replicate (padding_len (length octets)) e.padding.value))

  -- at most four symbols are one group
  one_group : (group : List ℕ) → length group ≤ 4 → nat_lt (3 / 3) ((length group - 1) / 4) ≡ false
  one_group group short = le-ltb (3 / 3) ((length group - 1) / 4) (omega (arith, short))

  group_said : (group : List ℕ) (n : ℕ) → length group ≤ 4 → IsBytes group → decode_slice_of e group 3 ≡ Ok n
      → (length (decoded_bytes_of e group) ≡ n) × (group ≡ encode_of e (decoded_bytes_of e group))
  group_said group n short bytes said =
      let both = slice_said _ _ _ (decoded_bytes_of e group) n (one_group group short) said in
      (both.1, decode_of_strict e group (decoded_bytes_of e group) strict bytes both.0)

  group_says : (group octets : List ℕ) → length group ≤ 4 → IsBytes octets → group ≡ encode_of e octets
      → decode_slice_of e group 3 ≡ Ok (length octets)
  group_says group octets short bytes coded =
      let few : length octets ≤ 3 = omega (arith, short, ap (λ (symbols : List ℕ). length symbols) coded, size octets) in
      slice_says _ _ _ (decoded_bytes_of e group) octets (one_group group short) few
      (ap (decode_of e) coded ∙ decode_of-encode_of e octets consistent bytes)

  -- a group in front of more symbols is that of the first three octets, and the others are in the rest
  in_front : (text octets : List ℕ) → 4 < length text → text ≡ encode_of e octets
      → (take 4 text ≡ encode_of e (take 3 octets)) × (drop 4 text ≡ encode_of e (drop 3 octets)) × (length (take 3 octets) ≡ 3)
  in_front text octets long coded =
      let many : 3 ≤ length octets = omega (arith, long, ap (λ (symbols : List ℕ). length symbols) coded, size octets) in
      let three : length (take 3 octets) ≡ 3 = length-take-le 3 octets many in
      let whole : text ≡ encode_of e (take 3 octets) ++ encode_of e (drop 3 octets) =
      coded ∙ ap (encode_of e) (sym (take-append-drop 3 octets)) ∙ encode_of-append e (take 3 octets) (drop 3 octets) (omega (arith, three)) in
      let four : length (encode_of e (take 3 octets)) ≡ 4 = omega (arith, size (take 3 octets), three) in (
        ap (take 4) whole ∙ take_at (encode_of e (take 3 octets)) (encode_of e (drop 3 octets)) 4 four,
        ap (drop 4) whole ∙ drop_at (encode_of e (take 3 octets)) (encode_of e (drop 3 octets)) 4 four,
        three,
      )

is_strict : IsStrict standard
is_strict = search rules

is_consistent : IsConsistent standard
is_consistent = search rules

pub said_by : (group : List ℕ) (n : ℕ) → length group ≤ 4 → IsBytes group → IsBytes (decoded_bytes_of standard group)
    → decode_slice_of standard group 3 ≡ Ok n → SaysOctets group n
said_by group n short bytes decoded said =
    let both = group_said standard is_strict is_consistent refl group n short bytes said in
    record { octets = decoded_bytes_of standard group; are = octets_fit (decoded_bytes_of standard group) decoded; counted = both.0; coded = both.1 }

pub says : (group : List ℕ) (n : ℕ) → length group ≤ 4 → SaysOctets group n → decode_slice_of standard group 3 ≡ Ok n
says group n short is =
    group_says standard is_strict is_consistent refl group is.octets short (octet_at_place is.octets is.are) is.coded ∙ ap Ok is.counted

pub is_by_count : (field : List ℕ) (n : ℕ) → SaysOctets field n → IsBase64 field
is_by_count field n is = record { octets = is.octets; are = is.are; coded = is.coded }

pub counted : (field : List ℕ) (is : IsBase64 field) → SaysOctets field (length is.octets)
counted field is = record { octets = is.octets; are = is.are; counted = refl; coded = is.coded }

-- the first group of octets in more than one says three
pub first_says : (text : List ℕ) → 4 < length text → IsBase64 text → SaysOctets (take 4 text) 3 × IsBase64 (drop 4 text)
first_says text long is =
    let front = in_front standard is_strict is_consistent refl text is.octets long is.coded in (
      record { octets = take 3 is.octets; are = recursion-take (λ octet. octet < 256) 3 is.octets is.are; counted = front.2; coded = front.0 },
      record { octets = drop 3 is.octets; are = recursion-drop (λ octet. octet < 256) 3 is.octets is.are; coded = front.1 },
    )

pub first_more : (text : List ℕ) → SaysOctets (take 4 text) 3 → IsBase64 (drop 4 text) → IsBase64 text
first_more text first rest =
    record {
      octets = first.octets ++ rest.octets;
      are = recursion-append (λ octet. octet < 256) first.octets rest.octets first.are rest.are;
      coded = sym (take-append-drop 4 text) ∙ ap (λ (symbols : List ℕ). symbols ++ drop 4 text) first.coded
          ∙ ap (λ (symbols : List ℕ). encode_of standard first.octets ++ symbols) rest.coded
          ∙ sym (encode_of-append standard first.octets rest.octets (omega (arith, first.counted)));
    }

-- ---- how many octets a group says

pub same_count : (m n : ℕ) (r : Result ℕ DecodeSliceError) → Ok m ≡ r → r ≡ Ok n → Some m ≡ Some n
same_count m n r first second =
    let same : m ≡ n = cc in ap Some same

pub no_count : (e : DecodeSliceError) (n : ℕ) (r : Result ℕ DecodeSliceError) → Err e ≡ r → r ≡ Ok n → ◌≡◌ {A = Option ℕ} None (Some n)
no_count e n r first second = absurd (cc)

pub three : (n : ℕ) (group : List ℕ) → SaysOctets group n → ((count : ℕ) → SaysOctets group count → Some n ≡ Some count)
    → IsTrue (nat_eq n 3) ↔ SaysOctets group 3
three n group said every = (
  λ yes. subst (λ (k : ℕ). SaysOctets group k) ((Decides-eqb n 3).0 yes) said,
  λ is. let same_some = every 3 is in
      let same : n ≡ 3 = cc in (Decides-eqb n 3).1 same,
)

some_none : (n : ℕ) → ◌≡◌ {A = Option ℕ} None (Some n) → ⊥
some_none n same = cc

pub not_three : (group : List ℕ) → ((count : ℕ) → SaysOctets group count → ◌≡◌ {A = Option ℕ} None (Some count))
    → IsTrue false ↔ SaysOctets group 3
not_three group every = (λ yes. absurd (false≢true yes), λ is. absurd (some_none 3 (every 3 is)))

-- ---- group after group

pub group_more : (rest group behind : List ℕ) → 4 < length rest → group ≡ take 4 rest → behind ≡ drop 4 rest → SaysOctets group 3
    → IsBase64 rest ↔ IsBase64 behind
group_more rest group behind long front back says = (
  λ is. subst IsBase64 (sym back) (first_says rest long is).1,
  λ is. first_more rest (subst (λ (symbols : List ℕ). SaysOctets symbols 3) front says) (subst IsBase64 back is),
)

pub group_in_front : (rest group : List ℕ) → 4 < length rest → group ≡ take 4 rest → IsBase64 rest → SaysOctets group 3
group_in_front rest group long front is = subst (λ (symbols : List ℕ). SaysOctets symbols 3) (sym front) (first_says rest long is).0

pub last_group : (r : Option ℕ) (b : Bool) (rest : List ℕ) → b ≡ is_some r → IfSome r (SaysOctets rest)
    → ((count : ℕ) → SaysOctets rest count → r ≡ Some count) → IsTrue b ↔ IsBase64 rest
last_group (Some n) b rest same said every = (λ yes. is_by_count rest n said, λ is. same)
last_group None b rest same said every =
    (λ yes. absurd (false≢true (sym same ∙ yes)), λ is. absurd (some_none (length is.octets) (every (length is.octets) (counted rest is))))
