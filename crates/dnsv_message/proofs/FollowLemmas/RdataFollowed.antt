-- What following octets finds of an RDATA is the RDATA that stands there.
use Rattle.std.proofs.Common.{◌≡◌, ℕ, zero, suc, ◌+◌, ◌-◌, ◌<◌, ◌≤◌, List, [], ◌∷◌, ◌++◌, length, get_or, take, drop, refl, sym, ap, subst, ◌∙◌, arith, Bool, false, nat_lt, append_assoc, Option, Some, None, Vec}
use Rattle.std.specs.declared.alloc.Global.{Global}
use Rattle.std.specs.Prelude.{flat_map, MatchOption, IsSome, IsTrue, IsFalse, nat_eq}
use Rattle.std.proofs.lemmas.Bool.Decides.{nat_tests}
use Rattle.std.proofs.lemmas.Option.{MatchOption-at_some}
use Rattle.std.proofs.lemmas.List.{drop-drop}
use Rattle.dnsv_names.specs.Name.{Labels, wire}
use Rattle.dnsv_names.specs.Name.WireLaws.{length-wire}
use Rattle.dnsv_names.specs.Octets.{AreOctets}
use Rattle.dnsv_message.specs.declared.rdata.Layout.{Layout}
use Rattle.dnsv_message.specs.declared.errors.NameFault.{NameFault}
use Rattle.dnsv_message.specs.NameAt.{NameAt, root, label, pointer, NameFrom, NameFaultFrom, pointer_limit}
use Rattle.dnsv_message.specs.Grammar.{InOrder, RdataNameAt, RdataAt, part_of}
use Rattle.dnsv_message.specs.Following.Rdata.{end_behind, end_by_octet, end_from, end_at, written_at, rdata_from, RdataStandsAt}
use Rattle.dnsv_message.proofs.Numbers.{octet_fits, part_same}
use Rattle.dnsv_message.proofs.NameLaws.{octet_of_number, octet_of_label, octet_of_pointer, NameAt_same, NameAt_sound}
use Rattle.dnsv_message.proofs.RdataLemmas.{rdata_name}
use Rattle.dnsv_message.proofs.RdataLemmas.RdataWritten.{labels_are}
use Rattle.dnsv_message.proofs.FollowLemmas.{below_64, not_below_64, labels_found}
use Rattle.dnsv_message.proofs.FrameLemmas.{take_nil}

end_root : (steps : ℕ) (octets : List ℕ) (place : ℕ) → get_or octets place 0 ≡ 0 → end_from (suc steps) octets place ≡ place + 1
unfolding end_from
end_root steps octets place octet = ap (end_by_octet (end_from steps octets) place) octet

end_by_size : (rest : ℕ → ℕ) (place n : ℕ) → 0 < n → end_by_octet rest place n ≡ end_behind rest place n (nat_lt n 64)
end_by_size rest place zero some = absurd (omega (arith, some))
end_by_size rest place (suc n) some = refl

end_label : (steps : ℕ) (octets : List ℕ) (place n : ℕ) → get_or octets place 0 ≡ n → 0 < n → n < 64 → end_from (suc steps) octets place ≡ end_from steps octets (place + (1 + n))
unfolding end_from
end_label steps octets place n octet some small =
    ap (end_by_octet (end_from steps octets) place) octet ∙ end_by_size (end_from steps octets) place n some
    ∙ ap (end_behind (end_from steps octets) place n) (below_64 n small)

end_pointer : (steps : ℕ) (octets : List ℕ) (place : ℕ) → 192 ≤ get_or octets place 0 → end_from (suc steps) octets place ≡ place + 2
unfolding end_from
end_pointer steps octets place octet =
    end_by_size (end_from steps octets) place (get_or octets place 0) (omega (arith, octet))
    ∙ ap (end_behind (end_from steps octets) place (get_or octets place 0)) (not_below_64 (get_or octets place 0) (omega (arith, octet)))

module _ (octets : List ℕ) (fit : (i : ℕ) → get_or octets i 0 < 256) where
  end_found_from : (steps place run pointers : ℕ) (labels : Labels) (end : ℕ) → length labels < steps → NameAt octets place run pointers labels end → end_from steps octets place ≡ end
  end_found_from zero place run pointers labels end enough at = absurd (omega (arith, enough))
  end_found_from (suc steps) place run pointers labels end enough (root at) = end_root steps octets place (octet_of_number octets place 0 at)
  end_found_from (suc steps) place run pointers labels end enough (label {first = first} {labels = rest} at on) =
      end_label steps octets place (length first) (octet_of_label octets place first at) at.0.not_empty (omega (arith, at.0.at_most_63))
      ∙ end_found_from steps (place + (1 + length first)) run pointers rest end (omega (arith, enough)) on
  end_found_from (suc steps) place run pointers labels end enough (pointer {target = target} at back on) =
      end_pointer steps octets place (octet_of_pointer octets fit place target at)

pub end_found : (octets : List ℕ) (place : ℕ) (labels : Labels) (end : ℕ) → AreOctets octets → NameFrom octets place labels end → end_at octets place ≡ end
end_found octets place labels end are at =
    let short = length-wire labels (labels_are octets place place pointer_limit labels end at.0) in
    end_found_from octets (octet_fits octets are) 160 place place pointer_limit labels end (omega (arith, short, at.1)) at.0

module _ (octets : List ℕ) (are : AreOctets octets) (limit : ℕ) (pointers : Bool) where
  names_written : (names : List Labels) (place behind rest : ℕ) → InOrder (RdataNameAt octets limit pointers) place names behind → behind + rest ≡ limit
      → written_at (length names) octets place limit ≡ flat_map wire names ++ part_of octets behind rest
  names_written [] place behind rest order filled =
      let left : limit - place ≡ rest = omega (arith, order, filled) in
      λ i. part_of octets (sym order i) (left i)
  names_written (name ∷ names) place behind rest order filled =
      let from = (rdata_name octets limit pointers place name order.0 order.1).0 in
      let next = end_found octets place name order.0 are from in
      ap (λ labels. wire labels ++ written_at (length names) octets (end_at octets place) limit) (labels_found octets place name order.0 are from)
      ∙ ap (λ n. wire name ++ written_at (length names) octets n limit) next
      ∙ ap (λ xs. wire name ++ xs) (names_written names order.0 behind rest order.2 filled)
      ∙ sym (append_assoc (wire name) (flat_map wire names) (part_of octets behind rest))

-- the RDATA that stands at a place is what is seen there
pub rdata_found : (octets : List ℕ) (layout : Layout) (start size : ℕ) (rdata : List ℕ) → AreOctets octets → RdataAt octets layout start size rdata → rdata_from octets layout start size ≡ rdata
unfolding rdata_from
rdata_found octets layout start size rdata are at =
    let head = part_of octets start layout.head in
    ap (λ n. head ++ written_at n octets (start + layout.head) (start + size)) (sym at.counted)
    ∙ ap (λ xs. head ++ xs) (names_written octets are (start + size) layout.pointers at.names (start + layout.head) at.after_names at.rest at.named at.filled)
    ∙ sym (append_assoc head (flat_map wire at.names) (part_of octets at.after_names at.rest))
    ∙ sym at.written

pub rdata_stands_by : (octets : List ℕ) (layout : Layout) (start size : ℕ) (rdata : List ℕ) → AreOctets octets → start + size ≤ length octets → RdataAt octets layout start size rdata → RdataStandsAt octets layout start size
rdata_stands_by octets layout start size rdata are within at = record {
  fit = are;
  within = within;
  rdata = subst (RdataAt octets layout start size) (sym (rdata_found octets layout start size rdata are at)) at;
}

-- no name of an RDATA stands where a name has a fault
pub no_name_at_fault : (octets : List ℕ) → ((i : ℕ) → get_or octets i 0 < 256) → (limit : ℕ) (pointers : Bool) (place : ℕ) (fault : NameFault) → NameFaultFrom octets place fault
    → (name : Labels) (end : ℕ) → RdataNameAt octets limit pointers place name end → ⊥
no_name_at_fault octets fit limit pointers place fault wrong name end at =
    let from = rdata_name octets limit pointers place name end at in
    NameAt_sound octets fit place place pointer_limit 0 name end fault (omega (arith, from.0.1)) from.0.0 wrong

-- nor where it leaves the RDATA
pub no_name_past : (octets : List ℕ) → ((i : ℕ) → get_or octets i 0 < 256) → (limit : ℕ) (pointers : Bool) (place : ℕ) (name : Labels) (end : ℕ) → NameFrom octets place name end → limit < end
    → (other : Labels) (after : ℕ) → RdataNameAt octets limit pointers place other after → ⊥
no_name_past octets fit limit pointers place name end at past other after also =
    let from = rdata_name octets limit pointers place other after also in
    omega (arith, past, from.1, (NameAt_same octets fit place place pointer_limit other name after end from.0.0 at.0).1)

-- parts that stand one after another are one part
parts_join : (octets : List ℕ) (place a b : ℕ) → part_of octets place a ++ part_of octets (place + a) b ≡ part_of octets place (a + b)
parts_join octets place a b =
    ap (λ xs. part_of octets place a ++ take b xs) (sym (drop-drop a place octets)) ∙ sym (take_split a b (drop place octets))
  where
    take_split : (a b : ℕ) (xs : List ℕ) → take (a + b) xs ≡ take a xs ++ take b (drop a xs)
    take_split zero b xs = ap (λ n. take n xs) (omega arith)
    take_split (suc a) b [] = take_nil (suc a + b) ∙ sym (take_nil b)
    take_split (suc a) b (x ∷ xs) =
        let more : suc a + b ≡ suc (a + b) = omega arith in
        ap (λ n. take n (x ∷ xs)) more ∙ ap (λ ys. x ∷ ys) (take_split a b xs)

-- where no name may be compressed, the names are the octets as they stand
names_plain : (octets : List ℕ) (limit : ℕ) (names : List Labels) (place behind : ℕ) → InOrder (RdataNameAt octets limit false) place names behind
    → (n : ℕ) × (behind ≡ place + n) × (part_of octets place n ≡ flat_map wire names)
names_plain octets limit [] place behind order = (0, omega (arith, order), refl)
names_plain octets limit (name ∷ names) place behind order =
    let rest = names_plain octets limit names order.0 behind order.2 in
    let size = length (wire name) in (
      size + rest.0,
      omega (arith, rest.1, order.1.2),
      sym (parts_join octets place size rest.0) ∙ ap (λ n. part_of octets place size ++ part_of octets n rest.0) (sym order.1.2)
          ∙ (λ i. order.1.1 i ++ rest.2 i),
    )

-- and so is the RDATA
pub plain_rdata : (octets : List ℕ) (layout : Layout) (start size : ℕ) (rdata : List ℕ) → layout.pointers ≡ false → RdataAt octets layout start size rdata → rdata ≡ part_of octets start size
plain_rdata octets layout start size rdata plain at =
    let names = names_plain octets (start + size) at.names (start + layout.head) at.after_names
    (subst (λ b. InOrder (RdataNameAt octets (start + size) b) (start + layout.head) at.names at.after_names) plain at.named) in
    let front : part_of octets start layout.head ++ flat_map wire at.names ≡ part_of octets start (layout.head + names.0) =
    ap (λ xs. part_of octets start layout.head ++ xs) (sym names.2) ∙ parts_join octets start layout.head names.0 in
    let ends : at.after_names ≡ start + (layout.head + names.0) = omega (arith, names.1) in
    let all : layout.head + names.0 + at.rest ≡ size = omega (arith, at.filled, names.1) in
    at.written ∙ ap (λ xs. xs ++ part_of octets at.after_names at.rest) front
    ∙ ap (λ n. part_of octets start (layout.head + names.0) ++ part_of octets n at.rest) ends
    ∙ parts_join octets start (layout.head + names.0) at.rest ∙ ap (part_of octets start) all

-- RDATA that stands is read, as what is seen there
pub rdata_is_read : (octets : List ℕ) (layout : Layout) (start size : ℕ) → RdataStandsAt octets layout start size → (answer : Option (Vec ℕ Global))
    → MatchOption answer ((rdata : List ℕ) → RdataAt octets layout start size rdata → ⊥) (λ rdata. RdataAt octets layout start size rdata.items) → IsSome answer
rdata_is_read octets layout start size stands (Some found) read = refl
rdata_is_read octets layout start size stands None read = absurd (read (rdata_from octets layout start size) stands.rdata)

pub rdata_is_found : (octets : List ℕ) (layout : Layout) (start size : ℕ) → RdataStandsAt octets layout start size → (answer : Option (Vec ℕ Global)) (found : Vec ℕ Global) → answer ≡ Some found
    → MatchOption answer ((rdata : List ℕ) → RdataAt octets layout start size rdata → ⊥) (λ rdata. RdataAt octets layout start size rdata.items) → found.items ≡ rdata_from octets layout start size
rdata_is_found octets layout start size stands answer found is read =
    sym (rdata_found octets layout start size found.items stands.fit (MatchOption-at_some _ _ _ is read))

pub same_by_test : (m n : ℕ) → IsTrue (nat_eq m n) → m ≡ n
same_by_test m n same = grind (arith, nat_tests, same)

pub differ_by_test : (m n : ℕ) → IsFalse (nat_eq m n) → m ≡ n → ⊥
differ_by_test m n other same = grind (arith, nat_tests, other, same)

-- where no name may be compressed, the octets are seen as they stand
pub plain_seen : (octets : List ℕ) (layout : Layout) (start size : ℕ) → RdataStandsAt octets layout start size → layout.pointers ≡ false → take (start + size - start) (drop start octets) ≡ rdata_from octets layout start size
plain_seen octets layout start size stands plain =
    part_same octets start size ∙ sym (plain_rdata octets layout start size (rdata_from octets layout start size) plain stands.rdata)
