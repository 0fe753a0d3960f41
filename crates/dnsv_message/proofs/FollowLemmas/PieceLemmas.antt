-- The pieces of an RDATA one after another are what it spells.
use Rattle.std.proofs.Common.{◌≡◌, ℕ, zero, suc, ◌+◌, ◌-◌, ◌<◌, ◌≤◌, List, [], ◌∷◌, ◌++◌, length, get_or, take, drop, refl, sym, ap, subst, ◌∙◌, arith, append_assoc, Bool, true, false, not, Result, Ok, min, nat_eq}
use Rattle.std.specs.Result.{IfOk}
use Rattle.std.specs.Bool.{Decides}
use Rattle.std.specs.Cmp.Lexicographic.{pointwise, bytes_decides}
use Rattle.std.proofs.lemmas.Bool.{false≢true}
use Rattle.std.proofs.lemmas.Bool.Decides.{nat_tests, Decides-like}
use Rattle.std.proofs.lemmas.List.{drop_more, take-append-drop, take-append-le, drop-append-le, take_rest}
use Rattle.std.proofs.lemmas.Result.{IfOk-at_ok}
use Rattle.dnsv_names.specs.Name.{Labels, wire}
use Rattle.dnsv_names.specs.Octets.{AreOctets}
use Rattle.dnsv_message.specs.declared.rdata.Layout.{Layout}
use Rattle.dnsv_message.specs.declared.errors.NameFault.{NameFault}
use Rattle.dnsv_message.specs.Grammar.{InOrder, RdataNameAt}
use Rattle.dnsv_message.specs.NameAt.{NameFrom}
use Rattle.dnsv_message.specs.Following.{IsNamed, StandsAt, labels_at, label_at}
use Rattle.dnsv_message.specs.Following.Rdata.{end_at, written_at, rdata_from, RdataStandsAt}
use Rattle.dnsv_message.specs.Following.Pieces.{pieces_from, NamesStand, PiecesStand}
use Rattle.dnsv_message.proofs.Numbers.{part_same, true_from_not_false}
use Rattle.dnsv_message.proofs.RdataLemmas.{rdata_name, head_fits}
use Rattle.dnsv_message.proofs.FollowLemmas.{named_by, has_root, has_label}
use Rattle.dnsv_message.proofs.FollowLemmas.RdataFollowed.{end_found}

pub first_named : (names : ℕ) (octets : List ℕ) (place limit : ℕ) → 0 < names → NamesStand names octets place limit → IsNamed octets place
first_named zero octets place limit some stand = absurd (omega (arith, some))
first_named (suc more) octets place limit some stand = stand.0

-- what is read of a name ends where the name is seen to end
pub end_is : (octets : List ℕ) (place : ℕ) → IsNamed octets place → (answer : Result (ℕ × ℕ) NameFault) (found : ℕ × ℕ) → answer ≡ Ok found
    → IfOk answer (λ found. (labels : Labels) × NameFrom octets place labels found.1 × (found.0 ≡ length (wire labels))) → found.1 ≡ end_at octets place
end_is octets place named answer found is read =
    let name = IfOk-at_ok _ is read in
    sym (end_found octets place name.0 found.1 named.fit name.1)

-- pieces begin at the first of so many names
pub PiecesStand-new : (names : ℕ) (octets : List ℕ) (place limit first behind : ℕ) → 0 < names → StandsAt octets first → behind ≡ end_at octets place → NamesStand names octets place limit → limit ≤ length octets
    → PiecesStand names octets first behind limit
PiecesStand-new zero octets place limit first behind some stands ends named within = absurd (omega (arith, some))
PiecesStand-new (suc more) octets place limit first behind some stands ends named within =
    record { within = within; piece = (stands, subst (λ n. NamesStand more octets n limit) (sym ends) named.1) }

pub pieces_from-new : (names : ℕ) (octets : List ℕ) (place limit first behind : ℕ) → 0 < names → behind ≡ end_at octets place → labels_at octets first ≡ labels_at octets place
    → pieces_from names octets first behind limit ≡ written_at names octets place limit
pieces_from-new zero octets place limit first behind some ends same = absurd (omega (arith, some))
pieces_from-new (suc more) octets place limit first behind some ends same = λ i. wire (same i) ++ written_at more octets (ends i) limit

-- the part of one octet and so many more
part_begins : (octets : List ℕ) (place n : ℕ) → place < length octets → take (place + (1 + n) - place) (drop place octets) ≡ get_or octets place 0 ∷ take n (drop (place + 1) octets)
part_begins octets place n within =
    let size : place + (1 + n) - place ≡ suc n = omega arith in
    ap (λ k. take k (drop place octets)) size ∙ ap (take (suc n)) (drop_more octets place 0 within)

-- a root is a piece, behind which the next name begins
pub root_passed : (names : ℕ) (octets : List ℕ) (place behind limit : ℕ) → 0 < names → PiecesStand names octets place behind limit → get_or octets place 0 ≡ 0
    → pieces_from names octets place behind limit ≡ take (place + 1 - place) (drop place octets) ++ written_at (names - 1) octets behind limit
root_passed zero octets place behind limit some stand octet = absurd (omega (arith, some))
root_passed (suc more) octets place behind limit some stand octet =
    let root = has_root octets place stand.piece.0.named octet in
    let less : suc more - 1 ≡ more = omega arith in
    ap (λ labels. wire labels ++ written_at more octets behind limit) root.none
    ∙ ap (λ n. n ∷ written_at more octets behind limit) (sym octet)
    ∙ ap (λ xs. xs ++ written_at more octets behind limit) (sym (part_begins octets place 0 root.within))
    ∙ ap (λ n. take (place + 1 - place) (drop place octets) ++ written_at n octets behind limit) (sym less)

-- and so is a label, behind which the name goes on
pub label_passed : (names : ℕ) (octets : List ℕ) (place behind limit next : ℕ) → 0 < names → PiecesStand names octets place behind limit → 0 < get_or octets place 0
    → labels_at octets place ≡ label_at octets place ∷ labels_at octets next
    → pieces_from names octets place behind limit ≡ take (place + (1 + get_or octets place 0) - place) (drop place octets) ++ pieces_from names octets next behind limit
label_passed zero octets place behind limit next some stand label on = absurd (omega (arith, some))
label_passed (suc more) octets place behind limit next some stand label on =
    let has = has_label octets place stand.piece.0.named label stand.piece.0.plain in
    let rest = written_at more octets behind limit in
    ap (λ labels. wire labels ++ rest) on
    ∙ ap (λ n. n ∷ (label_at octets place ++ wire (labels_at octets next)) ++ rest) has.size
    ∙ append_assoc (get_or octets place 0 ∷ label_at octets place) (wire (labels_at octets next)) rest
    ∙ ap (λ xs. xs ++ (wire (labels_at octets next) ++ rest)) (sym (part_begins octets place (get_or octets place 0) (omega (arith, has.within))))

-- the names of an RDATA stand one after another
module _ (octets : List ℕ) (are : AreOctets octets) (limit : ℕ) (pointers : Bool) where
  names_stand : (names : List Labels) (place behind : ℕ) → InOrder (RdataNameAt octets limit pointers) place names behind → behind ≤ limit → NamesStand (length names) octets place limit
  names_stand [] place behind order within = omega (arith, order, within)
  names_stand (name ∷ names) place behind order within =
      let from = (rdata_name octets limit pointers place name order.0 order.1).0 in (
        named_by octets place name order.0 are from,
        subst (λ n. NamesStand (length names) octets n limit) (sym (end_found octets place name order.0 are from)) (names_stand names order.0 behind order.2 within),
      )

-- what is behind the head of an RDATA
module _ (octets : List ℕ) (seen layout : Layout) (start size : ℕ) (same : layout ≡ seen) (stands : RdataStandsAt octets seen start size) where
  pub head_within : start + layout.head ≤ start + size
  head_within = rw same (omega (arith, head_fits octets seen start size (rdata_from octets seen start size) stands.rdata))

  pub names_behind : NamesStand layout.names octets (start + layout.head) (start + size)
  names_behind =
      let at = stands.rdata in
      rw same (subst (λ n. NamesStand n octets (start + seen.head) (start + size)) at.counted
      (names_stand octets stands.fit (start + size) seen.pointers at.names (start + seen.head) at.after_names at.named (omega (arith, at.filled))))

  pub pieces_are : take (start + layout.head - start) (drop start octets) ++ written_at layout.names octets (start + layout.head) (start + size) ≡ rdata_from octets seen start size
  unfolding rdata_from
  pieces_are = rw same (ap (λ head. head ++ written_at seen.names octets (start + seen.head) (start + size)) (part_same octets start seen.head))

-- two lists are the same where what is left of them is
pub record LeaveIt (a b left other : List ℕ) : Type 0 where
  pub same : left ≡ other → a ≡ b
  pub only : a ≡ b → left ≡ other

-- so many octets, and what is behind them in a piece and behind it
cut : (n : ℕ) (piece rest : List ℕ) → piece ++ rest ≡ take n piece ++ (drop n piece ++ rest)
cut n piece rest = ap (λ xs. xs ++ rest) (sym (take-append-drop n piece)) ∙ append_assoc (take n piece) (drop n piece) rest

-- where a piece is empty, so is what is behind it
none_behind : (piece rest part after : List ℕ) → (piece ≡ [] → rest ≡ []) → (part ≡ [] → after ≡ []) → min (length piece) (length part) ≡ 0
    → Decides (nat_eq (length piece) (length part)) (piece ++ rest ≡ part ++ after)
none_behind [] rest [] after end ends none = (λ yes. end refl ∙ sym (ends refl), λ same. refl)
none_behind [] rest (y ∷ part) after end ends none = (λ yes. absurd (grind (arith, nat_tests, yes)), λ same. absurd (let no = end refl in cc))
none_behind (x ∷ piece) rest [] after end ends none = (λ yes. absurd (grind (arith, nat_tests, yes)), λ same. absurd (let no = ends refl in cc))
none_behind (x ∷ piece) rest (y ∷ part) after end ends none = absurd (omega (arith, none))

-- pieces of which so many octets are compared
module _ (a b left other piece rest part after : List ℕ) (so_far : LeaveIt a b left other) (own : left ≡ piece ++ rest) (others : other ≡ part ++ after) where
  pub none_left : (piece ≡ [] → rest ≡ []) → (part ≡ [] → after ≡ []) → min (length piece) (length part) ≡ 0 → Decides (nat_eq (length piece) (length part)) (a ≡ b)
  none_left end ends none =
      Decides-like (nat_eq (length piece) (length part)) (λ same. so_far.same (own ∙ same ∙ sym others)) (λ same. sym own ∙ so_far.only same ∙ others)
      (none_behind piece rest part after end ends none)

  module _ (n : ℕ) (is : n ≡ min (length piece) (length part)) where
    pub passed : false ≡ not (pointwise nat_eq (take n piece) (take n part)) → LeaveIt a b (take (length piece - n) (drop n piece) ++ rest) (take (length part - n) (drop n part) ++ after)
    passed answer =
        let front = (bytes_decides (take n piece) (take n part)).0 (true_from_not_false _ answer) in
        let on : LeaveIt a b (drop n piece ++ rest) (drop n part ++ after) = record {
          same = λ same. so_far.same (own ∙ cut n piece rest ∙ (λ i. front i ++ same i) ∙ sym (cut n part after) ∙ sym others);
          only = λ same.
              sym (drop-append-le n piece rest (omega (arith, is))) ∙ ap (drop n) (sym own ∙ so_far.only same ∙ others) ∙ drop-append-le n part after (omega (arith, is));
        } in
        rw (take_rest piece n, take_rest part n) on

    pub differ : true ≡ not (pointwise nat_eq (take n piece) (take n part)) → Decides false (a ≡ b)
    differ answer = (
      λ yes. absurd (false≢true yes),
      λ same. sym (answer ∙ ap not ((bytes_decides (take n piece) (take n part)).1
          (sym (take-append-le n piece rest (omega (arith, is))) ∙ ap (take n) (sym own ∙ so_far.only same ∙ others) ∙ take-append-le n part after (omega (arith, is))))),
    )
