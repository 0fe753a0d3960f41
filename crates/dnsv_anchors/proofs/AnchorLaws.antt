-- A text is at most one list of anchors, or has one first fault.
pub mod AnchorFileLemmas
pub mod AnchorLineLemmas
use Rattle.std.proofs.Common.{◌≡◌, ◌<◌, ◌≤◌, ◌^◌, ℕ, List, [], ◌∷◌, ◌++◌, length, drop, refl, sym, ap, ◌∙◌, arith, subst, Some, inl, inr, ⊎_elim, append_assoc, append-nil, length-append}
use Rattle.std.proofs.lemmas.Bool.{cases_lt}
use Rattle.std.proofs.lemmas.Fmt.{decimal_injective}
use Rattle.dnsv_names.proofs.LineFileLemmas.{SaysOrFails, values_or_fault}
use Rattle.dnsv_names.proofs.OneReading.{one_name}
use Rattle.dnsv_names.specs.Lines.LineFileLaws.{HasFirstFault-only, IsLineFile, SaysValues-no_fault, SaysValues-only}
use Rattle.dnsv_names.specs.Name.{Labels, IsName}
use Rattle.dnsv_names.specs.Text.{IsTextOf}
use Rattle.dnsv_names.specs.Lines.{NumberedLine}
use Rattle.dnsv_names.proofs.Base64Lemmas.{decoded}
use Rattle.dnsv_names.specs.Lines.LineLaws.{AreFields-only}
use Rattle.dnsv_names.specs.Octets.{AreOctets}
use Rattle.dnsv_records.proofs.OneRecord.{one_dnskey_spelling}
use Rattle.dnsv_records.specs.Dnskey.{IsDnskey}
use Rattle.dnsv_records.specs.declared.dnskey.Dnskey.{Dnskey}
use Rattle.dnsv_records.specs.declared.ds.Ds.{Ds}
use Rattle.dnsv_anchors.specs.HexField.{hex_value}
use Rattle.dnsv_anchors.specs.AnchorFile.{AreAnchorsOf, AreFew, IsAnchorLine, IsDnskeyText, IsDsText, IsFaultOf, IsFaultOfLine, IsNumber, SaysAnchor}
use Rattle.dnsv_anchors.specs.declared.anchor.Anchor.{Anchor}
use Rattle.dnsv_anchors.specs.declared.anchor.Anchor.TheVariants as anchor
use Rattle.dnsv_anchors.specs.declared.anchors.AnchorsError.{AnchorsError}
use Rattle.dnsv_anchors.specs.declared.anchors.AnchorsError.TheVariants.{OutOfMemory, Syntax, TooMany}
use Rattle.dnsv_anchors.proofs.AnchorLaws.AnchorLineLemmas.{DS-KEY, key_octets}

-- a text is the digits of one number
one_number : (text : List ℕ) (m n limit : ℕ) → limit ≤ 2 ^ 64 → IsNumber text m limit → IsNumber text n limit → m ≡ n
one_number text m n limit fits p q =
    decimal_injective m n (omega (arith, p.fits, fits)) (omega (arith, q.fits, fits)) (sym p.digits ∙ q.digits)

small : 256 ≤ 2 ^ 64
small = omega arith

large : 65536 ≤ 2 ^ 64
large = omega arith

one_digest : (text x y : List ℕ) → hex_value text ≡ Some x → hex_value text ≡ Some y → x ≡ y
one_digest text x y p q = cc

one_ds : (key_tag algorithm digest_type digest : List ℕ) (x y : Ds) → IsDsText key_tag algorithm digest_type digest x
    → IsDsText key_tag algorithm digest_type digest y → x ≡ y
one_ds key_tag algorithm digest_type digest x y p q = λ i. record {
  key_tag = record { 0 = one_number key_tag x.key_tag.0 y.key_tag.0 65536 large p.key_tag_is q.key_tag_is i };
  algorithm = record { 0 = one_number algorithm x.algorithm.0 y.algorithm.0 256 small p.algorithm_is q.algorithm_is i };
  digest_type = record { 0 = one_number digest_type x.digest_type.0 y.digest_type.0 256 small p.digest_type_is q.digest_type_is i };
  digest = one_digest digest x.digest y.digest p.digest_is q.digest_is i;
}

one_key : (flags protocol algorithm key x y : List ℕ) (p : IsDnskeyText flags protocol algorithm key x)
    (q : IsDnskeyText flags protocol algorithm key y) → p.dnskey ≡ q.dnskey
one_key flags protocol algorithm key x y p q =
    let flags_are = one_number flags p.dnskey.flags.0 q.dnskey.flags.0 65536 large p.flags_are q.flags_are in
    let protocol_is = one_number protocol p.dnskey.protocol q.dnskey.protocol 256 small p.protocol_is q.protocol_is in
    let algorithm_is = one_number algorithm p.dnskey.algorithm.0 q.dnskey.algorithm.0 256 small p.algorithm_is q.algorithm_is in
    let first = decoded p.dnskey.key key (key_octets x p.dnskey.key p.octets p.is.key) p.key_is in
    let second = decoded q.dnskey.key key (key_octets y q.dnskey.key q.octets q.is.key) q.key_is in
    let keys : p.dnskey.key ≡ q.dnskey.key = cc in
    λ i. record { flags = record { 0 = flags_are i }; protocol = protocol_is i; algorithm = record { 0 = algorithm_is i }; key = keys i }

one_dnskey : (flags protocol algorithm key x y : List ℕ) → IsDnskeyText flags protocol algorithm key x
    → IsDnskeyText flags protocol algorithm key y → x ≡ y
one_dnskey flags protocol algorithm key x y p q =
    let same = one_key flags protocol algorithm key x y p q in
    one_dnskey_spelling x y q.dnskey p.octets q.octets (subst (λ (dnskey : Dnskey). IsDnskey x dnskey) same p.is) q.is

one_said : (fields : List (List ℕ)) (x y : Anchor) → SaysAnchor fields x → SaysAnchor fields y → x ≡ y
one_said [] x y p q = absurd p
one_said (a ∷ []) x y p q = absurd p
one_said (a ∷ b ∷ []) x y p q = absurd p
one_said (a ∷ b ∷ c ∷ []) x y p q = absurd p
one_said (a ∷ b ∷ c ∷ d ∷ []) x y p q = absurd p
one_said (a ∷ b ∷ c ∷ d ∷ e ∷ []) x y p q = absurd p
one_said (a ∷ b ∷ c ∷ d ∷ e ∷ f ∷ []) (anchor.Ds m x) (anchor.Ds n y) p q =
    let names = one_name b m n p.1.is_name q.1.is_name p.1.spelling q.1.spelling in
    let records = one_ds c d e f x y p.2 q.2 in
    λ i. anchor.Ds (names i) (records i)
one_said (a ∷ b ∷ c ∷ d ∷ e ∷ f ∷ []) (anchor.Ds m x) (anchor.Key n y) p q = absurd (DS-KEY (sym p.0 ∙ q.0))
one_said (a ∷ b ∷ c ∷ d ∷ e ∷ f ∷ []) (anchor.Key m x) (anchor.Ds n y) p q = absurd (DS-KEY (sym q.0 ∙ p.0))
one_said (a ∷ b ∷ c ∷ d ∷ e ∷ f ∷ []) (anchor.Key m x) (anchor.Key n y) p q =
    let names = one_name b m n p.1.is_name q.1.is_name p.1.spelling q.1.spelling in
    let records = one_dnskey c d e f x y p.2 q.2 in
    λ i. anchor.Key (names i) (records i)
one_said (a ∷ b ∷ c ∷ d ∷ e ∷ f ∷ g ∷ fields) x y p q = absurd p

one_anchor : (line : List ℕ) (x y : Anchor) → IsAnchorLine line x → IsAnchorLine line y → x ≡ y
one_anchor line x y p q =
    let Says : List (List ℕ) → Type 0 = λ fields. SaysAnchor fields x in
    one_said q.fields x y (subst Says (AreFields-only line p.fields q.fields p.parted q.parted) p.says) q.says

-- no line of at most 64 anchors is faulty
no_fault : (line : NumberedLine) (before : List Anchor) (anchor : Anchor) (behind : List Anchor) → IsAnchorLine line.octets anchor
    → AreFew (before ++ anchor ∷ behind) → (fault : AnchorsError) → IsFaultOfLine fault line before → ⊥
no_fault line before anchor behind says few OutOfMemory there = there
no_fault line before anchor behind says few (Syntax number) there = there.1 anchor says
no_fault line before anchor behind says few (TooMany number) there =
    omega (arith, there.2, few, length-append before (anchor ∷ behind))

-- a line has one fault
one_fault : (line : NumberedLine) (before : List Anchor) (a b : AnchorsError) → IsFaultOfLine a line before
    → IsFaultOfLine b line before → a ≡ b
one_fault line before OutOfMemory b p q = absurd p
one_fault line before (Syntax m) (Syntax n) p q = ap (λ k. Syntax k) (p.0 ∙ sym q.0)
one_fault line before (Syntax m) (TooMany n) p q = absurd (p.1 q.1.0 q.1.1)
one_fault line before a OutOfMemory p q = absurd q
one_fault line before (TooMany m) (Syntax n) p q = absurd (q.1 p.1.0 p.1.1)
one_fault line before (TooMany m) (TooMany n) p q = ap (λ k. TooMany k) (p.0 ∙ sym q.0)

pub anchor_file : IsLineFile IsAnchorLine AreFew IsFaultOfLine
anchor_file = record { one_value = one_anchor; one_fault = one_fault; no_fault = no_fault }

-- a text is one list of anchors
pub AreAnchorsOf-only : (text : List ℕ) (a b : List Anchor) → AreAnchorsOf text a → AreAnchorsOf text b → a ≡ b
AreAnchorsOf-only text a b first second = SaysValues-only anchor_file text a b first second

-- a text of anchors has no fault
pub AreAnchorsOf-no_fault : (text : List ℕ) (anchors : List Anchor) (fault : AnchorsError)
    → AreAnchorsOf text anchors → IsFaultOf text fault → ⊥
AreAnchorsOf-no_fault text anchors fault are is = SaysValues-no_fault anchor_file text anchors fault are is

-- a text has one first fault
pub IsFaultOf-only : (text : List ℕ) (a b : AnchorsError) → IsFaultOf text a → IsFaultOf text b → a ≡ b
IsFaultOf-only text a b first second = HasFirstFault-only anchor_file text a b first second

-- ---- no text is neither

-- behind at most 64 anchors a line says one more that has room, or is at fault
anchor_or_fault : SaysOrFails IsAnchorLine AreFew IsFaultOfLine
anchor_or_fault = record {
  nothing = omega arith;
  next = λ line before few no_anchor at_fault. at_fault (Syntax line.number) (
    refl,
    λ anchor says. ⊎_elim
        (λ (room : length before < 64). no_anchor anchor says (omega (arith, room, length-append before (anchor ∷ []))))
        (λ (full : 64 ≤ length before). at_fault (TooMany line.number) (refl, (anchor, says), omega (arith, full, few)))
        (cases_lt (length before) 64),
  );
}

pub anchors_or_fault : (text : List ℕ) → ((anchors : List Anchor) → AreAnchorsOf text anchors → ⊥)
    → ((fault : AnchorsError) → IsFaultOf text fault → ⊥) → ⊥
anchors_or_fault text no_anchors no_fault = values_or_fault anchor_or_fault text no_anchors no_fault
