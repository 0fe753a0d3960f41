-- What a line of a file of anchors says, by its fields.
use Rattle.std.proofs.Common.{◌≡◌, ◌<◌, ℕ, List, [], ◌∷◌, ◌++◌, length, drop, refl, sym, ap, ◌∙◌, arith, subst, codes, Option, Some, None}
use Rattle.std.proofs.lemmas.Bool.{false≢true}
use Rattle.std.specs.Int.{w16, to_be_bytes}
use Rattle.std.specs.Option.{IsSome}
use Rattle.base64.specs.Engines.{standard}
use Rattle.base64.specs.GeneralPurpose.{encode_of}
use Rattle.dnsv_names.specs.Lines.Base64Field.{IsBase64}
use Rattle.dnsv_names.specs.Lines.LineLaws.{AreFields-only}
use Rattle.dnsv_names.specs.Lines.{AreFields}
use Rattle.dnsv_names.specs.Name.{Labels, IsName}
use Rattle.dnsv_names.specs.Octets.{AreOctets}
use Rattle.dnsv_names.specs.PartLaws.{recursion-drop}
use Rattle.dnsv_names.specs.Text.{IsTextOf}
use Rattle.dnsv_records.specs.declared.ds.Ds.{Ds}
use Rattle.dnsv_anchors.specs.HexField.{hex_value}
use Rattle.dnsv_anchors.specs.AnchorFile.{IsAnchorLine, IsDnskeyText, IsDsText, IsNumber, SaysAnchor}
use Rattle.dnsv_anchors.specs.declared.anchor.Anchor.{Anchor}
use Rattle.dnsv_anchors.specs.declared.anchor.Anchor.TheVariants as anchor

sizes_differ : (x y : List ℕ) → length x ≡ 2 → length y ≡ 3 → x ≡ y → ⊥
sizes_differ x y two three e =
    let same : length x ≡ length y = ap (λ (text : List ℕ). length text) e in omega arith

-- the two words differ
pub DS-KEY : codes "DS" ≡ codes "KEY" → ⊥
DS-KEY e = sizes_differ (codes "DS") (codes "KEY") refl refl e

module _ (line word name first second third last : List ℕ) (are : AreFields line (word ∷ name ∷ first ∷ second ∷ third ∷ last ∷ [])) where
  says_by : (anchor : Anchor) → IsAnchorLine line anchor → SaysAnchor (word ∷ name ∷ first ∷ second ∷ third ∷ last ∷ []) anchor
  says_by anchor is =
      let Says : List (List ℕ) → Type 0 = λ fields. SaysAnchor fields anchor in
      subst Says (AreFields-only line is.fields (word ∷ name ∷ first ∷ second ∷ third ∷ last ∷ []) is.parted are) is.says

  pub no_name : ((labels : Labels) → IsName labels → IsTextOf name labels → ⊥) → (anchor : Anchor) → IsAnchorLine line anchor → ⊥
  no_name none (anchor.Ds owner ds) is =
      let says = says_by (anchor.Ds owner ds) is in none owner says.1.is_name says.1.spelling
  no_name none (anchor.Key owner rdata) is =
      let says = says_by (anchor.Key owner rdata) is in none owner says.1.is_name says.1.spelling

  pub no_word : (word ≡ codes "DS" → ⊥) → (word ≡ codes "KEY" → ⊥) → (anchor : Anchor) → IsAnchorLine line anchor → ⊥
  no_word no_ds no_key (anchor.Ds owner ds) is = no_ds (says_by (anchor.Ds owner ds) is).0
  no_word no_ds no_key (anchor.Key owner rdata) is = no_key (says_by (anchor.Key owner rdata) is).0

  pub no_ds : word ≡ codes "DS" → ((ds : Ds) → IsDsText first second third last ds → ⊥) → (anchor : Anchor) → IsAnchorLine line anchor → ⊥
  no_ds is_ds none (anchor.Ds owner ds) is = none ds (says_by (anchor.Ds owner ds) is).2
  no_ds is_ds none (anchor.Key owner rdata) is = DS-KEY (sym is_ds ∙ (says_by (anchor.Key owner rdata) is).0)

  pub no_key : word ≡ codes "KEY" → ((rdata : List ℕ) → IsDnskeyText first second third last rdata → ⊥) → (anchor : Anchor) → IsAnchorLine line anchor → ⊥
  no_key is_key none (anchor.Ds owner ds) is = DS-KEY (sym (says_by (anchor.Ds owner ds) is).0 ∙ is_key)
  no_key is_key none (anchor.Key owner rdata) is = none rdata (says_by (anchor.Key owner rdata) is).2

  pub ds_said : (owner : Labels) (ds : Ds) → word ≡ codes "DS" → IsName owner → IsTextOf name owner → IsDsText first second third last ds → IsAnchorLine line (anchor.Ds owner ds)
  ds_said owner ds is_ds is_name spelling is =
      record { fields = word ∷ name ∷ first ∷ second ∷ third ∷ last ∷ []; parted = are; says = (is_ds, record { is_name = is_name; spelling = spelling }, is) }

  pub key_said : (owner : Labels) (rdata : List ℕ) → word ≡ codes "KEY" → IsName owner → IsTextOf name owner → IsDnskeyText first second third last rdata → IsAnchorLine line (anchor.Key owner rdata)
  key_said owner rdata is_key is_name spelling is =
      record { fields = word ∷ name ∷ first ∷ second ∷ third ∷ last ∷ []; parted = are; says = (is_key, record { is_name = is_name; spelling = spelling }, is) }

  pub some_ds : (owner : Labels) → word ≡ codes "DS" → IsName owner → IsTextOf name owner → (ds : Ds) × IsDsText first second third last ds → (anchor : Anchor) × IsAnchorLine line anchor
  some_ds owner is_ds is_name spelling is = (anchor.Ds owner is.0, ds_said owner is.0 is_ds is_name spelling is.1)

  pub some_key : (owner : Labels) → word ≡ codes "KEY" → IsName owner → IsTextOf name owner → (rdata : List ℕ) × IsDnskeyText first second third last rdata → (anchor : Anchor) × IsAnchorLine line anchor
  some_key owner is_key is_name spelling is = (anchor.Key owner is.0, key_said owner is.0 is_key is_name spelling is.1)

-- ---- the fields of a DNSKEY record

-- the key of RDATA
pub key_octets : (rdata key : List ℕ) → AreOctets rdata → key ≡ drop 4 rdata → AreOctets key
key_octets rdata key are is = subst AreOctets (sym is) (recursion-drop (λ octet. octet < 256) 4 rdata are)

-- what is no base64 is no key
pub no_base64 : (flags protocol algorithm key : List ℕ) → (IsBase64 key → ⊥) → (rdata : List ℕ)
    → IsDnskeyText flags protocol algorithm key rdata → ⊥
no_base64 flags protocol algorithm key none rdata is =
    none (record { octets = is.dnskey.key; are = key_octets rdata is.dnskey.key is.octets is.is.key; coded = is.key_is })

-- the RDATA of these numbers and this key
pub dnskey_said : (flags protocol algorithm key : List ℕ) (f p a : ℕ) (octets rdata : List ℕ) → IsNumber flags f 65536
    → IsNumber protocol p 256 → IsNumber algorithm a 256 → AreOctets octets × (key ≡ encode_of standard octets)
    → rdata ≡ to_be_bytes w16 f ++ p ∷ a ∷ octets → IsDnskeyText flags protocol algorithm key rdata
dnskey_said flags protocol algorithm key f p a octets rdata flags_are protocol_is algorithm_is coded made =
    let fits_f = flags_are.fits in
    let fits_p = protocol_is.fits in
    let fits_a = algorithm_is.fits in
    let Says : List ℕ → Type 0 = λ rdata. IsDnskeyText flags protocol algorithm key rdata in
    subst Says (sym made) (record {
      octets = (omega arith, (omega arith, (fits_p, (fits_a, coded.0))));
      dnskey = record { flags = record { 0 = f }; protocol = p; algorithm = record { 0 = a }; key = octets };
      is = record { head = omega arith; flags = omega (arith, fits_f); protocol = omega arith; algorithm = omega arith; key = refl };
      flags_are = flags_are;
      protocol_is = protocol_is;
      algorithm_is = algorithm_is;
      key_is = coded.1;
    })

pub some_dnskey : (flags protocol algorithm key : List ℕ) (f p a : ℕ) → IsNumber flags f 65536 → IsNumber protocol p 256
    → IsNumber algorithm a 256 → IsBase64 key → (rdata : List ℕ) × IsDnskeyText flags protocol algorithm key rdata
some_dnskey flags protocol algorithm key f p a flags_are protocol_is algorithm_is is = (
  to_be_bytes w16 f ++ p ∷ a ∷ is.octets,
  dnskey_said flags protocol algorithm key f p a is.octets (to_be_bytes w16 f ++ p ∷ a ∷ is.octets) flags_are protocol_is algorithm_is (is.are, is.coded) refl,
)

-- ---- the fields of a DS record

module _ (key_tag algorithm digest_type digest : List ℕ) (t a d : ℕ) (key_tag_is : IsNumber key_tag t 65536) (algorithm_is : IsNumber algorithm a 256) (digest_type_is : IsNumber digest_type d 256) where
  ds_by_digest : (found : Option (List ℕ)) → hex_value digest ≡ found → IsSome found
      → (ds : Ds) × IsDsText key_tag algorithm digest_type digest ds
  ds_by_digest None value some = absurd (false≢true some)
  ds_by_digest (Some octets) value some = (
    record { key_tag = record { 0 = t }; algorithm = record { 0 = a }; digest_type = record { 0 = d }; digest = octets },
    record { key_tag_is = key_tag_is; algorithm_is = algorithm_is; digest_type_is = digest_type_is; digest_is = value },
  )

  pub some_ds_text : IsSome (hex_value digest) → (ds : Ds) × IsDsText key_tag algorithm digest_type digest ds
  some_ds_text some = ds_by_digest (hex_value digest) refl some
