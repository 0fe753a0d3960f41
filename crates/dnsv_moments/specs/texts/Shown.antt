-- Border lines: what is shown of a signature that ends or begins.
use Rattle.std.specs.Prelude.{◌≡◌, ◌⊎◌, ℕ, List, [], ◌∷◌, ◌++◌, codes}
use Rattle.dnsv_records.specs.Rrsig.{IsRrsig}
use Rattle.dnsv_records.specs.declared.rrsig.Rrsig.{Rrsig}
use Rattle.dnsv_canonical.specs.Rrsets.{IsNumbered, ReceivedRrset}
use Rattle.dnsv_canonical.specs.declared.number.SignatureNumber.{SignatureNumber}
use Rattle.dnsv_lines.specs.Rows.{shown_fields}
use Rattle.dnsv_lines.specs.Sentence.{Number, SaidSentence, json_under, plain, plain_sentence, text_of_sentence, under}
use Rattle.dnsv_lines.specs.declared.line.fault.signature.ShownSignature.{ShownSignature}
use Rattle.dnsv_moments.specs.texts.Borders.{borders_of}
use Rattle.dnsv_moments.specs.declared.texts.borders.Border.{Border}
use Rattle.dnsv_moments.specs.declared.dated.DatedSignature.{DatedSignature}
use Rattle.dnsv_moments.specs.declared.texts.borders.Edge.{Edge}
use Rattle.dnsv_moments.specs.declared.texts.borders.Edge.TheVariants.{Begins, Ends}
use Rattle.dnsv_derivations.specs.Listing.{AreOfEach}
use Rattle.dnsv_moments.specs.Dated.{AreDated}
use Rattle.dnsv_moments.specs.declared.texts.shown.ShownBorder.{ShownBorder}

-- a signature of the RRset, with the number and what it names its key by
abbrev pub shown_of : SignatureNumber → ReceivedRrset → Rrsig → ShownSignature
shown_of number rrset rrsig = record {
  owner = rrset.owner;
  rtype = record { 0 = rrset.rtype };
  number = number;
  key = record { tag = rrsig.key_tag; algorithm = rrsig.algorithm };
  signer = rrsig.signer;
}

-- this is the signature with the number, as the evidence has it
pub record IsSignatureShown (rrsets : List ReceivedRrset) (number : SignatureNumber) (shown : ShownSignature) : Type 0 where
  pub rrset : ReceivedRrset
  pub is_rrset : IsNumbered rrsets number.rrset rrset
  pub rdata : List ℕ
  pub is_signature : IsNumbered rrset.signatures number.signature rdata
  pub rrsig : Rrsig
  pub read : IsRrsig rdata rrsig
  pub is : shown ≡ shown_of number rrset rrsig

pub record IsBorderShown (rrsets : List ReceivedRrset) (border : Border) (shown : ShownBorder) : Type 0 where
  pub same : shown.border ≡ border
  pub signature : IsSignatureShown rrsets border.signature.number shown.signature

-- that one, where the evidence has its signature
abbrev pub AreShownAs : List ReceivedRrset → Border → List ShownBorder → Type 0
AreShownAs rrsets border some =
    ((shown : ShownBorder) × IsBorderShown rrsets border shown × (some ≡ shown ∷ []))
    ⊎ (((shown : ShownBorder) → ¬ IsBorderShown rrsets border shown) × (some ≡ []))

-- what is shown in front of a stretch that begins at the moment, where the one before ends by the first signatures, and
-- it begins by the others
pub record AreBordersShown (rrsets : List ReceivedRrset) (before by : List SignatureNumber) (from : ℕ)
    (shown : List ShownBorder) : Type 0 where
  pub dated_before : List DatedSignature
  pub are_before : AreDated rrsets before dated_before
  pub dated_by : List DatedSignature
  pub are_by : AreDated rrsets by dated_by
  pub each : AreOfEach (AreShownAs rrsets) (borders_of dated_before dated_by from) shown

-- ---- the text

abbrev pub edge_word : Edge → List ℕ
edge_word Ends = codes "ends"
edge_word Begins = codes "begins"

-- the moment, the signature, and from when to when it is valid
abbrev pub border_row : ShownBorder → SaidSentence
border_row shown = plain_sentence (edge_word shown.border.edge) (
    plain (codes "moment") (Number shown.border.moment) ∷ (shown_fields shown.signature ++ (
    under (codes "from") (codes "inception") (Number shown.border.signature.times.inception.0)
    ∷ under (codes "to") (codes "expiration") (Number shown.border.signature.times.expiration.0) ∷ [])))

abbrev pub border_line : ShownBorder → List ℕ
border_line shown = text_of_sentence (border_row shown) ++ codes "\n"

abbrev pub border_json : ShownBorder → List ℕ
border_json shown = json_under (codes "edge") (border_row shown)
