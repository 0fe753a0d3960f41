-- A timeline has one text.
use Rattle.std.proofs.Common.{◌≡◌, ◌∙◌, ℕ, Bool, List, [], ◌∷◌, inl, inr, sym, ap, refl, subst}
use Rattle.dnsv_names.specs.Name.{Labels}
use Rattle.dnsv_canonical.specs.Rrsets.{ReceivedRrset}
use Rattle.dnsv_canonical.specs.declared.number.SignatureNumber.{SignatureNumber}
use Rattle.dnsv_lines.specs.declared.line.fault.signature.ShownSignature.{ShownSignature}
use Rattle.dnsv_moments.specs.texts.Borders.{borders_of}
use Rattle.dnsv_moments.specs.declared.texts.borders.Border.{Border}
use Rattle.dnsv_timeline.specs.declared.stretch.Stretch.{Stretch}
use Rattle.dnsv_questions.specs.declared.format.Format.{Format}
use Rattle.dnsv_derivations.proofs.lemmas.one.TrustedLemmas.{one_signature_at}
use Rattle.dnsv_derivations.proofs.lemmas.OneListLemmas.{IsOneList, one_of_each}
use Rattle.dnsv_derivations.specs.Listing.{AreOfEach}
use Rattle.dnsv_moments.specs.validity.Said.{Said}
use Rattle.dnsv_moments.proofs.DatedLemmas.{one_dated}
use Rattle.dnsv_moments.specs.texts.Pieces.{ArePieces, GoOn, Piece, begun, longer}
use Rattle.dnsv_moments.specs.texts.Shown.{AreBordersShown, AreShownAs, IsBorderShown, IsSignatureShown, shown_of}
use Rattle.dnsv_moments.specs.texts.Text.{IsTimelineText, pieces_text}
use Rattle.dnsv_moments.specs.declared.texts.shown.ShownBorder.{ShownBorder}

module _ (rrsets : List ReceivedRrset) where
  -- ---- borders

  one_signature_shown : (number : SignatureNumber) (a b : ShownSignature) → IsSignatureShown rrsets number a → IsSignatureShown rrsets number b
      → a ≡ b
  one_signature_shown number a b x y =
      let same = one_signature_at rrsets number number x.rrset y.rrset x.rdata y.rdata x.rrsig y.rrsig refl
      (x.is_rrset, x.is_signature, x.read) (y.is_rrset, y.is_signature, y.read) in
      let shown : shown_of number x.rrset x.rrsig ≡ shown_of number y.rrset y.rrsig = λ i. shown_of number (same.0 i) (same.1 i) in
      x.is ∙ shown ∙ sym y.is

  one_border_shown : (border : Border) (a b : ShownBorder) → IsBorderShown rrsets border a → IsBorderShown rrsets border b → a ≡ b
  one_border_shown border a b x y =
      let borders : a.border ≡ b.border = x.same ∙ sym y.same in
      let signatures : a.signature ≡ b.signature =
      one_signature_shown border.signature.number a.signature b.signature x.signature y.signature in
      λ i. record { border = borders i; signature = signatures i }

  one_shown_as : (border : Border) → IsOneList (AreShownAs rrsets border)
  one_shown_as border a b (inl x) (inl y) =
      x.2 ∙ ap (λ (each : ShownBorder). each ∷ []) (one_border_shown border x.0 y.0 x.1 y.1) ∙ sym y.2
  one_shown_as border a b (inl x) (inr y) = absurd (y.0 x.0 x.1)
  one_shown_as border a b (inr x) (inl y) = absurd (x.0 y.0 y.1)
  one_shown_as border a b (inr x) (inr y) = x.1 ∙ sym y.1

  one_borders : (before by : List SignatureNumber) (from : ℕ) → IsOneList (AreBordersShown rrsets before by from)
  one_borders before by from a b x y =
      let ends : x.dated_before ≡ y.dated_before = one_dated rrsets before x.dated_before y.dated_before x.are_before y.are_before in
      let begins : x.dated_by ≡ y.dated_by = one_dated rrsets by x.dated_by y.dated_by x.are_by y.are_by in
      let borders : borders_of x.dated_before x.dated_by from ≡ borders_of y.dated_before y.dated_by from =
      λ i. borders_of (ends i) (begins i) from in
      let Of : List Border → Type 0 = λ each. AreOfEach (AreShownAs rrsets) each a in
      one_of_each (AreShownAs rrsets) one_shown_as (borders_of y.dated_before y.dated_by from) a b (subst Of borders x.each) y.each

  -- ---- intervals

  one_going_on : (kinds : Bool) (piece : Piece) (stretches : List (Stretch Said)) → IsOneList (GoOn rrsets kinds piece stretches)
  one_going_on kinds piece [] a b x y = x ∙ sym y
  one_going_on kinds piece (stretch ∷ stretches) a b (inl x) (inl y) =
      one_going_on kinds (longer piece stretch) stretches a b x.1 y.1
  one_going_on kinds piece (stretch ∷ stretches) a b (inl x) (inr y) = absurd (y.0 x.0)
  one_going_on kinds piece (stretch ∷ stretches) a b (inr x) (inl y) = absurd (x.0 y.0)
  one_going_on kinds piece (stretch ∷ stretches) a b (inr (apart, (borders, shown, (others, on, is)))) (inr (_, (edges, told, (rest, goes, same)))) =
      let one : borders ≡ edges = one_borders piece.last.by stretch.said.by stretch.from borders edges shown told in
      let On : List ShownBorder → Type 0 = λ each. GoOn rrsets kinds (begun each stretch) stretches others in
      let behind : others ≡ rest = one_going_on kinds (begun edges stretch) stretches others rest (subst On one on) goes in
      is ∙ ap (λ (pieces : List Piece). piece ∷ pieces) behind ∙ sym same

  one_pieces : (kinds : Bool) (stretches : List (Stretch Said)) → IsOneList (ArePieces rrsets kinds stretches)
  one_pieces kinds [] a b x y = x ∙ sym y
  one_pieces kinds (stretch ∷ stretches) a b x y = one_going_on kinds (begun [] stretch) stretches a b x y

pub one_timeline_text : (format : Format) (kinds : Bool) (rrsets : List ReceivedRrset) (name : Labels) (t from to : ℕ)
    (stretches : List (Stretch Said)) (a b : List ℕ) → IsTimelineText format kinds rrsets name t from to stretches a
    → IsTimelineText format kinds rrsets name t from to stretches b → a ≡ b
one_timeline_text format kinds rrsets name t from to stretches a b x y =
    x.is ∙ ap (λ (pieces : List Piece). pieces_text format kinds name t from to pieces)
    (one_pieces rrsets kinds stretches x.pieces y.pieces x.are y.are) ∙ sym y.is
