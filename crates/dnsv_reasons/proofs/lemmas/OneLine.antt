-- What is told is said by one line, and a list of it by one list of lines.
use Rattle.std.proofs.Common.{◌≡◌, ℕ, inl, inr, List, [], ◌∷◌, Option, Some, None, sym, ap, ap₂, subst, ◌∙◌}
use Rattle.dnsv_names.specs.Name.{Labels}
use Rattle.dnsv_canonical.specs.Rrsets.{ReceivedRrset}
use Rattle.dnsv_canonical.proofs.NumberLemmas.{one_numbered}
use Rattle.dnsv_lines.specs.declared.line.Line.{Line}
use Rattle.dnsv_lines.specs.declared.line.Line.TheVariants as line
use Rattle.dnsv_lines.specs.declared.line.derivation.KeyName.{KeyName}
use Rattle.dnsv_lines.specs.declared.line.fault.Reason.TheVariants as reason
use Rattle.dnsv_lines.specs.declared.line.fault.denial.Source.{Source}
use Rattle.dnsv_lines.specs.declared.line.fault.signature.ShownSignature.{ShownSignature}
use Rattle.dnsv_lines.specs.declared.line.fault.zone.Entry.{Entry}
use Rattle.dnsv_mending.specs.declared.told.Told.{Told}
use Rattle.dnsv_mending.specs.declared.told.Told.TheVariants as told
use Rattle.dnsv_gaps.specs.Asking.{Asking}
use Rattle.dnsv_reasons.specs.Lines.{AreSaidLines, IsDnameLine, IsSaidLine, IsZoneTold}
use Rattle.dnsv_trust_reasons.specs.TrustLines.{IsTrustLine}
use Rattle.dnsv_trust_reasons.specs.Places.{IsKeyAt}
use Rattle.dnsv_remedies.specs.declared.said.Said.{Said}
use Rattle.dnsv_remedies.specs.declared.said.Said.TheVariants as told_of
use Rattle.dnsv_reasons.proofs.lemmas.OnePlace.{one_above, one_asked, one_entry, one_key, one_shown, one_source}

module _ (a : Asking) where
  -- ---- what keeps a zone from being trusted, or an RRset from being signed

  pub one_trust_line : (each : Told) (x y : Line) → IsTrustLine a.basis a.name each x → IsTrustLine a.basis a.name each y → x ≡ y
  one_trust_line (told.Zone why n) x y p q =
      p.2 ∙ ap (λ (zone : Labels). line.Reason (reason.Zone (record { why = why; zone = zone }))) (one_above a.name n p.0 q.0 p.1 q.1)
      ∙ sym q.2
  one_trust_line (told.Entry why n) x y p q =
      p.2
      ∙ ap (λ (entry : Entry). line.Reason (reason.Entry (record { why = why; entry = entry })))
      (one_entry a.basis.rrsets a.basis.anchors n p.0 q.0 p.1 q.1) ∙ sym q.2
  one_trust_line (told.NotSelfSigned n) x y p q =
      let sets : p.0 ≡ q.0 = one_numbered a.basis.rrsets n.rrset p.0 q.0 p.2 q.2 in
      let key : p.1 ≡ q.1 = one_key q.0 n.place p.1 q.1 (subst (λ (set : ReceivedRrset). IsKeyAt set n.place p.1) sets p.3) q.3 in
      p.4
      ∙ ap₂ (λ (set : ReceivedRrset) (each : KeyName).
      line.Reason (reason.NotSelfSigned (record { zone = set.owner; rrset = n.rrset; key = each }))) sets key
      ∙ sym q.4
  one_trust_line (told.NotVouched k) x y p q =
      p.2
      ∙ ap (λ (set : ReceivedRrset). line.Reason (reason.NotVouched (record { zone = set.owner; rrset = k })))
      (one_numbered a.basis.rrsets k p.0 q.0 p.1 q.1)
      ∙ sym q.2
  one_trust_line (told.Unsigned k) x y p q =
      p.2
      ∙ ap (λ (rrset : ReceivedRrset).
      line.Reason (reason.Unsigned (record { owner = rrset.owner; rtype = record { 0 = rrset.rtype }; rrset = k })))
      (one_numbered a.basis.rrsets k p.0 q.0 p.1 q.1)
      ∙ sym q.2
  one_trust_line (told.Signature why n) x y p q =
      p.2
      ∙ ap (λ (shown : ShownSignature). line.Reason (reason.Signature (record { why = why; signature = shown })))
      (one_shown a.basis.rrsets n p.0 q.0 p.1 q.1)
      ∙ sym q.2
  one_trust_line (told.Follows n) x y p q =
      p.2 ∙ ap (λ (shown : ShownSignature). line.Follows (record { signature = shown })) (one_shown a.basis.rrsets n p.0 q.0 p.1 q.1)
      ∙ sym q.2

  -- ---- what keeps the question from being answered or denied

  one_dname_line : (n k : ℕ) (place : Option ℕ) (x y : Line) → IsDnameLine a n k place x → IsDnameLine a n k place y → x ≡ y
  one_dname_line n k place x y p q =
      p.2
      ∙ ap (λ (name : Labels). line.Reason (reason.Dname (record { name = name; rrset = k; place = place })))
      (one_above a.name n p.0 q.0 p.1 q.1)
      ∙ sym q.2

  one_zone : (n : Option ℕ) (x y : Option Labels) → IsZoneTold a n x → IsZoneTold a n y → x ≡ y
  one_zone None x y p q = p ∙ sym q
  one_zone (Some n) x y p q = p.2 ∙ ap (λ (zone : Labels). Some zone) (one_above a.name n p.0 q.0 p.1 q.1) ∙ sym q.2

  pub one_said_line : (each : Said) (x y : Line) → IsSaidLine a each x → IsSaidLine a each y → x ≡ y
  one_said_line (told_of.Trust each) x y p q = one_trust_line each x y p q
  one_said_line (told_of.NoCloser number n) x y p q =
      p.4
      ∙ ap₂ (λ (name : Labels) (shown : ShownSignature). line.Reason (reason.NoCloser (record { signature = shown; name = name })))
      (one_above a.name n p.0 q.0 p.2 q.2) (one_shown a.basis.rrsets number p.1 q.1 p.3 q.3)
      ∙ sym q.4
  one_said_line (told_of.Dname above) x y p q = one_dname_line above.labels above.rrset None x y p q
  one_said_line (told_of.DnameHeld n number) x y p q = one_dname_line n number.rrset (Some number.place) x y p q
  one_said_line (told_of.Nsec3 why number) x y p q =
      p.2
      ∙ ap (λ (rrset : ReceivedRrset). line.Reason (reason.Nsec3 (record { why = why; owner = rrset.owner; number = number })))
      (one_numbered a.basis.rrsets number.rrset p.0 q.0 p.1 q.1)
      ∙ sym q.2
  one_said_line (told_of.Source why number asked) x y p q =
      p.4
      ∙ ap₂ (λ (source : Source) (name : Labels). line.Reason (reason.Source (record { why = why; source = source; name = name })))
      (one_source a number p.0 q.0 p.2 q.2) (one_asked a.name asked p.1 q.1 p.3 q.3)
      ∙ sym q.4
  one_said_line (told_of.AnswerMissing n) x y p q =
      p.2
      ∙ ap (λ (zone : Option Labels).
      line.Reason (reason.AnswerMissing (record { name = a.name; rtype = record { 0 = a.rtype }; zone = zone })))
      (one_zone n p.0 q.0 p.1 q.1)
      ∙ sym q.2
  one_said_line (told_of.DenialUnproved n) x y p q =
      p.2
      ∙ ap (λ (zone : Labels). line.Reason (reason.DenialUnproved (record { name = a.name; rtype = record { 0 = a.rtype }; zone = zone })))
      (one_above a.name n p.0 q.0 p.1 q.1)
      ∙ sym q.2
  one_said_line (told_of.DsUnproved cut) x y p q =
      p.4
      ∙ ap₂ (λ (name zone : Labels). line.Reason (reason.DsUnproved (record { name = name; zone = zone })))
      (one_above a.name cut.name p.0 q.0 p.2 q.2) (one_above a.name cut.zone p.1 q.1 p.3 q.3)
      ∙ sym q.4

  -- ---- the lines

  pub one_said_list : (each : List Said) (xs ys : List Line) → AreSaidLines a each xs → AreSaidLines a each ys → xs ≡ ys
  one_said_list [] xs ys p q = p ∙ sym q
  one_said_list (said ∷ others) xs ys (inl p) (inl q) =
      p.4
      ∙ ap₂ (λ (first : Line) (rest : List Line). first ∷ rest) (one_said_line said p.0 q.0 p.2 q.2)
      (one_said_list others p.1 q.1 p.3 q.3) ∙ sym q.4
  one_said_list (said ∷ others) xs ys (inl p) (inr q) = absurd (q.0 p.0 p.2)
  one_said_list (said ∷ others) xs ys (inr p) (inl q) = absurd (p.0 q.0 q.2)
  one_said_list (said ∷ others) xs ys (inr p) (inr q) = one_said_list others xs ys p.1 q.1
