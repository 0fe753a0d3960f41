-- Each signer that is told as untrusted has a reason among the lines.
use Rattle.std.proofs.Common.{◌≡◌, ◌⊎◌, inl, inr, ⊎_elim, suc, Bool, true, false, List, [], ◌∷◌, refl, sym, ap, ◌∙◌, subst, arith}
use Rattle.std.proofs.lemmas.Bool.{false≢true}
use Rattle.std.proofs.lemmas.Option.{same_Some}
use Rattle.std.specs.Prelude.{Contains}
use Rattle.std.specs.List.{AllByRecursion}
use Rattle.dnsv_names.specs.Name.{SameName, rightmost}
use Rattle.dnsv_names.specs.Tree.AncestorLaws.{rightmost_in_line}
use Rattle.dnsv_names.specs.Tree.TreeLaws.{at_or_below_respects}
use Rattle.dnsv_canonical.specs.Rdata.{IsWellFormed}
use Rattle.dnsv_canonical.specs.Rrsets.{ReceivedRrset}
use Rattle.dnsv_canonical.specs.declared.number.SignatureNumber.{SignatureNumber}
use Rattle.dnsv_chain.specs.Trusted as chain
use Rattle.dnsv_chain.proofs.TrustedLemmas.{trusted_among, trusted_rtype}
use Rattle.dnsv_chain.specs.Basis.{HasAnchor}
use Rattle.dnsv_lines.specs.declared.line.Line.{Line}
use Rattle.dnsv_lines.specs.declared.line.Line.TheVariants as line
use Rattle.dnsv_lines.specs.declared.line.fault.signature.ShownSignature.{ShownSignature}
use Rattle.dnsv_lines.specs.declared.line.fault.signature.UntrustedSigner.{UntrustedSigner}
use Rattle.dnsv_mending.specs.Ways.{IsAmong}
use Rattle.dnsv_mending.specs.Zone.{is_zone_trusted, levels_of}
use Rattle.dnsv_mending.specs.declared.facts.zone.ZoneFacts.{ZoneFacts}
use Rattle.dnsv_mending.specs.declared.told.Told.{Told}
use Rattle.dnsv_mending.specs.declared.told.Told.TheVariants as told
use Rattle.dnsv_remedies.specs.Question.{all_lines, lines_told, question_remedy}
use Rattle.dnsv_remedies.specs.Said.{is_reason}
use Rattle.dnsv_remedies.specs.declared.facts.question.QuestionFacts.{QuestionFacts}
use Rattle.dnsv_remedies.specs.declared.said.Said.{Said}
use Rattle.dnsv_remedies.specs.declared.said.Said.TheVariants as said
use Rattle.dnsv_remedies.proofs.Once.{each_told, only_told, unanchored_reasons}
use Rattle.dnsv_zone_faults.proofs.lemmas.zones.ClosedLemmas.{off_by}
use Rattle.dnsv_zone_faults.proofs.lemmas.zones.TrustLemmas.{number_of}
use Rattle.dnsv_zone_faults.proofs.lemmas.zones.WholeLemmas.{whole}
use Rattle.dnsv_zone_faults.proofs.lemmas.zones.MatchLemmas.{first_or_later}
use Rattle.dnsv_canonical.proofs.NumberLemmas.{one_numbered}
use Rattle.dnsv_gaps.specs.Asking.{Asking}
use Rattle.dnsv_reasons.specs.Failures.{AreFailures}
use Rattle.dnsv_reasons.specs.Lines.{AreSaidLines, IsSaidLine}
use Rattle.dnsv_trust_reasons.specs.TrustLines.{IsTrustLine}
use Rattle.dnsv_trust_reasons.specs.Places.{IsShown}
use Rattle.dnsv_true_reasons.specs.Ends.{IsExplained}
use Rattle.dnsv_true_reasons.proofs.untrusted.EndsFacts.{question_by}
use Rattle.dnsv_true_reasons.proofs.untrusted.EndsNames.{By, SaidOf, ds_by_signer, says_of}
use Rattle.dnsv_true_reasons.proofs.untrusted.EndsQuestion.{lines_end}
use Rattle.dnsv_true_reasons.proofs.untrusted.EndsZones.{levels_end}
use Rattle.dnsv_true_reasons.proofs.QuestionNames.{HasLine}
use Rattle.dnsv_true_reasons.proofs.telling.Says.{all_among}
use Rattle.dnsv_true_reasons.proofs.Told.{all_said}
use Rattle.dnsv_true_reasons.proofs.Whole.{trusted_zone}

later : {X : Type 0} (x y : X) (xs : List X) → Contains xs y → Contains (x ∷ xs) y
later x y xs (k, within, is) = (suc k, omega (arith, within), is)

module _ (a : Asking) where
  -- ---- lines and what is told

  line_told : (ts : List Said) (lines : List Line) (found : Line) → AreSaidLines a ts lines → Contains lines found → (t : Said) × IsAmong t ts × IsSaidLine a t found
  line_told [] lines found said there = absurd (let none = subst (λ (each : List Line). Contains each found) said there in let within = none.1 in omega (arith, within))
  line_told (t ∷ ts) lines found (inl (first, rest, is, others, same)) there = ⊎_elim
      (λ (e : first ≡ found). (t, inl refl, subst (λ (x : Line). IsSaidLine a t x) e is))
      (λ (e : Contains rest found). let more = line_told ts rest found others e in (more.0, inr more.1, more.2))
      (first_or_later first rest found (subst (λ (each : List Line). Contains each found) same there))
  line_told (t ∷ ts) lines found (inr (none, others)) there = let more = line_told ts lines found others there in (more.0, inr more.1, more.2)

  told_line : (ts : List Said) (lines : List Line) (t : Said) → AreSaidLines a ts lines → AllByRecursion (HasLine a) ts → IsAmong t ts
      → (found : Line) × Contains lines found × IsSaidLine a t found
  told_line [] lines t said all among = absurd among
  told_line (x ∷ ts) lines t (inl (first, rest, is, others, same)) all among = ⊎_elim
      (λ (e : t ≡ x). (first, subst (λ (each : List Line). Contains each first) (sym same) (0, omega arith, refl), subst (λ (y : Said). IsSaidLine a y first) (sym e) is))
      (λ (e : IsAmong t ts).
      let more = told_line ts rest t others all.1 e in
      (more.0, subst (λ (each : List Line). Contains each more.0) (sym same) (later first more.0 rest more.1), more.2)) among
  told_line (x ∷ ts) lines t (inr (none, others)) all among = absurd (none all.0.0 all.0.1)

  -- a line that a signer isn't trusted says just that
  trust_follows : (t : Told) (u : UntrustedSigner) → IsTrustLine a.basis a.name t (line.Follows u) → (k : SignatureNumber) × (t ≡ told.Follows k) × IsShown a.basis.rrsets k u.signature
  trust_follows (told.NotSelfSigned n) u by = absurd (let e = by.4 in cc e)
  trust_follows (told.Follows k) u by =
      let e = by.2 in
      let one : u ≡ record { signature = by.0 } = cc e in
      (k, refl, subst (λ (x : ShownSignature). IsShown a.basis.rrsets k x) (sym (ap (λ (x : UntrustedSigner). x.signature) one)) by.1)
  trust_follows t u by = absurd (let e = by.2 in cc e)

  follows_of : (t : Said) (u : UntrustedSigner) → IsSaidLine a t (line.Follows u) → (k : SignatureNumber) × (t ≡ said.Trust (told.Follows k)) × IsShown a.basis.rrsets k u.signature
  follows_of (said.Trust t) u by = let of = trust_follows t u by in (of.0, ap said.Trust of.1, of.2)
  follows_of (said.NoCloser n c) u by = absurd (let e = by.4 in cc e)
  follows_of (said.Source why n x) u by = absurd (let e = by.4 in cc e)
  follows_of (said.DsUnproved c) u by = absurd (let e = by.4 in cc e)
  follows_of t u by = absurd (let e = by.2 in cc e)

  -- ---- signers

  -- without an anchor none is told
  none_without : (q : QuestionFacts) (told_of : List Said) (k : SignatureNumber) (zones : List ZoneFacts)
      → told_of ≡ lines_told q (question_remedy (levels_of q.is_anchored zones) q) → IsAmong (said.Trust (told.Follows k)) told_of → q.is_anchored ≡ false → ⊥
  none_without q told_of k zones are among off =
      let m = question_remedy (levels_of q.is_anchored zones) q in
      let here = subst (λ (all : List Said). IsAmong (said.Trust (told.Follows k)) all) are among in
      false≢true (all_among (λ (x : Said). is_reason x ≡ true) (lines_told q m) (said.Trust (told.Follows k)) (unanchored_reasons q m off) here)

  on_or_off : (b : Bool) → (b ≡ true) ⊎ (b ≡ false)
  on_or_off true = inl refl
  on_or_off false = inr refl

  module _ (lines : List Line) (fails : AreFailures a lines) (u : UntrustedSigner) (there : Contains lines (line.Follows u)) where
    is_told : (k : SignatureNumber) × IsAmong (said.Trust (told.Follows k)) fails.told × IsShown a.basis.rrsets k u.signature
    is_told =
        let at = line_told fails.told lines (line.Follows u) fails.said there in
        let of = follows_of at.0 u at.2 in
        (of.0, subst (λ (t : Said). IsAmong t fails.told) of.1 at.1, of.2)

    pub none_unanchored : ¬ HasAnchor a.basis.anchors a.name → ⊥
    none_unanchored none =
        let told = fails.are_told in
        let off = off_by told.question.is_anchored (λ yes. none (told.of_question.is_anchored.0 yes)) in
        none_without told.question fails.told is_told.0 told.zones told.are is_told.1 off

    anchored : fails.are_told.question.is_anchored ≡ true
    anchored = ⊎_elim
        (λ (on : fails.are_told.question.is_anchored ≡ true). on)
        (λ (off : fails.are_told.question.is_anchored ≡ false).
        absurd (none_without fails.are_told.question fails.told is_told.0 fails.are_told.zones fails.are_told.are is_told.1 off))
        (on_or_off fails.are_told.question.is_anchored)

    pub explained : AllByRecursion IsWellFormed a.basis.rrsets → IsExplained a lines u.signature.signer
    explained formed =
        let of = fails.are_told in
        let zones = of.zones in
        let q = of.question in
        let of_zones = of.of_zones in
        let of_q = of.of_question in
        let k = is_told.0 in
        let closed = whole a.basis a.name a.rtype zones of_zones in
        let good = levels_end zones closed (SaidOf a) (By a) (says_of a zones of_zones) (ds_by_signer a zones of_zones formed) in
        let its = question_by a zones of_zones q of_q in
        let m = question_remedy (levels_of q.is_anchored zones) q in
        let same : all_lines q m ≡ all_lines q (question_remedy (levels_of true zones) q) =
        ap (λ (b : Bool). all_lines q (question_remedy (levels_of b zones) q)) anchored in
        let among = only_told q m (said.Trust (told.Follows k)) anchored (subst (λ (all : List Said). IsAmong (said.Trust (told.Follows k)) all) of.are is_told.1) in
        let end = lines_end zones (SaidOf a) (By a) good q its k (subst (λ (all : List Said). IsAmong (said.Trust (told.Follows k)) all) same among) in
        let back = each_told q m (said.Trust end.t) anchored (subst (λ (all : List Said). IsAmong (said.Trust end.t) all) (sym same) end.there) in
        let all : AllByRecursion (HasLine a) fails.told = subst (λ (ts : List Said). AllByRecursion (HasLine a) ts) (sym of.are) (all_said a zones q of_zones of_q anchored) in
        let shown = told_line fails.told lines (said.Trust end.t) fails.said all (subst (λ (ts : List Said). IsAmong (said.Trust end.t) ts) (sym of.are) back) in
        let reason = end.said_of shown.0 shown.2 in
        let signer : SameName u.signature.signer (rightmost a.name end.c) = end.by u.signature is_told.2 in
        record {
          untrusted = λ trusted.
              let set = trusted.0 in
              let listed = number_of a.basis.rrsets set (trusted_among trusted.1) in
              let zone = trusted_zone a zones of_zones end.c end.untrusted.0 listed.0 set end.untrusted.1 listed.1 (trusted.2 ∙ signer) (trusted_rtype trusted.1)
              (λ r its_facts. its_facts.trusted.1 (subst (λ (x : ReceivedRrset). chain.IsTrusted a.basis.meaning a.basis.moment a.basis.rrsets a.basis.anchors x)
              (one_numbered a.basis.rrsets listed.0 set its_facts.set listed.1 its_facts.numbered) trusted.1)) in
              let one : end.untrusted.0 ≡ zone.z = same_Some end.untrusted.0 zone.z (sym end.untrusted.1 ∙ zone.is) in
              false≢true (sym (subst (λ (z : ZoneFacts). is_zone_trusted z ≡ false) one end.untrusted.2) ∙ zone.trusted);
          reason = reason.0;
          told = subst (λ (x : Line). Contains lines x) reason.1 shown.1;
          above = rightmost a.name end.d;
          is = at_or_below_respects (rightmost a.name end.c) u.signature.signer (rightmost a.name end.d) (rightmost a.name end.d) (sym signer) refl
              (rightmost_in_line a.name end.c end.d end.within);
          said = reason.2;
        }
