-- Each proof needs the parts of its form.
use Rattle.std.proofs.Common.{◌≡◌, ◌∙◌, ◌+◌, ℕ, List, Option, Some, None, length, arith, sym, ap, subst, ⊎_elim}
use Rattle.std.specs.List.{Contains}
use Rattle.dnsv_names.specs.Name.{Labels, SameName, lower_case, rightmost}
use Rattle.dnsv_names.specs.Tree.{wildcard_of}
use Rattle.dnsv_names.specs.Tree.AncestorLaws.{rightmost_length, wildcard_respects}
use Rattle.dnsv_names.specs.Tree.TreeLaws.{same_labels}
use Rattle.dnsv_zones.specs.forms.Forms.{EndsAt}
use Rattle.dnsv_zones.specs.forms.RecordWords.{RecordWords, words}
use Rattle.dnsv_canonical.specs.declared.number.RecordNumber.{RecordNumber}
use Rattle.dnsv_denial.specs.gathering.EvidenceWords.{Chain}
use Rattle.dnsv_derivations.specs.Denials.{SameEncloser, number_told}
use Rattle.dnsv_derivations.specs.Explained.{Setting}
use Rattle.dnsv_lines.specs.declared.line.Line.{Line}
use Rattle.dnsv_lines.specs.declared.line.Line.TheVariants as line
use Rattle.dnsv_lines.specs.declared.line.denial.Form.{Form}
use Rattle.dnsv_lines.specs.declared.line.denial.Form.TheVariants as form
use Rattle.dnsv_lines.specs.declared.line.denial.Part.{Part}
use Rattle.dnsv_lines.specs.declared.line.denial.Proof.{Proof}
use Rattle.dnsv_lines.specs.declared.line.denial.Relation.{Relation}
use Rattle.dnsv_lines.specs.declared.line.denial.Relation.TheVariants as relation
use Rattle.dnsv_lines.specs.declared.line.denial.Role.{Role}
use Rattle.dnsv_rules.specs.Checked.{Asked, Checks, DeniesAsked, DeniesIf, StandsFor}
use Rattle.dnsv_rules.specs.Planted.{HoldsType, NeedsEncloser, ShowsNode}
use Rattle.dnsv_rules.specs.Told.{IsShownGood, IsTold, shown_said, told_words}
use Rattle.dnsv_rules.proofs.needs.RecordLemmas.{never_held}

module _ (setting : Setting) (asked : Asked) (lines : List Line) (zone : Labels) (chain : Chain) where
  abbrev told : RecordWords RecordNumber
  told = told_words (shown_said setting.rrsets lines zone chain) lines

  -- a form that needs a closest encloser ends the search somewhere
  record Ends (encloser : Option Labels) : Type 0 where
    labels : ℕ
    ends : EndsAt (words told) zone asked.name labels
    same : SameEncloser encloser (Some (rightmost asked.name labels))

  ends_of : (which : Form) (encloser : Option Labels) → NeedsEncloser which → StandsFor which asked zone encloser told → Ends encloser
  ends_of form.NoName encloser needs (stands, same) = record { labels = stands.labels; ends = stands.ends; same = same }
  ends_of form.NoData3 encloser needs (stands, same) = record { labels = stands.labels; ends = stands.ends; same = same }
  ends_of form.NoData4 encloser needs (stands, same) = record { labels = stands.labels; ends = stands.ends; same = same }
  ends_of other encloser needs stands = absurd needs

  -- that is the encloser with the name
  same_encloser : (encloser : Option Labels) (name other : Labels) → encloser ≡ Some name → SameEncloser encloser (Some other) → SameName name other
  same_encloser encloser name other is same = let Same : Option Labels → Type 0 = λ each. SameEncloser each (Some other) in subst Same is same

module _ (setting : Setting) (asked : Asked) (lines : List Line) (proof : Proof) (checks : Checks setting asked lines)
    (there : Contains lines (line.Proof proof)) where
  abbrev its_zone : Labels
  its_zone = proof.zone

  -- the part that denies the wildcard at the closest encloser
  pub needs_wildcard : proof.form ≡ form.NoName → (encloser : Labels) → proof.encloser ≡ Some encloser
      → ((part : Part) → Contains lines (line.Part part) → part.relation ≡ relation.Covered → ¬ SameName part.name (wildcard_of encloser)) → ⊥
  needs_wildcard is encloser its_encloser none =
      let by = checks.is_so (line.Proof proof) there in
      let which : Form → Type 0 = λ each. StandsFor each asked its_zone proof.encloser (told setting asked lines its_zone by.chain) in
      let both : which form.NoName = subst which is by.stands in
      let ce = rightmost asked.name both.0.labels in
      let same = same_encloser setting asked lines its_zone by.chain proof.encloser encloser ce its_encloser both.1 in
      let tells = both.0.wildcard.1.1 in
      none tells.part tells.among tells.is_relation (tells.is_name ∙ sym (wildcard_respects encloser ce same))

  -- the name of the closest encloser
  pub needs_its_name : NeedsEncloser proof.form → proof.encloser ≡ None → ⊥
  needs_its_name needs is =
      let by = checks.is_so (line.Proof proof) there in
      let ends = ends_of setting asked lines its_zone by.chain proof.form proof.encloser needs by.stands in
      let Same : Option Labels → Type 0 = λ each. SameEncloser each (Some (rightmost asked.name ends.labels)) in subst Same is ends.same

  -- that which shows the next closer name to be absent
  pub needs_next_closer : NeedsEncloser proof.form → (encloser : Labels) → proof.encloser ≡ Some encloser
      → ((part : Part) → Contains lines (line.Part part) → part.relation ≡ relation.Covered
      → ¬ SameName part.name (rightmost asked.name (length encloser + 1))) → ⊥
  needs_next_closer needs encloser its_encloser none =
      let by = checks.is_so (line.Proof proof) there in
      let ends = ends_of setting asked lines its_zone by.chain proof.form proof.encloser needs by.stands in
      let same = same_encloser setting asked lines its_zone by.chain proof.encloser encloser (rightmost asked.name ends.labels) its_encloser ends.same in
      let labels : ends.labels ≡ length encloser =
      omega (arith, same_labels encloser (rightmost asked.name ends.labels) same, rightmost_length asked.name ends.labels (omega (arith, ends.ends.above.proper))) in
      let tells = ends.ends.next_closer.1.1 in
      none tells.part tells.among tells.is_relation
      (tells.is_name ∙ ap (λ (n : ℕ). lower_case (rightmost asked.name (n + 1))) labels)

  -- that which shows the closest encloser to be a node
  pub needs_encloser : NeedsEncloser proof.form → (encloser : Labels) → proof.encloser ≡ Some encloser
      → ((part : Part) → Contains lines (line.Part part) → ShowsNode part.relation → ¬ SameName part.name encloser) → ⊥
  needs_encloser needs encloser its_encloser none =
      let by = checks.is_so (line.Proof proof) there in
      let ends = ends_of setting asked lines its_zone by.chain proof.form proof.encloser needs by.stands in
      let ce = rightmost asked.name ends.labels in
      let same = same_encloser setting asked lines its_zone by.chain proof.encloser encloser ce its_encloser ends.same in
      let its : RecordWords RecordNumber = told setting asked lines its_zone by.chain in
      let never = λ (related : Relation) (by_whom : Option RecordNumber) (tells : IsTold lines related ce by_whom) (shows : ShowsNode related).
      let Shows : Relation → Type 0 = λ each. ShowsNode each in
      none tells.part tells.among (subst Shows (sym tells.is_relation) shows) (tells.is_name ∙ sym same) in
      ⊎_elim
      (λ (apex : its.NeedsNone ce). never relation.Apex None apex.1 tt)
      (λ (some : (n : RecordNumber) × its.Encloser ce n).
      ⊎_elim
      (λ (exists : IsTold lines relation.Exists ce (Some some.0)). never relation.Exists (Some some.0) exists tt)
      (λ (matched : IsTold lines relation.Matched ce (Some some.0)). never relation.Matched (Some some.0) matched tt)
      some.1.1)
      ends.ends.encloser

  -- a record at the name that doesn't hold the type
  pub needs_no_type : proof.form ≡ form.NoData1
      → ((part : Part) (number : RecordNumber) → Contains lines (line.Part part) → part.relation ≡ relation.Matched → SameName part.name asked.name
      → number_told part.by ≡ Some number → HoldsType setting.rrsets number asked.rtype) → ⊥
  needs_no_type is holds =
      let by = checks.is_so (line.Proof proof) there in
      let which : Form → Type 0 = λ each. StandsFor each asked its_zone proof.encloser (told setting asked lines its_zone by.chain) in
      let both : which form.NoData1 = subst which is by.stands in
      let some = both.0.types in
      let tells = some.1.1 in
      never_held (IsShownGood lines) setting.rrsets its_zone asked.name asked.rtype by.chain some.0 some.1.0
      (holds tells.part some.0 tells.among tells.is_relation tells.is_name tells.is_by)

-- ---- a part alone

module _ (setting : Setting) (asked : Asked) (lines : List Line) (checks : Checks setting asked lines) (part : Part) (number : RecordNumber)
    (there : Contains lines (line.Part part)) (is_by : number_told part.by ≡ Some number)
    (holds : HoldsType setting.rrsets number asked.rtype) where
  never_denied : DeniesAsked setting.rrsets asked lines part → ⊥
  never_denied denied =
      let both : Some number ≡ Some denied.number = sym is_by ∙ denied.is_by in
      let same : number ≡ denied.number = cc in
      never_held (IsShownGood lines) setting.rrsets denied.zone part.name asked.rtype denied.chain denied.number denied.denies
      (subst (λ each. HoldsType setting.rrsets each asked.rtype) same holds)

  pub never_matched : (as_role : Role) → ((denied : Type 0) → DeniesIf as_role relation.Matched denied → denied) → part.role ≡ as_role
      → part.relation ≡ relation.Matched → ⊥
  never_matched as_role denies is_role is_relation =
      let Denied : Type 0 = DeniesAsked setting.rrsets asked lines part in
      let so = checks.is_so (line.Part part) there in
      let by : DeniesIf part.role part.relation Denied = so.3 in
      never_denied (denies Denied (subst (λ each. DeniesIf each relation.Matched Denied) is_role
      (subst (λ each. DeniesIf part.role each Denied) is_relation by)))
