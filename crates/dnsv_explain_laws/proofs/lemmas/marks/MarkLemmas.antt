-- The verdict where just the marked entries are valid.
use Rattle.std.proofs.Common.{◌≡◌, ◌≢◌, ◌∙◌, ◌≤◌, ℕ, List, [], ◌∷◌, ◌++◌, Option, Some, None, arith, map, refl, sym, ap, subst}
use Rattle.std.proofs.lemmas.List.{append-nil}
use Rattle.std.proofs.lemmas.List.Elements.{Contains-append_left, Contains-append_right}
use Rattle.std.specs.List.{AllByRecursion, Contains}
use Rattle.std.specs.Prelude.{◌==◌, if◌then◌else◌}
use Rattle.dnsv_names.specs.Name.{Labels}
use Rattle.dnsv_canonical.specs.Rrsets.{ReceivedRrset}
use Rattle.dnsv_verifier.proofs.TableLemmas.{hopeful_is_table, says_as_its_verifier}
use Rattle.dnsv_verifier.specs.Table.{IsTableOf, TableContents, hoped_answer, hopeful, table_answer}
use Rattle.dnsv_verifier.specs.declared.answer.Answer.{Answer}
use Rattle.dnsv_verifier.specs.declared.answer.Answer.TheVariants.{Valid, Invalid, Unknown}
use Rattle.dnsv_verifier.specs.declared.entry.Entry.{Entry}
use Rattle.dnsv_chain.specs.Trusted.{IsSecured}
use Rattle.dnsv_anchors.specs.declared.anchor.Anchor.{Anchor}
use Rattle.dnsv_verdict.proofs.SettledLemmas.{settled_as_to}
use Rattle.dnsv_verdict.proofs.SettledLemmas.NoLessLemmas.{HoldsCase, no_later, no_worse}
use Rattle.dnsv_verdict.specs.Settled.NoLess.{IsNoLess, case_of}
use Rattle.dnsv_verdict.specs.Report.{IsReport}
use Rattle.dnsv_verdict.specs.Verdict.{AreUnknown, IsSettledAsBy, IsVerdictAt}
use Rattle.dnsv_chain.specs.Basis.{Basis, basis_of, with_meaning}
use Rattle.dnsv_verdict.specs.declared.link.Link.{Link}
use Rattle.dnsv_verdict.specs.declared.report.Report.{Report}
use Rattle.dnsv_verdict.specs.declared.verdict.Verdict.{Verdict}
use Rattle.dnsv_verdict.specs.declared.verdict.Verdict.TheVariants.{SecureAnswer, SecureAlias, SecureNoName, SecureNoData, Insecure, Pending, Bogus, Indeterminate}
use Rattle.dnsv_derivations.specs.Explained.{Explained, Setting, setting_in}
use Rattle.dnsv_holding.specs.Explained.{hoped}
use Rattle.dnsv_holding.specs.Holding.{IsEndTold, IsHopeTold, IsLinkTold, IsSettledTold, IsVerdictTold, IsWayTold, signature_of, told_kind}
use Rattle.dnsv_explain.specs.Explanation.{IsExplanation, IsExplanationOf}
use Rattle.dnsv_derivations.specs.Following.{EachFollows, IsSignatureSaid}
use Rattle.dnsv_holding.specs.Marked.{AnswersMarked, IsMarked}
use Rattle.dnsv_derivations.specs.Saying.{AreEach}
use Rattle.dnsv_lines.specs.declared.line.Kind.{Kind}
use Rattle.dnsv_lines.specs.declared.line.Kind.TheVariants as kind
use Rattle.dnsv_lines.specs.declared.line.Line.{Line}
use Rattle.dnsv_lines.specs.declared.line.Line.TheVariants as line
use Rattle.dnsv_lines.specs.declared.line.place.RrsetPlace.{RrsetPlace}
use Rattle.dnsv_explain.proofs.lemmas.telling.ExplanationLemmas.{explanation_follows}
use Rattle.dnsv_explain_laws.proofs.holding.FollowingLemmas.{all_true, no_lines, said_secured}
use Rattle.dnsv_derivations.proofs.lemmas.intervals.MomentLemmas.{is_first}
use Rattle.dnsv_explain_laws.proofs.holding.marks.HopedLemmas.{DependsOnAsked, IsIts, each_then, unknown_of}
use Rattle.dnsv_explain_laws.proofs.holding.marks.HopedLemmas.IsIts.{known, under_hope}
use Rattle.dnsv_explain_laws.proofs.holding.marks.LineLemmas.{IsLineOf, both, links_told, settled_told}
use Rattle.dnsv_explain_laws.proofs.holding.stands.ToldLemmas.{Lies, back, front}
use Rattle.dnsv_explain_laws.proofs.lemmas.stands.WholeLemmas.{KeepsTrust, case_stands}

-- ---- kinds

abbrev kind_of_case : ℕ → Option Kind
kind_of_case n =
    if n == 1 then Some kind.SecureAnswer else if n == 2 then Some kind.SecureAlias else if n == 3 then Some kind.SecureNoName
    else if n == 4 then Some kind.SecureNoData else if n == 5 then Some kind.Insecure else None

by_case : (verdict : Verdict) → told_kind verdict ≡ kind_of_case (case_of verdict)
by_case Indeterminate = refl
by_case verdict = refl

-- verdicts of one case have one kind
same_kind : (a b : Verdict) → case_of a ≤ case_of b → case_of b ≤ case_of a → told_kind a ≡ told_kind b
same_kind a b up down =
    let same : case_of a ≡ case_of b = omega (arith, up, down) in by_case a ∙ ap (λ n. kind_of_case n) same ∙ sym (by_case b)

as_verdict : (basis : Basis) (name : Labels) (t : ℕ) (verdict : Verdict) → IsSettledAsBy basis name t verdict → IsVerdictAt basis name t verdict
as_verdict basis name t (Pending entries) is = absurd is
as_verdict basis name t Bogus is = absurd is
as_verdict basis name t Indeterminate is = absurd is
as_verdict basis name t verdict is = is

-- ---- the verdict

module _ (keeps : KeepsTrust) (depends : DependsOnAsked) (rrsets : List ReceivedRrset) (anchors : List Anchor) (table : TableContents)
    (meaning : Entry → Answer) (unknown : List Entry) (lines : List Line) (after : Entry → Answer)
    (is_table : IsTableOf meaning table.moment rrsets table) (are : AreUnknown (basis_of rrsets anchors table.moment meaning) unknown)
    (marks : AnswersMarked unknown lines meaning after) (t : ℕ) (links : List Link) (last : Labels)
    (is : IsExplanation (record { rrsets = rrsets; anchors = anchors; table = table; todo = [] }) t links last (Pending unknown) lines) where
  abbrev Explained_ : Explained
  Explained_ = record { rrsets = rrsets; anchors = anchors; table = table; todo = [] }

  abbrev Hoped : Setting
  Hoped = setting_in (hoped Explained_ unknown)

  abbrev After : Setting
  After = record { rrsets = rrsets; anchors = anchors; moment = table.moment; meaning = after; todo = [] }

  abbrev Secured : ℕ → ℕ → Type 0
  Secured = IsSecured after table.moment rrsets anchors

  abbrev Links : List Line → List Line → Type 0
  Links = AreEach (IsLinkTold (setting_in Explained_)) links

  abbrev Last : List Line → List Line → Type 0
  Last = IsVerdictTold Explained_ last t (Pending unknown)

  -- what is hoped
  abbrev hope : IsHopeTold Explained_ last t unknown is.says_first.first is.says_first.second
  hope = is.says_first.says_second

  abbrev HopeLine : List Line → List Line → Type 0
  HopeLine before more = more ≡ line.Hope hope.kind ∷ []

  abbrev Settled : List Line → List Line → Type 0
  Settled = IsSettledTold Hoped last t hope.verdict

  places_are : (places : List RrsetPlace) → AllByRecursion (IsLineOf (IsIts Explained_ unknown)) (map (λ place. line.Rrset place) places)
  places_are [] = tt
  places_are (place ∷ places) = (tt, places_are places)

  all_told : AllByRecursion (IsLineOf (IsIts Explained_ unknown)) lines
  all_told =
      both (IsIts Explained_ unknown) (IsWayTold Explained_ t links last (Pending unknown)) (IsEndTold Explained_ (Pending unknown)) [] lines is
      (λ old new way.
      both (IsIts Explained_ unknown) Links Last old new way
      (λ older newer told. links_told (IsIts Explained_ unknown) (setting_in Explained_) known links older newer told)
      (λ older newer told.
      both (IsIts Explained_ unknown) (λ before more. more ≡ line.Hope told.kind ∷ []) (IsSettledTold Hoped last t told.verdict) older newer told.told
      (λ u v same. subst (λ each. AllByRecursion (IsLineOf (IsIts Explained_ unknown)) each) (sym same) (tt, tt))
      (λ u v settled. settled_told (IsIts Explained_ unknown) Hoped under_hope last t told.verdict u v settled)))
      (λ old new end. subst (λ each. AllByRecursion (IsLineOf (IsIts Explained_ unknown)) each) (sym end.are) (places_are end.places))

  follow_after : EachFollows After [] lines
  follow_after =
      each_then rrsets anchors table meaning unknown lines after is_table are marks [] lines (λ each there. there) all_told
      (explanation_follows Explained_ t links last (Pending unknown) lines is)

  counted : (k s : ℕ) → IsSignatureSaid lines (signature_of k s) → Secured k s
  counted k s said = said_secured After lines (all_true After [] lines (no_lines After) follow_after) k s said

  whole : Lies Hoped Secured lines counted [] lines
  whole = record { rest = []; whole = append-nil lines }

  stands : HoldsCase Secured rrsets last t hope.verdict
  stands =
      let way = front Hoped Secured lines counted (IsWayTold Explained_ t links last (Pending unknown)) (IsEndTold Explained_ (Pending unknown)) [] lines is whole in
      let ending = back Hoped Secured lines counted Links Last [] is.first is.says_first way in
      let settled = back Hoped Secured lines counted HopeLine Settled is.says_first.first is.says_first.second hope.told ending in
      case_stands Hoped Secured lines counted last t hope.verdict (is.says_first.first ++ hope.told.first) hope.told.second settled hope.is
      hope.told.says_second

  -- ---- no more than hoped

  abbrev hopes : Entry → Answer
  hopes entry = hoped_answer (meaning entry)

  never_marked : (entry : Entry) → meaning entry ≡ Invalid → ¬ IsMarked unknown lines entry
  never_marked entry bad marked =
      let open_still = unknown_of rrsets anchors table meaning unknown lines after is_table are marks entry marked in
      let clash : Invalid ≡ Unknown = sym bad ∙ open_still in cc

  valid_too : (entry : Entry) (answer : Answer) → meaning entry ≡ answer → after entry ≡ Valid → hoped_answer answer ≡ Valid
  valid_too entry Valid says valid = refl
  valid_too entry Unknown says valid = refl
  valid_too entry Invalid says valid =
      let other = marks.others entry (never_marked entry says) in let clash : Valid ≡ Invalid = sym valid ∙ other ∙ says in cc

  open_too : (entry : Entry) (answer : Answer) → meaning entry ≡ answer → after entry ≡ Unknown → hoped_answer answer ≢ Invalid
  open_too entry Valid says open_still bad = let clash : Valid ≡ Invalid = bad in cc
  open_too entry Unknown says open_still bad = let clash : Valid ≡ Invalid = bad in cc
  open_too entry Invalid says open_still bad =
      let other = marks.others entry (never_marked entry says) in let clash : Unknown ≡ Invalid = sym open_still ∙ other ∙ says in cc

  no_less : IsNoLess (basis_of rrsets anchors table.moment after) (basis_of rrsets anchors table.moment hopes)
  no_less = record {
    later = [];
    rrsets = sym (append-nil rrsets);
    anchors = λ anchor there. there;
    moment = refl;
    answers = record {
      valid = λ entry valid. valid_too entry (meaning entry) refl valid;
      unknown = λ entry open_still. open_too entry (meaning entry) refl open_still;
    };
  }

  hoped_verdict : IsVerdictAt (basis_of rrsets anchors table.moment hopes) last t hope.verdict
  hoped_verdict =
      let tabled : IsTableOf hopes table.moment rrsets (hopeful table) = hopeful_is_table meaning table.moment rrsets table is_table hopes (λ each its. refl) in
      let says = says_as_its_verifier hopes table.moment rrsets (hopeful table) tabled in
      let there = depends (table_answer (hopeful table)) hopes table.moment rrsets anchors says in
      let returns = depends hopes (table_answer (hopeful table)) table.moment rrsets anchors (λ entry asked. sym (says entry asked)) in
      as_verdict (basis_of rrsets anchors table.moment hopes) last t hope.verdict
      (settled_as_to (IsSecured (table_answer (hopeful table)) table.moment rrsets anchors) (IsSecured hopes table.moment rrsets anchors) there returns rrsets
      last t hope.verdict hope.is)

  hope_among : Contains lines (line.Hope hope.kind)
  hope_among =
      let This : List Line → Type 0 = λ each. Contains each (line.Hope hope.kind) in
      let told = hope.told in
      let alone : This told.first = subst This (sym told.says_first) (is_first (line.Hope hope.kind) []) in
      let front_ : This is.says_first.second = subst This (sym told.parts) (Contains-append_left told.first told.second (line.Hope hope.kind) alone) in
      let way : This is.first =
      subst This (sym is.says_first.parts) (Contains-append_right is.says_first.first is.says_first.second (line.Hope hope.kind) front_) in
      subst This (sym is.parts) (Contains-append_left is.first is.second (line.Hope hope.kind) way)

  pub hope_settles : (verdict : Verdict) → IsVerdictAt (basis_of rrsets anchors table.moment after) last t verdict
      → (kind : Kind) × Contains lines (line.Hope kind) × (told_kind verdict ≡ Some kind)
  hope_settles verdict at =
      let up : case_of verdict ≤ case_of hope.verdict = no_later (basis_of rrsets anchors table.moment after) last t hope.verdict verdict stands at in
      let down : case_of hope.verdict ≤ case_of verdict =
      no_worse keeps (basis_of rrsets anchors table.moment after) (basis_of rrsets anchors table.moment hopes) last t verdict hope.verdict no_less at
      hoped_verdict in
      (hope.kind, hope_among, same_kind verdict hope.verdict up down ∙ hope.its_kind)

-- of a report
pub hope_of_report : KeepsTrust → DependsOnAsked → (basis : Basis) (name : Labels) (t : ℕ) (report : Report) (unknown : List Entry) (lines : List Line)
    (after : Entry → Answer) (verdict : Verdict) → IsReport basis name t report → report.verdict ≡ Pending unknown → IsExplanationOf basis t report lines
    → AnswersMarked unknown lines basis.meaning after → IsVerdictAt (with_meaning basis after) report.last t verdict
    → (kind : Kind) × Contains lines (line.Hope kind) × (told_kind verdict ≡ Some kind)
hope_of_report keeps depends basis name t report unknown lines after verdict told pends is marks at =
    let moment : is.table.moment ≡ basis.moment = is.of.of_moment in
    let Same : ℕ → Basis = λ m. basis_of basis.rrsets basis.anchors m basis.meaning in
    let Open : Verdict → Type 0 = λ each. IsVerdictAt basis report.last t each in
    let Explains : Verdict → Type 0 = λ each. IsExplanation (record { rrsets = basis.rrsets; anchors = basis.anchors; table = is.table; todo = [] }) t
    report.links report.last each lines in
    let open_still : Open (Pending unknown) = subst Open pends told.verdict.is_verdict in
    let Are : ℕ → Type 0 = λ m. AreUnknown (Same m) unknown in
    let Table : ℕ → Type 0 = λ m. IsTableOf basis.meaning m basis.rrsets is.table in
    let At : ℕ → Type 0 = λ m. IsVerdictAt (basis_of basis.rrsets basis.anchors m after) report.last t verdict in
    hope_settles keeps depends basis.rrsets basis.anchors is.table basis.meaning unknown lines after (subst Table (sym moment) is.of)
    (subst Are (sym moment) open_still.2) marks t report.links report.last (subst Explains pends is.is) verdict (subst At (sym moment) at)
