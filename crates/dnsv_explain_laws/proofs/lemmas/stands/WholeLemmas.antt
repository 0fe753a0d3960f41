-- The verdicts of an explanation are no worse wherever the signatures count that its lines call good.
use Rattle.std.proofs.Common.{◌≡◌, ◌≤◌, ⊎_elim, ℕ, List, [], ◌∷◌, ◌++◌, arith, sym, subst}
use Rattle.std.proofs.lemmas.List.{append-nil}
use Rattle.std.specs.List.{Contains}
use Rattle.dnsv_names.specs.Name.{Labels}
use Rattle.dnsv_zones.specs.zones.TypeNumbers.{cname}
use Rattle.dnsv_canonical.specs.Rrsets.{ReceivedRrset}
use Rattle.dnsv_verifier.specs.Table.{table_answer}
use Rattle.dnsv_verifier.specs.declared.answer.Answer.{Answer}
use Rattle.dnsv_verifier.specs.declared.answer.Answer.TheVariants.{Valid}
use Rattle.dnsv_verifier.specs.declared.entry.Entry.{Entry}
use Rattle.dnsv_chain.specs.Trusted.{IsSecured}
use Rattle.dnsv_anchors.specs.declared.anchor.Anchor.{Anchor}
use Rattle.dnsv_verdict.proofs.SettledLemmas.NoLessLemmas.{HoldsCase, no_later}
use Rattle.dnsv_verdict.specs.Settled.NoLess.{case_of}
use Rattle.dnsv_verdict.specs.Settled.{IsSettledAs}
use Rattle.dnsv_verdict.specs.Verdict.{IsSettledAsBy, IsSettledVerdict, IsVerdictAt}
use Rattle.dnsv_chain.specs.Basis.{basis_of}
use Rattle.dnsv_verdict.specs.Way.{LeadTo}
use Rattle.dnsv_verdict.specs.declared.link.Link.{Link}
use Rattle.dnsv_verdict.specs.declared.verdict.Verdict.{Verdict}
use Rattle.dnsv_verdict.specs.declared.verdict.Verdict.TheVariants.{SecureAnswer, SecureAlias, SecureNoName, SecureNoData, Insecure, Pending, Bogus, Indeterminate}
use Rattle.dnsv_derivations.specs.Explained.{Explained, Setting, setting_in}
use Rattle.dnsv_holding.specs.Explained.{basis_in}
use Rattle.dnsv_holding.specs.Holding.{IsEndTold, IsHoldingTold, IsLinkTold, IsSettledTold, IsVerdictTold, IsWayTold, signature_of}
use Rattle.dnsv_explain.specs.Explanation.{IsExplanation}
use Rattle.dnsv_derivations.specs.Following.{EachFollows, IsSignatureSaid, at_moment}
use Rattle.dnsv_derivations.specs.Saying.{AreEach}
use Rattle.dnsv_derivations.specs.derivations.OwnDerivations.{SecuredIn}
use Rattle.dnsv_derivations.specs.intervals.Holding.{AreShownValidAt}
use Rattle.dnsv_lines.specs.declared.line.Line.{Line}
use Rattle.dnsv_explain.proofs.lemmas.telling.ExplanationLemmas.{holding_follows}
use Rattle.dnsv_explain_laws.proofs.holding.FollowingLemmas.{all_true, no_lines, said_secured}
use Rattle.dnsv_holding.proofs.lemmas.telling.SecureLemmas.{settled_as}
use Rattle.dnsv_explain.proofs.lemmas.telling.WholeLemmas.{in_setting}
use Rattle.dnsv_derivations.proofs.lemmas.intervals.MomentLemmas.{first_or_behind, follow_at}
use Rattle.dnsv_explain_laws.proofs.holding.stands.CutLemmas.{unsigned_stands}
use Rattle.dnsv_explain_laws.proofs.holding.stands.ToldLemmas.{Lies, back, front, no_data_stands, no_name_stands, set_stands}

module _ (setting : Setting) (T : ℕ → ℕ → Type 0) (all : List Line) (counts : (k s : ℕ) → IsSignatureSaid all (signature_of k s) → T k s) where
  pub case_stands : (name : Labels) (t : ℕ) (verdict : Verdict) (before lines : List Line) → Lies setting T all counts before lines
      → IsSettledAs (SecuredIn setting) setting.rrsets name t verdict → IsSettledTold setting name t verdict before lines
      → HoldsCase T setting.rrsets name t verdict
  case_stands name t (SecureAnswer k s) before lines lies is told =
      (k, s, set_stands setting T all counts name t k s is.such before lines lies told)
  case_stands name t (SecureAlias k s) before lines lies is told =
      (is.1, (k, s, set_stands setting T all counts name cname k s is.2.such before lines lies told))
  case_stands name t (SecureNoName proof) before lines lies is told = no_name_stands setting T all counts name before lines lies told
  case_stands name t (SecureNoData proof) before lines lies is told = no_data_stands setting T all counts name t before lines lies told
  case_stands name t (Insecure cut) before lines lies is told = unsigned_stands setting T all counts name t before lines lies told
  case_stands name t verdict before lines lies is told = absurd is

  -- the alias of a link
  pub link_stands : (t : ℕ) (links : List Link) (before lines : List Line) → Lies setting T all counts before lines
      → AreEach (IsLinkTold setting) links before lines → (link : Link) → Contains links link
      → IsSettledAs (SecuredIn setting) setting.rrsets link.name t (SecureAlias link.rrset link.signature)
      → HoldsCase T setting.rrsets link.name t (SecureAlias link.rrset link.signature)
  link_stands t [] before lines lies told link there is = absurd (omega (arith, there.1))
  link_stands t (first ∷ links) before lines lies told link there is = ⊎_elim
      (λ (same : first ≡ link).
      let First : Link → Type 0 = λ each. IsLinkTold setting each before told.first in
      case_stands link.name t (SecureAlias link.rrset link.signature) before told.first
      (front setting T all counts (IsLinkTold setting first) (AreEach (IsLinkTold setting) links) before lines told lies) is
      (subst First same told.says_first))
      (λ (later : Contains links link).
      link_stands t links (before ++ told.first) told.second
      (back setting T all counts (IsLinkTold setting first) (AreEach (IsLinkTold setting) links) before lines told lies) told.says_second link later is)
      (first_or_behind first links link there)

-- ---- the links of a way

-- each is the secure alias of its name
pub links_secure : (explained : Explained) (t : ℕ) (name : Labels) (links : List Link) (last : Labels) → LeadTo (basis_in explained) t name links last
    → (link : Link) → Contains links link → IsSettledAsBy (basis_in explained) link.name t (SecureAlias link.rrset link.signature)
links_secure explained t name [] last leads link there = absurd (omega (arith, there.1))
links_secure explained t name (first ∷ links) last leads link there = ⊎_elim
    (λ (same : first ≡ link).
    let Is : Labels → Type 0 = λ each. IsSettledAsBy (basis_in explained) each t (SecureAlias first.rrset first.signature) in
    let Of : Link → Type 0 = λ each. IsSettledAsBy (basis_in explained) each.name t (SecureAlias each.rrset each.signature) in
    subst Of same (subst Is (sym leads.0.0) leads.0.1))
    (λ (later : Contains links link). links_secure explained t leads.1 links last leads.4 link later)
    (first_or_behind first links link there)

-- of a verdict that needs no more answers the explanation is what holds
pub settled_holding : (explained : Explained) (t : ℕ) (links : List Link) (last : Labels) (verdict : Verdict) (lines : List Line)
    → IsSettledVerdict verdict → IsExplanation explained t links last verdict lines → IsHoldingTold explained t links last verdict [] lines
settled_holding explained t links last (Pending unknown) lines settled is = absurd settled
settled_holding explained t links last Bogus lines settled is = absurd settled
settled_holding explained t links last Indeterminate lines settled is = absurd settled
settled_holding explained t links last verdict lines settled is = is

-- ---- another moment

-- what more evidence takes no trust away from
abbrev pub KeepsTrust : Type 0
KeepsTrust =
    (meaning better : Entry → Answer) (moment : ℕ) (rrsets later : List ReceivedRrset) (anchors others : List Anchor)
    → ((entry : Entry) → meaning entry ≡ Valid → better entry ≡ Valid)
    → ((anchor : Anchor) → Contains anchors anchor → Contains others anchor)
    → (k s : ℕ) → IsSecured meaning moment rrsets anchors k s → IsSecured better moment (rrsets ++ later) others k s

module _ (keeps : KeepsTrust) (explained : Explained) (t : ℕ) (links : List Link) (last : Labels) (verdict : Verdict) (lines : List Line)
    (moment : ℕ) (better : Entry → Answer) (settled : IsSettledVerdict verdict) (is : IsHoldingTold explained t links last verdict [] lines)
    (valid : AreShownValidAt explained.rrsets lines moment)
    (answers : (entry : Entry) → table_answer explained.table entry ≡ Valid → better entry ≡ Valid) where
  then_follow : EachFollows (at_moment (setting_in explained) moment) [] lines
  then_follow =
      follow_at (setting_in explained) moment [] lines valid
      (in_setting explained verdict lines settled (holding_follows explained t links last verdict [] lines is))

  abbrev Then : ℕ → ℕ → Type 0
  Then = IsSecured better moment explained.rrsets explained.anchors

  counted : (k s : ℕ) → IsSignatureSaid lines (signature_of k s) → Then k s
  counted k s said =
      let then = at_moment (setting_in explained) moment in
      let secured = said_secured then lines (all_true then [] lines (no_lines then) then_follow) k s said in
      let In : List ReceivedRrset → Type 0 = λ each. IsSecured better moment each explained.anchors k s in
      subst In (append-nil explained.rrsets)
      (keeps (table_answer explained.table) better moment explained.rrsets [] explained.anchors explained.anchors answers (λ anchor there. there) k s secured)

  abbrev LiesIn : List Line → List Line → Type 0
  LiesIn = Lies (setting_in explained) Then lines counted

  whole : LiesIn [] lines
  whole = record { rest = []; whole = append-nil lines }

  abbrev Links : List Line → List Line → Type 0
  Links = AreEach (IsLinkTold (setting_in explained)) links

  way : LiesIn [] is.first
  way = front (setting_in explained) Then lines counted (IsWayTold explained t links last verdict) (IsEndTold explained verdict) [] lines is whole

  as_settled : (each : Verdict) (before more : List Line) → IsSettledVerdict each → IsVerdictTold explained last t each before more
      → IsSettledTold (setting_in explained) last t each before more
  as_settled (Pending unknown) before more needs told = absurd needs
  as_settled Bogus before more needs told = absurd needs
  as_settled Indeterminate before more needs told = absurd needs
  as_settled verdict before more needs told = told

  pub last_no_worse : (other : Verdict) → IsVerdictAt (basis_in explained) last t verdict
      → IsVerdictAt (basis_of explained.rrsets explained.anchors moment better) last t other → case_of other ≤ case_of verdict
  last_no_worse other at later =
      no_later (basis_of explained.rrsets explained.anchors moment better) last t verdict other
      (case_stands (setting_in explained) Then lines counted last t verdict is.says_first.first is.says_first.second
      (back (setting_in explained) Then lines counted Links (IsVerdictTold explained last t verdict) [] is.first is.says_first way)
      (settled_as explained last t (basis_in explained) verdict settled at)
      (as_settled verdict is.says_first.first is.says_first.second settled is.says_first.says_second))
      later

  pub links_no_worse : (name : Labels) (link : Link) (other : Verdict) → LeadTo (basis_in explained) t name links last → Contains links link
      → IsVerdictAt (basis_of explained.rrsets explained.anchors moment better) link.name t other → case_of other ≤ 2
  links_no_worse name link other leads there later =
      no_later (basis_of explained.rrsets explained.anchors moment better) link.name t (SecureAlias link.rrset link.signature) other
      (link_stands (setting_in explained) Then lines counted t links [] is.says_first.first
      (front (setting_in explained) Then lines counted Links (IsVerdictTold explained last t verdict) [] is.first is.says_first way)
      is.says_first.says_first link there (links_secure explained t name links last leads link there))
      later
