-- Where aliases have one target, a way by the same RRsets goes no further than that of an explanation, and nowhere else.
use Rattle.std.proofs.Common.{◌≡◌, ◌⊎◌, ◌≤◌, ◌<◌, ◌++◌, ◌∙◌, ℕ, suc, List, [], ◌∷◌, length, map, inl, inr, ⊎_elim, refl, sym, ap, subst, arith}
use Rattle.std.specs.List.{Contains}
use Rattle.std.proofs.lemmas.List.Elements.{Contains-append_right}
use Rattle.dnsv_names.specs.Name.{Labels}
use Rattle.dnsv_canonical.specs.Rrsets.{ReceivedRrset}
use Rattle.dnsv_questions.specs.Question.{IsQuestion}
use Rattle.dnsv_chain.specs.Basis.{Basis, basis_of}
use Rattle.dnsv_anchors.specs.declared.anchor.Anchor.{Anchor}
use Rattle.dnsv_verifier.specs.declared.answer.Answer.{Answer}
use Rattle.dnsv_verifier.specs.declared.entry.Entry.{Entry}
use Rattle.dnsv_verdict.specs.Settled.NoLess.{case_of}
use Rattle.dnsv_verdict.specs.Verdict.{IsVerdictAt}
use Rattle.dnsv_verdict.specs.Way.{IsAlias, IsAmong, IsRefusedFor, IsTarget, IsVerdictOf, IsWay, LeadTo, Stops, most_links, names_on}
use Rattle.dnsv_verdict.specs.declared.error.VerdictError.{VerdictError}
use Rattle.dnsv_verdict.specs.declared.error.VerdictError.TheVariants.{OutOfMemory, BadQuestion, AliasLoop, TooManyLinks, AliasTargets}
use Rattle.dnsv_verdict.specs.declared.link.Link.{Link}
use Rattle.dnsv_verdict.specs.declared.verdict.Verdict.{Verdict}
use Rattle.dnsv_verdict.specs.declared.verdict.Verdict.TheVariants.{SecureAnswer, SecureAlias, SecureNoName, SecureNoData, Insecure, Pending, Bogus, Indeterminate}
use Rattle.dnsv_verdict.proofs.WayLemmas.{GoesOn, next, next_is_new, one_target}
use Rattle.dnsv_derivations.proofs.lemmas.intervals.MomentLemmas.{is_behind, is_first}
use Rattle.dnsv_explain_laws.specs.Aliases.{HaveOneTarget, IsCnameOf}

-- ---- verdicts

first_case : (verdict : Verdict) → 1 ≤ case_of verdict
first_case (SecureAnswer k s) = omega arith
first_case (SecureAlias k s) = omega arith
first_case (SecureNoName proof) = omega arith
first_case (SecureNoData proof) = omega arith
first_case (Insecure cut) = omega arith
first_case (Pending entries) = omega arith
first_case Bogus = omega arith
first_case Indeterminate = omega arith

-- what is no worse than an alias, and none, is an answer
pub answer_no_worse : (verdict other : Verdict) → ¬ IsAlias other → case_of other ≤ 2 → case_of other ≤ case_of verdict
answer_no_worse verdict (SecureAnswer k s) none best = first_case verdict
answer_no_worse verdict (SecureAlias k s) none best = absurd (none tt)
answer_no_worse verdict (SecureNoName proof) none best = absurd (omega (arith, best))
answer_no_worse verdict (SecureNoData proof) none best = absurd (omega (arith, best))
answer_no_worse verdict (Insecure cut) none best = absurd (omega (arith, best))
answer_no_worse verdict (Pending entries) none best = absurd (omega (arith, best))
answer_no_worse verdict Bogus none best = absurd (omega (arith, best))
answer_no_worse verdict Indeterminate none best = absurd (omega (arith, best))

-- ---- ways

module _ (rrsets : List ReceivedRrset) (anchors others : List Anchor) (now then : ℕ) (meaning better : Entry → Answer) (t : ℕ) where
  abbrev Before : Basis
  Before = basis_of rrsets anchors now meaning

  abbrev After : Basis
  After = basis_of rrsets others then better

  -- an alias has a CNAME RRset that its name owns
  owned : (name : Labels) (k s : ℕ) → IsVerdictAt After name t (SecureAlias k s) → IsCnameOf rrsets name k
  owned name k s is = (is.2.such.rrset, is.2.such.is_rrset, is.2.such.owner, is.2.such.such.0)

  none_at_last : (links : List Link) (last : Labels) (k s : ℕ) → HaveOneTarget rrsets t links last
      → ¬ IsVerdictAt After last t (SecureAlias k s)
  none_at_last links last k s targets is =
      ⊎_elim (λ (asked : t ≡ 5). is.1 asked) (λ (none : (j : ℕ) → ¬ IsCnameOf rrsets last j). none k (owned last k s is)) targets.ends

  targets_behind : (link : Link) (links : List Link) (last : Labels) → HaveOneTarget rrsets t (link ∷ links) last
      → HaveOneTarget rrsets t links last
  targets_behind link links last targets = record {
    one = λ each there. targets.one each (is_behind link links each there);
    ends = targets.ends;
  }

  -- The first links have the names of the others, which lead to the last name, or to where the links go on.
  record IsBehind (links : List Link) (last : Labels) (its_links : List Link) (its_last : Labels) : Type 0 where
    front : List Link
    as_long : length front ≡ length its_links
    names : map (λ (link : Link). link.name) front ≡ map (λ (link : Link). link.name) its_links
    behind : (its_last ≡ last) ⊎ GoesOn Before t front its_last links last

  behind_more : (link its : Link) (links : List Link) (last : Labels) (its_links : List Link) (its_last : Labels)
      → link.name ≡ its.name → IsBehind links last its_links its_last → IsBehind (link ∷ links) last (its ∷ its_links) its_last
  behind_more link its links last its_links its_last same is = record {
    front = link ∷ is.front;
    as_long = ap (λ n. suc n) is.as_long;
    names = λ i. same i ∷ is.names i;
    behind =
        ⊎_elim (λ (one : its_last ≡ last). inl one)
        (λ (goes : GoesOn Before t is.front its_last links last).
        inr (record { link = goes.link; rest = goes.rest; is = ap (λ each. link ∷ each) goes.is; leads = goes.leads }))
        is.behind;
  }

  followed : (name other : Labels) (links : List Link) (last : Labels) (its_links : List Link) (its_last : Labels) → name ≡ other
      → LeadTo Before t name links last → LeadTo After t other its_links its_last → HaveOneTarget rrsets t links last
      → IsBehind links last its_links its_last
  followed name other [] last [] its_last same leads its targets =
      record { front = []; as_long = refl; names = refl; behind = inl (sym its ∙ sym same ∙ leads) }
  followed name other (link ∷ links) last [] its_last same leads its targets = record {
    front = [];
    as_long = refl;
    names = refl;
    behind = inr (record { link = link; rest = links; is = refl; leads = subst (λ n. LeadTo Before t n (link ∷ links) last) (same ∙ its) leads });
  }
  followed name other [] last (each ∷ its_links) its_last same leads its targets =
      absurd (none_at_last [] last each.rrset each.signature targets
      (subst (λ n. IsVerdictAt After n t (SecureAlias each.rrset each.signature)) (sym same ∙ leads) its.0.1))
  followed name other (link ∷ links) last (each ∷ its_links) its_last same leads its targets =
      let its_name : other ≡ link.name = sym same ∙ sym leads.0.0 in
      let cname : IsCnameOf rrsets link.name each.rrset =
      subst (λ n. IsCnameOf rrsets n each.rrset) its_name (owned other each.rrset each.signature its.0.1) in
      let target : leads.1 ≡ its.1 =
      one_target rrsets each.rrset leads.1 its.1 (targets.one link (is_first link links) each.rrset cname leads.1 leads.2) its.2 in
      behind_more link each links last its_links its_last (sym its_name ∙ sym its.0.0)
      (followed leads.1 its.1 links last its_links its_last target leads.4 its.4 (targets_behind link links last targets))

  -- ---- where the way goes on

  goes_over : (front : List Link) (name : Labels) (links : List Link) (last : Labels) → (goes : GoesOn Before t front name links last)
      → Contains links goes.link
  goes_over front name links last goes =
      subst (λ (each : List Link). Contains each goes.link) (sym goes.is)
      (Contains-append_right front (goes.link ∷ goes.rest) goes.link (is_first goes.link goes.rest))

  pub no_worse : (name : Labels) (links : List Link) (last : Labels) (verdict : Verdict) (its_links : List Link) (its_last : Labels) (other : Verdict)
      → IsVerdictOf Before name t links last verdict → HaveOneTarget rrsets t links last
      → IsVerdictOf After name t its_links its_last other
      → (IsVerdictAt After last t other → case_of other ≤ case_of verdict)
      → ((link : Link) → Contains links link → IsVerdictAt After link.name t other → case_of other ≤ 2)
      → case_of other ≤ case_of verdict
  no_worse name links last verdict its_links its_last other of targets its at_last at_links =
      let far = followed name name links last its_links its_last refl of.way.leads its.way.leads targets in
      ⊎_elim (λ (same : its_last ≡ last). at_last (subst (λ n. IsVerdictAt After n t other) same its.is_verdict))
      (λ (goes : GoesOn Before t far.front its_last links last).
      answer_no_worse verdict other its.no_alias (at_links goes.link (goes_over far.front its_last links last goes)
      (subst (λ n. IsVerdictAt After n t other) (sym goes.leads.0.0) its.is_verdict)))
      far.behind

  -- an alias with a new target at which the type can be asked stops no way that has room for a link
  never_stops : (k : ℕ) (target : Labels) (names : List Labels) (count : ℕ) (error : VerdictError) → IsTarget rrsets k target
      → IsQuestion target t → ¬ IsAmong target names → count < most_links → ¬ Stops rrsets t names count k error
  never_stops k target names count AliasTargets is asked new few stops = stops target is
  never_stops k target names count AliasLoop is asked new few stops =
      new (subst (λ n. IsAmong n names) (one_target rrsets k stops.0 target stops.1 is) stops.2)
  never_stops k target names count TooManyLinks is asked new few stops = omega (arith, stops.3, few)
  never_stops k target names count BadQuestion is asked new few stops =
      stops.4 (subst (λ n. IsQuestion n t) (sym (one_target rrsets k stops.0 target stops.1 is)) asked)
  never_stops k target names count OutOfMemory is asked new few stops = stops

  never_behind : (name : Labels) (links : List Link) (last : Labels) (error : VerdictError) → IsWay Before t name links last
      → HaveOneTarget rrsets t links last → (refused : IsRefusedFor After name t error)
      → (far : IsBehind links last refused.links refused.last) → ¬ GoesOn Before t far.front refused.last links last
  never_behind name links last error way targets refused far goes =
      let cname : IsCnameOf rrsets goes.link.name refused.k =
      subst (λ n. IsCnameOf rrsets n refused.k) (sym goes.leads.0.0) (owned refused.last refused.k refused.s refused.is_alias) in
      let there = next Before t far.front refused.last links last goes.link.rrset goes.link.signature goes.leads.0.1 goes in
      let names : names_on far.front refused.last ≡ names_on refused.links refused.last =
      ap (λ each. each ++ refused.last ∷ []) far.names in
      never_stops refused.k there.target (names_on refused.links refused.last) (length refused.links) error
      (targets.one goes.link (goes_over far.front refused.last links last goes) refused.k cname there.target there.is_target) there.is_question
      (λ among. next_is_new Before t name far.front refused.last links last goes.link.rrset way there
      (subst (λ each. IsAmong there.target each) (sym names) among))
      (omega (arith, there.longer, way.few, far.as_long)) refused.stops

  pub not_refused : (name : Labels) (links : List Link) (last : Labels) (error : VerdictError) → IsWay Before t name links last
      → HaveOneTarget rrsets t links last → ¬ IsRefusedFor After name t error
  not_refused name links last error way targets refused =
      let far = followed name name links last refused.links refused.last refl way.leads refused.way.leads targets in
      ⊎_elim (λ (same : refused.last ≡ last).
      none_at_last links last refused.k refused.s targets
      (subst (λ n. IsVerdictAt After n t (SecureAlias refused.k refused.s)) same refused.is_alias))
      (λ (goes : GoesOn Before t far.front refused.last links last). never_behind name links last error way targets refused far goes)
      far.behind
