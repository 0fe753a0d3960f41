-- One thing is said of a question at a moment.
use Rattle.std.proofs.Common.{◌≡◌, ◌∙◌, ℕ, List, [], ◌∷◌, ◌++◌, sym, ap, subst}
use Rattle.std.proofs.lemmas.Cmp.{nat_cmp_total, on_total, then_total}
use Rattle.std.specs.Cmp.{IsTotalOrder}
use Rattle.std.specs.Ordering.{nat_cmp}
use Rattle.std.specs.declared.cmp.Ordering.TheVariants.{Equal}
use Rattle.dnsv_names.specs.Name.{Labels}
use Rattle.dnsv_canonical.proofs.CanonicalLemmas.{IsMember-from_contains, Contains-from_member, rising_unique}
use Rattle.dnsv_canonical.specs.declared.number.SignatureNumber.{SignatureNumber}
use Rattle.dnsv_lines.specs.declared.line.Line.{Line}
use Rattle.dnsv_verifier.specs.EntryLaws.{octet_Equal, then_Equal}
use Rattle.dnsv_verdict.proofs.WayLemmas.RefusalLemmas.{stopped_where_refused}
use Rattle.dnsv_chain.specs.Basis.{Basis}
use Rattle.dnsv_verdict.specs.declared.error.VerdictError.{VerdictError}
use Rattle.dnsv_verdict.specs.declared.link.Link.{Link}
use Rattle.dnsv_verdict.specs.declared.verdict.Verdict.{Verdict}
use Rattle.dnsv_timeline.proofs.OneTimeline.{one_by}
use Rattle.dnsv_timeline.specs.Timeline.{IsTimelineBy}
use Rattle.dnsv_timeline.specs.declared.stretch.Stretch.{Stretch}
use Rattle.dnsv_moments.specs.validity.Said.{AreShownIn, IsRefusalSaid, IsSaid, IsSaidAt, IsVerdictSaid, Said, signature_cmp, told_refusal, told_verdict}
use Rattle.dnsv_explain_laws.proofs.holding.one.DerivationLemmas.{one_derivation, one_links_derived}
use Rattle.dnsv_holding.specs.Derived.{AreLinksDerived, IsDerivationOf, alias_of}
use Rattle.dnsv_moments.specs.validity.Said.IsSaid.{a_refusal, a_verdict}
use Rattle.dnsv_moments.specs.validity.SameValid.{at_moment}
use Rattle.dnsv_questions.specs.declared.format.Format.{Format}
use Rattle.dnsv_moments.proofs.lemmas.validity.SaidLemmas.{HasNotBoth, HasOneStop, HasOneVerdict}

signature_cmp_total : IsTotalOrder signature_cmp
signature_cmp_total =
    then_total (on_total (λ (each : SignatureNumber). each.rrset) nat_cmp_total)
    (on_total (λ (each : SignatureNumber). each.signature) nat_cmp_total)

signature_Equal : (a b : SignatureNumber) → signature_cmp a b ≡ Equal → a ≡ b
signature_Equal a b e =
    let both = then_Equal (nat_cmp a.rrset b.rrset) (nat_cmp a.signature b.signature) e in
    λ i. record { rrset = octet_Equal a.rrset b.rrset both.0 i; signature = octet_Equal a.signature b.signature both.1 i }

-- lines show one list of signatures
one_shown : (lines : List Line) (a b : List SignatureNumber) → AreShownIn lines a → AreShownIn lines b → a ≡ b
one_shown lines a b x y =
    rising_unique signature_cmp signature_cmp_total signature_Equal a b x.rising y.rising
    (λ n m. IsMember-from_contains b n ((y.members n).1 ((x.members n).0 (Contains-from_member a n m))))
    (λ n m. IsMember-from_contains a n ((x.members n).1 ((y.members n).0 (Contains-from_member b n m))))

module _ (format : Format) (basis : Basis) (name : Labels) (t : ℕ) (said other : Said) where
  one_verdict_said : HasOneVerdict → IsVerdictSaid format basis name t said → IsVerdictSaid format basis name t other → said ≡ other
  one_verdict_said one_verdict p q =
      let same = one_verdict basis name t p.links q.links p.last q.last p.verdict q.verdict p.is q.is in
      let verdicts : told_verdict format basis.rrsets p.links p.verdict ≡ told_verdict format basis.rrsets q.links q.verdict =
      λ i. told_verdict format basis.rrsets (same.0 i) (same.2 i) in
      let told : said.told ≡ other.told = p.told ∙ verdicts ∙ sym q.told in
      let Links : List Link → Type 0 = λ links. IsDerivationOf basis t links p.last p.verdict p.lines in
      let Last : Labels → Type 0 = λ last. IsDerivationOf basis t q.links last p.verdict p.lines in
      let Of : Verdict → Type 0 = λ verdict. IsDerivationOf basis t q.links q.last verdict p.lines in
      let lines : p.lines ≡ q.lines =
      one_derivation basis name t q.links q.last q.verdict p.lines q.lines q.is
      (subst Of same.2 (subst Last same.1 (subst Links same.0 p.derived))) q.derived in
      let Shown : List Line → Type 0 = λ each. AreShownIn each said.by in
      let by : said.by ≡ other.by = one_shown q.lines said.by other.by (subst Shown lines p.by) q.by in
      λ i. record { told = told i; by = by i }

  one_refusal_said : HasOneStop → IsRefusalSaid basis name t said → IsRefusalSaid basis name t other → said ≡ other
  one_refusal_said one_stop p q =
      let alias = alias_of p.is.last p.is.k p.is.s in
      let another = alias_of q.is.last q.is.k q.is.s in
      let same = one_stop basis name t p.is.links q.is.links alias another p.error q.error
      (stopped_where_refused basis name t p.error p.is) (stopped_where_refused basis name t q.error q.is) in
      let told : said.told ≡ other.told = p.told ∙ ap (λ (error : VerdictError). told_refusal error) same.2 ∙ sym q.told in
      let links : p.is.links ++ alias ∷ [] ≡ q.is.links ++ another ∷ [] = λ i. same.0 i ++ same.1 i ∷ [] in
      let Links : List Link → Type 0 = λ each. AreLinksDerived basis each p.lines in
      let lines : p.lines ≡ q.lines =
      one_links_derived basis (q.is.links ++ another ∷ []) p.lines q.lines (subst Links links p.derived) q.derived in
      let Shown : List Line → Type 0 = λ each. AreShownIn each said.by in
      let by : said.by ≡ other.by = one_shown q.lines said.by other.by (subst Shown lines p.by) q.by in
      λ i. record { told = told i; by = by i }

  pub one_said : HasOneVerdict → HasNotBoth → HasOneStop → IsSaid format basis name t said → IsSaid format basis name t other → said ≡ other
  one_said one_verdict not_both one_stop (a_verdict p) (a_verdict q) = one_verdict_said one_verdict p q
  one_said one_verdict not_both one_stop (a_verdict p) (a_refusal q) =
      absurd (not_both basis name t p.links p.last p.verdict q.error p.is q.is)
  one_said one_verdict not_both one_stop (a_refusal p) (a_verdict q) =
      absurd (not_both basis name t q.links q.last q.verdict p.error q.is p.is)
  one_said one_verdict not_both one_stop (a_refusal p) (a_refusal q) = one_refusal_said one_stop p q

pub one_of_said : HasOneVerdict → HasNotBoth → HasOneStop → (format : Format) (basis : Basis) (name : Labels) (t from to : ℕ)
    (stretches others : List (Stretch Said)) → IsTimelineBy (IsSaidAt format basis name t) from to stretches
    → IsTimelineBy (IsSaidAt format basis name t) from to others → stretches ≡ others
one_of_said one_verdict not_both one_stop format basis name t from to stretches others =
    one_by (IsSaidAt format basis name t)
    (λ moment said other is its. one_said format (at_moment basis moment) name t said other one_verdict not_both one_stop is its)
    from to stretches others
