use Rattle.std.specs.FinSet as set
use Rattle.std.proofs.Common.{Bool, ℕ, sym, ◌∙◌, subst}
use Rattle.std.proofs.lemmas.Bool.{false≢true}
use Rattle.std.proofs.lemmas.Option.{MatchOption-at_none, MatchOption-at_some}
use Rattle.dnsv_canonical.specs.Rrsets.{IsNumbered}
use Rattle.dnsv_canonical.specs.declared.number.RecordNumber.{RecordNumber}
use Rattle.dnsv_names.specs.Name.{rightmost}
use Rattle.dnsv_proof_forms.specs.records.Numbers.{number_at, numbers_of}
use Rattle.dnsv_gaps.specs.SourceSearch.{said_in}
use Rattle.dnsv_gaps.specs.questions.Cuts.{IsHeldInstead, IsLowestAt}
use Rattle.dnsv_gaps.proofs.QuestionLemmas.CutCaseLemmas.{held_there, types_there}
use Rattle.dnsv_gaps.proofs.SayingLemmas.{its_evidence}
use Rattle.dnsv_gaps.proofs.question.cuts.case.lowest_case.Goals as goal

pub returns-then-not-contains : goal.returns-then-not-contains
returns-then-not-contains c =
    let question = c.args.question.now in
    let source = c.args.source.now in
    let told : ℕ → Bool = λ t. set.contains c.types-types.result.now t in (
      c.requires.none,
      (
        number_at (numbers_of source.records) c.args.place,
        (
          c.requires.lowest.lowest,
          (types_there question source c.requires.source c.args.name c.args.place told _ c.requires.lowest c.types-types.ensures).1
              (λ ns. false≢true (sym c.if-not-contains.true ∙ c.contains.ensures ∙ ns)),
        ),
      ),
    )

pub returns-in_default : goal.returns-in_default
returns-in_default c =
    let question = c.args.question.now in
    let there = its_evidence question c.args.source.now c.requires.source c.args.place c.requires.lowest.within in
    absurd (MatchOption-at_none _ _ c.in_default.is c.in_ok-rrset.ensures there.0
    (subst (λ (n : RecordNumber). IsNumbered question.facts.now.rrsets n.rrset there.0) (sym c.number-number.ensures) there.1))

pub returns : goal.returns
returns c =
    let question = c.args.question.now in
    let source = c.args.source.now in
    let cut = rightmost question.name.now c.args.name in
    let held = c.held_instead-held.result in
    let told : ℕ → Bool = λ t. set.contains c.types-types.result.now t in (
      c.requires.none,
      subst (λ (n : RecordNumber). IsLowestAt (said_in question source) cut (λ has. IsHeldInstead has held) n) (sym c.number-number.ensures) (
        c.requires.lowest.lowest,
        (types_there question source c.requires.source c.args.name c.args.place told (λ has. IsHeldInstead has held) c.requires.lowest c.types-types.ensures).1
            (held_there question source c.requires.source c.args.name c.args.place told held c.requires.lowest c.types-types.ensures c.requires.none
            (sym c.contains.ensures ∙ c.if-not-contains.false) c.held_instead-held.ensures),
      ),
      MatchOption-at_some _ _ c.in-Some.rrset c.in-Some.is c.in_ok-rrset.ensures,
    )
