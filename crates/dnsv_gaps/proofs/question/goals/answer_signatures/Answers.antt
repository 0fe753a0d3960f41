use Rattle.std.proofs.Common.{◌++◌, ◌∷◌, [], List, length, map, append-nil, sym, ap, subst, ◌∙◌}
use Rattle.std.proofs.lemmas.List.{map-append}
use Rattle.std.specs.List.{AllByRecursion}
use Rattle.dnsv_canonical.proofs.ListLemmas.{none_left, parts_more, size_more}
use Rattle.dnsv_mending.specs.declared.facts.signature.SignatureFacts.{SignatureFacts}
use Rattle.dnsv_remedies.specs.declared.facts.answer.AnswerSignature.{AnswerSignature}
use Rattle.dnsv_gaps.specs.Asking.{asking}
use Rattle.dnsv_gaps.specs.questions.Goals.{HasItsCloser}
use Rattle.dnsv_gaps.specs.questions.CloserSearch.{IsOneOf}
use Rattle.dnsv_gaps.proofs.QuestionLemmas.ListingLemmas.{each_more}
use Rattle.dnsv_gaps.proofs.question.goals.answer_signatures.Goals as goal

abbrev signature_of : AnswerSignature → SignatureFacts
signature_of each = each.signature

pub loop-signature-init : goal.loop-signature-init
loop-signature-init c =
    let rest = c.into_iter-signature-iterator.result.rest.items in (
      ap (λ (all : List AnswerSignature). map signature_of all ++ rest) c.in_ok-all.ensures.items ∙ c.into_iter-signature-iterator.ensures.into_iter_gives.0,
      c.into_iter-signature-iterator.ensures.into_iter_gives.1 ∙ c.args.known.ok.0 ∙ ap length (sym c.into_iter-signature-iterator.ensures.into_iter_gives.0),
      subst (λ (all : List AnswerSignature). AllByRecursion (HasItsCloser (asking c.args.question.now) c.args.rrset.now) all) (sym c.in_ok-all.ensures.items) tt,
      subst (λ (each : List SignatureFacts). AllByRecursion (IsOneOf c.args.rrset.now) each) (sym c.into_iter-signature-iterator.ensures.into_iter_gives.0) c.requires.each,
    )

pub closer_of-requires-clause-its : goal.closer_of-requires-clause-its
closer_of-requires-clause-its c =
    (subst (λ (each : List SignatureFacts). AllByRecursion (IsOneOf c.args.rrset.now) each) c.in-Some.ensures.steps.0 c.loop-signature.invariant.3).0

pub loop-signature-preserved : goal.loop-signature-preserved
loop-signature-preserved c =
    let all = c.loop-signature.all.items in
    let left = c.loop-signature.signature-iterator.rest.items in
    let rest = c.next.new.self.rest.items in
    let made : AnswerSignature = record { signature = c.in-Some.signature; closer = c.in_ok-closer.closer } in
    let Its : AnswerSignature → Type 0 = HasItsCloser (asking c.args.question.now) c.args.rrset.now in (
      ap (λ (each : List AnswerSignature). map signature_of each ++ rest) c.in_ok-push.ensures.items
          ∙ ap (λ (each : List SignatureFacts). each ++ rest) (map-append signature_of all (made ∷ []))
          ∙ parts_more (map signature_of all) left rest c.args.known.items c.in-Some.signature c.in-Some.ensures.steps.0 c.loop-signature.invariant.0,
      size_more left rest c.in-Some.signature c.loop-signature.signature-iterator.rest.len c.next.new.self.rest.len c.in-Some.ensures.steps.0
          c.in-Some.ensures.steps.1 c.loop-signature.invariant.1,
      subst (λ (each : List AnswerSignature). AllByRecursion Its each) (sym c.in_ok-push.ensures.items)
          (each_more Its all made c.loop-signature.invariant.2 c.in_ok-closer.ensures),
      (subst (λ (each : List SignatureFacts). AllByRecursion (IsOneOf c.args.rrset.now) each) c.in-Some.ensures.steps.0 c.loop-signature.invariant.3).1,
    )

pub returns-clause-signatures : goal.returns-clause-signatures
returns-clause-signatures c =
    let all = map signature_of c.loop-signature.all.items in
    sym (append-nil all)
    ∙ ap (λ (each : List SignatureFacts). all ++ each) (sym (none_left c.loop-signature.signature-iterator.rest.items
    c.loop-signature.signature-iterator.rest.len c.in-None.ensures.steps.0 c.loop-signature.invariant.1))
    ∙ c.loop-signature.invariant.0

pub returns-clause-closers : goal.returns-clause-closers
returns-clause-closers c = c.loop-signature.invariant.2
