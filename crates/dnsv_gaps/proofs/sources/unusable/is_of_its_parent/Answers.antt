use Rattle.std.proofs.Common.{refl}
use Rattle.std.proofs.lemmas.Bool.{false≢true}
use Rattle.dnsv_gaps.proofs.AnswerLemmas.{none_in, not_none, zip_nothing, zip_something}
use Rattle.dnsv_gaps.proofs.UnusableLemmas.{no_parent, signed_parent, unsigned_parent}
use Rattle.dnsv_gaps.proofs.sources.unusable.is_of_its_parent.Goals as goal

pub returns-in_default : goal.returns-in_default
returns-in_default c = (
  λ yes. absurd (false≢true yes),
  λ is. absurd (no_parent c.args.rrset.now c.owner.result.now c.owner.ensures c.in_default.ensures is),
)

pub returns-then-is_empty : goal.returns-then-is_empty
returns-then-is_empty c = (
  λ yes. unsigned_parent c.args.rrset.now c.owner.result.now c.owner.ensures c.in-Some.ensures.0 c.in-Some.parent c.in-Some.ensures.1
      (zip_nothing c.args.rrset.now.signatures c.signatures.result.now c.signatures.ensures
      (none_in c.signatures.result.now c.is_empty.result c.is_empty.ensures c.if-is_empty.true)),
  λ is. refl,
)

pub returns : goal.returns
returns c =
    let same = signed_parent c.args.rrset.now c.owner.result.now c.owner.ensures c.in-Some.ensures.0 c.in-Some.parent c.in-Some.ensures.1
    (zip_something c.args.rrset.now.signatures c.signatures.result.now c.signatures.ensures
    (not_none c.signatures.result.now c.is_empty.result c.is_empty.ensures c.if-is_empty.false)) in
    (λ yes. same.0 (c.has_signer.ensures.0 yes), λ is. c.has_signer.ensures.1 (same.1 is))
