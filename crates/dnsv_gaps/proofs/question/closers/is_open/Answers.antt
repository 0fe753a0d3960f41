use Rattle.std.proofs.Common.{subst, sym}
use Rattle.dnsv_names.specs.Name.{IsAtOrBelow, Labels}
use Rattle.dnsv_canonical.specs.SignedData.{IsExpanded}
use Rattle.dnsv_chain.specs.Trust.{SecuredIn}
use Rattle.dnsv_denial.specs.Viewed.{Viewed}
use Rattle.dnsv_denial.specs.proving.FirstProof.{CanProveNoCloser, IsFirstNoCloser}
use Rattle.dnsv_gaps.specs.Asking.{asking}
use Rattle.dnsv_gaps.specs.questions.Closers.{IsCloserDenied}
use Rattle.dnsv_gaps.proofs.QuestionLemmas.CloserLemmas.{denied_by_trust, denied_from_trust, none_proved}
use Rattle.dnsv_gaps.proofs.question.closers.is_open.Goals as goal

pub returns : goal.returns
returns c =
    let question = c.args.question.now in
    let view = c.args.view.now in
    let name = question.name.now in
    let rrsig = c.args.rrsig.now in
    let Expanded : Labels → Type 0 = λ owner. IsExpanded owner rrsig in
    let Above : Labels → Type 0 = λ signer. IsAtOrBelow name signer in
    let In : Viewed → Type 0 = λ v. CanProveNoCloser (SecuredIn v.trust) v.rrsets v.name rrsig.labels rrsig.signer in
    let open_or_not = none_proved c.no_closer.result c.is_none.result (In view) (IsCloserDenied (asking question) rrsig.labels rrsig.signer)
    (IsFirstNoCloser (SecuredIn view.trust) view.rrsets view.name rrsig.labels rrsig.signer)
    (λ can. denied_from_trust question.facts.now c.requires.view.trust name rrsig.labels rrsig.signer (subst In c.requires.view.is can))
    (λ can. subst In (sym c.requires.view.is) (denied_by_trust question.facts.now c.requires.view.trust name rrsig.labels rrsig.signer can))
    (λ proof found. (found.chain, found.stands)) (rw c.to_name-signer.ensures at c.no_closer.ensures.first) c.is_none.ensures in (
      λ yes. record {
        expanded = subst Expanded c.owner.ensures (c.is_expanded.ensures.0 c.if-not-is_expanded.false);
        above = subst Above c.to_name-signer.ensures (c.is_at_or_below.ensures.at_or_below.0 c.if-not-is_at_or_below.false);
        may = rw (← c.to_name-signer.ensures, ← c.rtype.ensures, ← c.owner-2.ensures) (c.may_sign.ensures.0 c.if-not-may_sign.false);
        unproved = open_or_not.0 yes;
      },
      λ is. open_or_not.1 is.unproved,
    )
