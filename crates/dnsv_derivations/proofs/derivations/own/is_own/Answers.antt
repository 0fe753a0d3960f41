use Rattle.std.proofs.lemmas.Bool.{false≢true}
use Rattle.dnsv_canonical.specs.SignedData.{IsExpanded}
use Rattle.dnsv_derivations.proofs.lemmas.AnswerLemmas.{not_so, so_not}
use Rattle.dnsv_derivations.proofs.lemmas.derivations.OwnLemmas.{its_own, its_rrsig, none_numbered}
use Rattle.dnsv_derivations.proofs.derivations.own.is_own.Goals as goal

pub returns-in_default : goal.returns-in_default
returns-in_default c = (
  λ never. absurd (false≢true never),
  λ has. absurd (none_numbered c.args.rrset.now c.args.zone.now c.args.number c.signatures.result.now c.signatures.ensures
      c.in_default.ensures has),
)

pub returns-then-is_signer : goal.returns-then-is_signer
returns-then-is_signer c =
    let expanded : Type 0 = IsExpanded c.args.rrset.now.owner c.in-Some.rrsig.now in
    let test = rw c.owner.ensures at c.is_expanded.ensures in (
      λ yes.
          its_own c.args.rrset.now c.args.zone.now c.args.number c.signatures.result.now c.signatures.ensures c.in-Some.rrsig.now
          c.in-Some.ensures (c.is_signer.ensures.0 c.if-is_signer.true) (not_so c.is_expanded.result expanded test yes),
      λ has.
          so_not c.is_expanded.result expanded test
          (its_rrsig c.args.rrset.now c.args.zone.now c.args.number c.signatures.result.now c.signatures.ensures c.in-Some.rrsig.now
          c.in-Some.ensures has).1,
    )

pub returns : goal.returns
returns c = (
  λ never. absurd (false≢true never),
  λ has.
      let same = c.is_signer.ensures.1
      (its_rrsig c.args.rrset.now c.args.zone.now c.args.number c.signatures.result.now c.signatures.ensures c.in-Some.rrsig.now
      c.in-Some.ensures has).0 in
      let isnt = c.if-is_signer.false in
      cc,
)
