use Rattle.std.proofs.Common.{◌++◌, ◌∙◌, sym}
use Rattle.dnsv_tsig.proofs.TsigLemmas.{lacks-append, lacks-front, lacks-back}
use Rattle.dnsv_tsig.proofs.signature.lack_tsig.Goals as goal

pub returns-then-not-lacks_tsig-2 : goal.returns-then-not-lacks_tsig-2
returns-then-not-lacks_tsig-2 c =
    let a = c.args.answer.now in
    let b = c.args.authority.now in
    let d = c.args.additional.now in
    (λ no. cc, λ all. sym c.if-not-lacks_tsig-2.true ∙ c.lacks_tsig-2.ensures.1 (lacks-back a b (lacks-front (a ++ b) d all)))

pub returns : goal.returns
returns c =
    let a = c.args.answer.now in
    let b = c.args.authority.now in
    let d = c.args.additional.now in
    let first = c.lacks_tsig.ensures.0 c.if-not-lacks_tsig.false in
    let second = c.lacks_tsig-2.ensures.0 c.if-not-lacks_tsig-2.false in (
      λ lacking. lacks-append (a ++ b) d (lacks-append a b first second) (c.lacks_tsig-3.ensures.0 lacking),
      λ all. c.lacks_tsig-3.ensures.1 (lacks-back (a ++ b) d all),
    )
