use Rattle.std.proofs.Common.{◌≡◌, ◌∙◌, true, false, not, nat_eq, refl, ap}
use Rattle.dnsv_gaps.proofs.UnusableLemmas.{no_rrset, not_nsec3}
use Rattle.dnsv_gaps.proofs.sources.unusable.add_unusable.Goals as goal

pub returns-in_default : goal.returns-in_default
returns-in_default c =
    let none = no_rrset c.args.capture.now.rrsets c.args.zone.now c.args.number c.args.unusable.now.items c.in_default.ensures in
    (none.more, none.grown, none.are)

pub returns-then-ne : goal.returns-then-ne
returns-then-ne c =
    let none = not_nsec3 c.args.capture.now.rrsets c.args.zone.now c.args.number c.args.unusable.now.items c.in-Some.rrset.now c.in-Some.ensures
    (λ is. let same : c.rtype.result.0 ≡ 50 = c.rtype.ensures ∙ is in
    let holds : nat_eq c.rtype.result.0 50 ≡ true = rw same refl in
    let fails : c.ne.result ≡ false = c.ne.ensures ∙ ap not holds in let told = c.if-ne.true in cc) in
    (none.more, none.grown, none.are)

pub returns : goal.returns
returns c = c.in_ok-push_unusable.ensures c.args.capture.now.rrsets c.in-Some.ensures
