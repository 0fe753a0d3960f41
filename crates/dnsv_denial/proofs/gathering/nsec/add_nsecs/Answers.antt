-- no RRset of NSEC records, and one
use Rattle.std.proofs.Common.{◌≡◌, ◌∙◌, true, false, not, nat_eq, refl, ap}
use Rattle.dnsv_denial.proofs.lemmas.gathering.NsecGather.{no_rrset, not_nsec}
use Rattle.dnsv_denial.proofs.gathering.nsec.add_nsecs.Goals as goal

pub returns-in_default : goal.returns-in_default
returns-in_default c =
    let none = no_rrset c.args.capture.now.rrsets c.args.number c.args.entries.now.items c.in_default.ensures in (none.more, none.grown, none.are)

pub returns-then-ne : goal.returns-then-ne
returns-then-ne c =
    let none = not_nsec c.args.capture.now.rrsets c.args.number c.args.entries.now.items c.in-Some.rrset.now c.in-Some.ensures
    (λ is. let same : c.rtype.result.0 ≡ 47 = c.rtype.ensures ∙ is in
    let holds : nat_eq c.rtype.result.0 47 ≡ true = rw same refl in
    let fails : c.ne.result ≡ false = c.ne.ensures ∙ ap not holds in let told = c.if-ne.true in cc) in
    (none.more, none.grown, none.are)

pub returns : goal.returns
returns c = c.in_ok-push_nsecs.ensures c.args.capture.now.rrsets c.in-Some.ensures
