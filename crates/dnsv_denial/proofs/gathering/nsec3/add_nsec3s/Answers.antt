-- no RRset of NSEC3 records of the zone, and one
use Rattle.std.proofs.Common.{◌≡◌, ◌∙◌, true, false, not, nat_eq, refl, ap}
use Rattle.dnsv_denial.proofs.lemmas.gathering.Nsec3Gather.{no_rrset3, not_nsec3, not_of_zone}
use Rattle.dnsv_denial.proofs.gathering.nsec3.add_nsec3s.Goals as goal

pub returns-in_default : goal.returns-in_default
returns-in_default c =
    let none = no_rrset3 c.args.capture.now.rrsets c.args.zone.now c.args.number c.args.entries.now.items c.in_default.ensures in (none.more, none.grown, none.are)

pub returns-then-ne : goal.returns-then-ne
returns-then-ne c =
    let none = not_nsec3 c.args.capture.now.rrsets c.args.zone.now c.args.number c.args.entries.now.items c.in-Some.rrset.now c.in-Some.ensures
    (λ is. let same : c.rtype.result.0 ≡ 50 = c.rtype.ensures ∙ is in
    let holds : nat_eq c.rtype.result.0 50 ≡ true = rw same refl in
    let fails : c.ne.result ≡ false = c.ne.ensures ∙ ap not holds in let told = c.if-ne.true in cc) in
    (none.more, none.grown, none.are)

pub returns-in_default-owner_hash : goal.returns-in_default-owner_hash
returns-in_default-owner_hash c =
    let none = not_of_zone c.args.capture.now.rrsets c.args.zone.now c.args.number c.args.entries.now.items c.in-Some.rrset.now c.in-Some.ensures
    (rw c.owner.ensures at c.in_default-owner_hash.ensures) in
    (none.more, none.grown, none.are)

pub returns : goal.returns
returns c = c.in_ok-push_nsec3s.ensures c.args.capture.now.rrsets c.in-Some.ensures
