use Rattle.std.proofs.Common.{ℕ}
use Rattle.std.proofs.lemmas.Cmp.{nat_cmp_total}
use Rattle.std.specs.Ordering.{nat_cmp}
use Rattle.dnsv_verifier.specs.EntryLaws.{octet_Equal}
use Rattle.dnsv_compact.proofs.NamedLemmas.{found_at, missed_at, rrset_false, rrset_true}
use Rattle.dnsv_compact.proofs.named.has_rrset.Goals as goal

pub returns-in-Ok : goal.returns-in-Ok
returns-in-Ok c = λ places are.
    let asked : ℕ = c.args.rrset in
    rrset_true places c.args.rrset ((are.members asked).0 (found_at nat_cmp nat_cmp_total octet_Equal c.args.rrsets.now asked c.in-Ok._place c.in-Ok.ensures.bound c.in-Ok.ensures.ok))

pub returns-in-Err : goal.returns-in-Err
returns-in-Err c = λ places are.
    let asked : ℕ = c.args.rrset in
    rrset_false places c.args.rrset
    (λ there. missed_at nat_cmp nat_cmp_total octet_Equal c.args.rrsets.now asked c.in-Err._place are.rising c.in-Err.ensures.position ((are.members asked).1 there))
