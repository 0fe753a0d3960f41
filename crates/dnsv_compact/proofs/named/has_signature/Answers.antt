use Rattle.dnsv_compact.specs.Named.{named_cmp}
use Rattle.dnsv_compact.specs.declared.named.Named.{Named}
use Rattle.dnsv_compact.proofs.NamedLemmas.{found_at, missed_at, named_Equal, named_cmp_total, named_false, named_true}
use Rattle.dnsv_compact.proofs.named.has_signature.Goals as goal

pub returns-in-Ok : goal.returns-in-Ok
returns-in-Ok c = λ places are.
    let asked : Named = record { rrset = c.args.rrset; signature = c.args.signature } in
    named_true places c.args.rrset c.args.signature ((are.members asked).0 (found_at named_cmp named_cmp_total named_Equal c.args.named.now asked c.in-Ok._place c.in-Ok.ensures.bound c.in-Ok.ensures.ok))

pub returns-in-Err : goal.returns-in-Err
returns-in-Err c = λ places are.
    let asked : Named = record { rrset = c.args.rrset; signature = c.args.signature } in
    named_false places c.args.rrset c.args.signature
    (λ there. missed_at named_cmp named_cmp_total named_Equal c.args.named.now asked c.in-Err._place are.rising c.in-Err.ensures.position ((are.members asked).1 there))
