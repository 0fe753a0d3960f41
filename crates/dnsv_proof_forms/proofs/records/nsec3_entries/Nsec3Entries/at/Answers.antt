use Rattle.std.proofs.Common.{◌-◌, arith, ap, length}
use Rattle.dnsv_proof_forms.proofs.lemmas.records.HashIndexLemmas.{at_all, part_within}
use Rattle.dnsv_proof_forms.proofs.records.nsec3_entries.Nsec3Entries.at.Goals as goal

pub between-requires : goal.between-requires
between-requires c = omega (arith, c.count_up_to-end.ensures.bound, ap length c.deref-2.ensures.value, ap length c.deref-3.ensures.value)

pub returns-clause-within : goal.returns-clause-within
returns-clause-within c = rw (← c.self.view_is, c.between.ensures, c.deref-3.ensures.value)
    (part_within c.self.inside.entries.items c.self.inside.by_hash.items c.self.inside.reaches.items c.self.inside.wrapping.items c.self.invariant
    c.count_before-start.result (c.count_up_to-end.result - c.count_before-start.result))

pub returns-clause-all : goal.returns-clause-all
returns-clause-all c = λ place entry there is. rw (c.between.ensures, c.deref-3.ensures.value)
    (at_all c.self.inside.entries.items c.self.inside.by_hash.items c.self.inside.reaches.items c.self.inside.wrapping.items c.self.invariant
    c.args.hash.now c.count_before-start.result (rw c.deref.ensures.value at c.count_before-start.ensures.parted)
    c.count_up_to-end.result (rw c.deref-2.ensures.value at c.count_up_to-end.ensures.parted) place entry (rw (← c.self.view_is) at there) is)
