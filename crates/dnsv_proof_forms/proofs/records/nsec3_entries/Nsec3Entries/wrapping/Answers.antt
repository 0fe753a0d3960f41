use Rattle.dnsv_proof_forms.proofs.lemmas.records.HashIndexLemmas.{wrapping_all, wrapping_within}
use Rattle.dnsv_proof_forms.proofs.records.nsec3_entries.Nsec3Entries.wrapping.Goals as goal

pub returns-clause-within : goal.returns-clause-within
returns-clause-within c = rw (← c.self.view_is, c.deref.ensures.value)
    (wrapping_within c.self.inside.entries.items c.self.inside.by_hash.items c.self.inside.reaches.items c.self.inside.wrapping.items c.self.invariant)

pub returns-clause-all : goal.returns-clause-all
returns-clause-all c = λ place entry there wraps. rw c.deref.ensures.value
    (wrapping_all c.self.inside.entries.items c.self.inside.by_hash.items c.self.inside.reaches.items c.self.inside.wrapping.items c.self.invariant
    place entry (rw (← c.self.view_is) at there) wraps)
