use Rattle.dnsv_work.proofs.given.opening_at.Goals as goal

pub returns-in-At-clause-opening : goal.returns-in-At-clause-opening
returns-in-At-clause-opening g c = λ keys_octets macs_octets keys macs. rw c.in-At.is (c.opening_in.ensures.opening keys_octets macs_octets keys macs)

pub returns-in-At-clause-faults : goal.returns-in-At-clause-faults
returns-in-At-clause-faults g c = λ keys_octets macs_octets keys macs. rw c.in-At.is (c.opening_in.ensures.faults keys_octets macs_octets keys macs)

pub returns-in-At-clause-reached : goal.returns-in-At-clause-reached
returns-in-At-clause-reached g c = λ keys_octets macs_octets keys macs. rw c.in-At.is (c.opening_in.ensures.reached keys_octets macs_octets keys macs)
