-- Which lines say what fails, and not only what follows from that.
use Rattle.std.specs.Prelude.{Bool, true}
use Rattle.dnsv_mending.specs.Reasons as trust
use Rattle.dnsv_remedies.specs.declared.said.Said.{Said}
use Rattle.dnsv_remedies.specs.declared.said.Said.TheVariants as said

abbrev pub is_reason : Said → Bool
is_reason (said.Trust told) = trust.is_reason told
is_reason (said.NoCloser signature name) = true
is_reason (said.Dname d) = true
is_reason (said.DnameHeld name n) = true
is_reason (said.Nsec3 why n) = true
is_reason (said.Source why source name) = true
is_reason (said.AnswerMissing z) = true
is_reason (said.DenialUnproved z) = true
is_reason (said.DsUnproved c) = true
