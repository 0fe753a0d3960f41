-- An order of the parameters of NSEC3 records (RFC 5155 3.1.3, 3.1.5), which is this project's own.
use Rattle.std.specs.Ordering.{nat_cmp, ordering_then}
use Rattle.std.specs.declared.cmp.Ordering.{Ordering}
use Rattle.dnsv_names.specs.Octets.{octets_cmp}
use Rattle.dnsv_zones.specs.chains.Nsec3Chain.{Parameters}

-- by iterations, and then by the salt as unsigned octets, a missing one first
abbrev pub parameters_cmp : Parameters → Parameters → Ordering
parameters_cmp a b = ordering_then (nat_cmp a.iterations b.iterations) (octets_cmp a.salt b.salt)
