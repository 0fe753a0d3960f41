use Rattle.std.proofs.Common.{◌≡◌, ◌++◌, take, map}
use Rattle.std.specs.Char.{to_ascii_lowercase}
use Rattle.dnsv_canonical.proofs.form.names_lowered.Given as goal

-- what stands before the names, and their octets so far
abbrev pub invariant-loop-octet : goal.invariant-loop-octet
invariant-loop-octet l = l.form.items ≡ take l.fn.before l.fn.rdata ++ map to_ascii_lowercase (take l.octet-index l.names)
