-- The question that an explanation is of.
use Rattle.std.specs.Prelude.{ℕ, List, map}
use Rattle.dnsv_names.specs.Name.{Labels}
use Rattle.dnsv_verdict.specs.declared.link.Link.{Link}
use Rattle.dnsv_rules.specs.Checked.{Asked}

-- that of the way along the links to the last name
abbrev pub asked_by : List Link → Labels → ℕ → Asked
asked_by links last t = record { aliases = map (λ link. link.name) links; name = last; rtype = t }
