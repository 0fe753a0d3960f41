use Rattle.dnsv_verdict.proofs.at_name.settling.secure_alias.Goals as goal

pub returns-in_default : goal.returns-in_default
returns-in_default c = λ has. c.in_default.ensures has.1.0 has.1.1 has.1.2
