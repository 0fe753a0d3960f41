use Rattle.std.proofs.Common.{ap}
use Rattle.clap.specs.Words.{rule_of}
use Rattle.dnsv_commands.proofs.commands.options.needed.Goals as goal

pub returns-clause-rule : goal.returns-clause-rule
returns-clause-rule c = ap rule_of c.required.ensures

pub returns-clause-local : goal.returns-clause-local
returns-clause-local c = ap (λ a. a.global) c.required.ensures
