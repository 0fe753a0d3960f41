use Rattle.std.proofs.Common.{◌-◌, length, map}
use Rattle.std.specs.Option.{option_copied}
use Rattle.dnsv_names.proofs.LineLemmas.FieldLemmas.{ReadsFields}
use Rattle.dnsv_names.proofs.lines.Line.fields.Given as goal

abbrev pub invariant-loop-rest : goal.invariant-loop-rest
invariant-loop-rest g l = ReadsFields l.self.octets (map (λ field. field.now) l.fields.items) (option_copied l.rest)

abbrev pub decreases-loop-rest : goal.decreases-loop-rest
decreases-loop-rest g l = g.row.N - length l.fields.items
