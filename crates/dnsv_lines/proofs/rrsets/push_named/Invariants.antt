use Rattle.dnsv_lines.specs.Sentence.{rrset_said, said}
use Rattle.dnsv_lines.proofs.JsonLemmas.{Joined}
use Rattle.dnsv_lines.proofs.rrsets.push_named.Given as goal

abbrev pub invariant-loop-field : goal.invariant-loop-field
invariant-loop-field l = Joined (λ field. rrset_said (said field.value)) l.fields l.field-index l.fn.numbers.items l.numbers.items
