use Rattle.std.specs.Prelude.{string_bytes}
use Rattle.dnsv_lines.specs.Json.{escaped}
use Rattle.dnsv_lines.proofs.JsonLemmas.{Joined}
use Rattle.dnsv_lines.proofs.json.push_ascii.Given as goal

abbrev pub invariant-loop-octet : goal.invariant-loop-octet
invariant-loop-octet l = Joined escaped l.octets l.octet-index (string_bytes l.fn.text) (string_bytes l.text)
