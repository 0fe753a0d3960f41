use Rattle.std.specs.Prelude.{string_bytes}
use Rattle.dnsv_texts.specs.Checking.{alias_line}
use Rattle.dnsv_lines.proofs.JsonLemmas.{Joined}
use Rattle.dnsv_texts.proofs.checking.push_aliases.Given as goal

abbrev pub invariant-loop-link : goal.invariant-loop-link
invariant-loop-link l = Joined alias_line l.links l.link-index (string_bytes l.fn.text) (string_bytes l.text)
