use Rattle.std.specs.Prelude.{string_bytes}
use Rattle.dnsv_texts.specs.Told.{alias_words}
use Rattle.dnsv_lines.proofs.JsonLemmas.{Joined}
use Rattle.dnsv_texts.proofs.words.push_aliases.Given as goal

abbrev pub invariant-loop-link : goal.invariant-loop-link
invariant-loop-link l = Joined alias_words l.links l.link-index (string_bytes l.fn.text) (string_bytes l.text)
