use Rattle.dnsv_lines.proofs.JsonLemmas.{text_ascii}
use Rattle.dnsv_lines.proofs.json.push_spelled.Goals as goal

pub push_ascii-requires : goal.push_ascii-requires
push_ascii-requires c = rw (c.as_bytes.ensures.value, c.as_str.ensures.value, c.text-spelled.ensures) (text_ascii c.args.name.now c.wire-wire.ensures.name)
