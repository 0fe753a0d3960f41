use Rattle.std.specs.Prelude.{◌++◌, codes, string_bytes, true}
use Rattle.dnsv_texts.specs.Checking.{proof_json}
use Rattle.dnsv_lines.proofs.JsonLemmas.{Parted}
use Rattle.dnsv_texts.proofs.json.checking.push_records.Given as goal

abbrev pub invariant-loop-number : goal.invariant-loop-number
invariant-loop-number l =
    Parted (proof_json l.rrsets) l.records l.number-index true (string_bytes l.fn.text ++ codes ",\"records\":[") l.first (string_bytes l.text)
