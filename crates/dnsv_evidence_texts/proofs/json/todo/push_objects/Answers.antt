use Rattle.std.proofs.Common.{◌<◌, length, rules, string_bytes}
use Rattle.dnsv_lines.proofs.JsonLemmas.{Parted-next}
use Rattle.dnsv_evidence_texts.proofs.json.todo.push_objects.Goals as goal

pub loop-place-preserved : goal.loop-place-preserved
loop-place-preserved c =
    let within : c.loop-place.place < length c.args.entries.now = search rules in
    Parted-next c.loop-place.invariant c.at.result c.push_entry.new.first (string_bytes c.push_entry.new.text) within c.at.ensures
    c.in_ok-push_entry.ensures.text c.in_ok-push_entry.ensures.first
