use Rattle.std.proofs.Common.{◌<◌, length, rules}
use Rattle.dnsv_lines.proofs.JsonLemmas.{Joined-next}
use Rattle.dnsv_evidence_texts.proofs.todo.push_entries.Goals as goal

pub loop-place-preserved : goal.loop-place-preserved
loop-place-preserved c =
    let within : c.loop-place.place < length c.args.entries.now = search rules in
    Joined-next c.loop-place.invariant c.at.result _ within c.at.ensures c.in_ok-push_entry.ensures
