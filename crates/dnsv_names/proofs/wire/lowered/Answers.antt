use Rattle.std.proofs.Common.{◌≡◌, length, map, ap, ◌∙◌}
use Rattle.std.proofs.lemmas.List.{length-map}
use Rattle.std.specs.Char.{to_ascii_lowercase}
use Rattle.dnsv_names.proofs.NameLemmas.{refill_same}
use Rattle.dnsv_names.proofs.wire.lowered.Goals as goal

pub returns : goal.returns
returns c =
    let after : c.make_ascii_lowercase.new.self ≡ map to_ascii_lowercase c.copied-lowered.result.items = c.make_ascii_lowercase.ensures.after ∙ ap (map to_ascii_lowercase) c.as_mut_slice.ensures.value in
    refill_same c.copied-lowered.result.items c.make_ascii_lowercase.new.self (ap length after ∙ length-map c.copied-lowered.result.items to_ascii_lowercase)
    ∙ after ∙ ap (map to_ascii_lowercase) c.copied-lowered.ensures
