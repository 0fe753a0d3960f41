use Rattle.dnsv_derivations.specs.Explained.{setting_in}
use Rattle.dnsv_derivations.proofs.lemmas.derivations.HeldLemmas.{held_at_added}
use Rattle.dnsv_derivations.proofs.held.add_held_at.Goals as goal

pub returns : goal.returns
returns c =
    held_at_added (setting_in c.args.evidence.now) c.args.name.now c.capture-capture.result.now.rrsets c.at-signed.result.now
    c.at-keys.result.now c.args.lines.now.items _ _ c.capture-capture.ensures c.at-signed.ensures c.at-keys.ensures
    c.in_ok-add_signed.ensures c.in_ok-add_first.ensures
