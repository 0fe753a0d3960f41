use Rattle.dnsv_derivations.specs.Explained.{setting_in}
use Rattle.dnsv_derivations.proofs.lemmas.derivations.WayLemmas.TrustedLemmas.{way_in_or_not}
use Rattle.dnsv_derivations.proofs.derivations.signers.is_trusted.Goals as goal

pub returns : goal.returns
returns c =
    way_in_or_not (setting_in c.args.evidence.now) c.args.number c.args.set.now c.in_ok-first_way.field-0 c.is_some.result
    c.requires.numbered c.in_ok-first_way.ensures c.is_some.ensures
