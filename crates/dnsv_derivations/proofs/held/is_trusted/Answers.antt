use Rattle.dnsv_derivations.specs.Explained.{setting_in}
use Rattle.dnsv_derivations.proofs.lemmas.derivations.HeldLemmas.{line_or_not}
use Rattle.dnsv_derivations.proofs.held.is_trusted.Goals as goal

pub returns : goal.returns
returns c =
    line_or_not (setting_in c.args.evidence.now) c.args.number c.in_ok-trusted_line.field-0 c.is_some.result c.in_ok-trusted_line.ensures
    c.is_some.ensures
