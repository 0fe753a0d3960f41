use Rattle.std.proofs.Common.{◌∙◌, sym}
use Rattle.std.proofs.lemmas.Bool.{false≢true}
use Rattle.dnsv_derivations.proofs.lemmas.derivations.WayLemmas.NewKeyLemmas.{known_key_set}
use Rattle.dnsv_derivations.proofs.derivations.ways.kept.has_way.Goals as goal

pub returns-in_default : goal.returns-in_default
returns-in_default c = λ setting are is. absurd (false≢true is)

pub returns : goal.returns
returns c = λ setting are is.
    known_key_set setting c.args.known.now are c.args.number c.in-Some.kept.now c.in-Some.ensures (sym c.is_some.ensures ∙ is)
