use Rattle.std.proofs.Common.{sym, ◌∙◌}
use Rattle.dnsv_proof_forms.proofs.lemmas.records.HashPlaceLemmas.{behind_not_less, itself_not_less, lt_tells}
use Rattle.dnsv_proof_forms.proofs.records.hash_places.farther.Goals as goal

pub returns-then-lt-clause-one : goal.returns-then-lt-clause-one
returns-then-lt-clause-one c = behind_not_less c.args.one c.args.other (lt_tells c.args.one c.args.other (sym c.lt.ensures ∙ c.if-lt.true))

pub returns-then-lt-clause-other : goal.returns-then-lt-clause-other
returns-then-lt-clause-other c = itself_not_less c.args.other

pub returns-clause-one : goal.returns-clause-one
returns-clause-one c = itself_not_less c.args.one
