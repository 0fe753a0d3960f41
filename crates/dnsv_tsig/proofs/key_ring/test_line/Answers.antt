use Rattle.std.proofs.Common.{sym, ◌∙◌}
use Rattle.dnsv_tsig.proofs.KeyNamesLemmas.{named_more}
use Rattle.dnsv_tsig.proofs.key_ring.test_line.Goals as goal

pub returns-clause-added : goal.returns-clause-added
returns-clause-added c = λ before are.
    named_more c.args.names.now c.add_name.new.names before c.in-Some.ensures are (sym c.has_name.ensures ∙ c.if-has_name.false) c.in_ok-add_name.ensures
