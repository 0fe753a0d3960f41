use Rattle.dnsv_names.proofs.EndLemmas.{end_stops}
use Rattle.dnsv_names.proofs.wire.lower.alike_at_end.Goals as goal

pub returns-then-not-is_same_octet-clause-most : goal.returns-then-not-is_same_octet-clause-most
returns-then-not-is_same_octet-clause-most c = λ n alike.
    end_stops c.args.a.now c.args.b.now c.loop-alike.alike n c.is_same_octet.result c.is_same_octet.ensures c.if-not-is_same_octet.true alike
