use Rattle.std.proofs.Common.{length}
use Rattle.dnsv_derivations.specs.Explained.{setting_in}
use Rattle.dnsv_derivations.proofs.lemmas.NumberedLemmas.{in_list}
use Rattle.dnsv_derivations.proofs.lemmas.derivations.WayLemmas.NewKeyLemmas.{had_by}
use Rattle.dnsv_derivations.proofs.derivations.ways.kept.is_had_by.Goals as goal

pub returns : goal.returns
returns c = λ is.
    had_by (setting_in c.args.evidence.now) (length c.args.before.now) c.args.number c.in-Some.set.now c.args.rdata.now
    (c.has_way.ensures (setting_in c.args.evidence.now) c.requires c.if-not-has_way.false)
    (in_list c.args.evidence.now.rrsets c.rrsets.result.now c.args.number c.in-Some.set.now c.rrsets.ensures c.in-Some.ensures)
    (c.has_rdata.ensures is)
