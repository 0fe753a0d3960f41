use Rattle.std.proofs.Common.{[], refl}
use Rattle.dnsv_canonical.proofs.ListLemmas.{each_borrowed, read_more}
use Rattle.dnsv_canonical.proofs.records.read_each.Goals as goal

pub read_one-requires : goal.read_one-requires
read_one-requires g c = λ k. ((refl, tt), each_borrowed _ c.args.received.now c.loop-rdata.rdata-index _ c.requires c.loop-rdata-test.true)

pub loop-rdata-preserved : goal.loop-rdata-preserved
loop-rdata-preserved g c =
    read_more g.T.FromRdata.is_read c.args.received.now c.loop-rdata.rdata-index (record { ref_ptr = (0, 0); now = [] }) c.loop-rdata.records.items c.push.new.self.items c.read_one.result
    c.loop-rdata-test.true c.loop-rdata.invariant c.read_one.ensures c.in_ok-push.ensures.items
