use Rattle.std.proofs.Common.{◌++◌, sym, ap, ◌∙◌, arith}
use Rattle.dnsv_message.proofs.RdataLemmas.{head_fits, NamesRead-next, NamesRead-found, NamesRead-missing, NamesRead-tail}
use Rattle.dnsv_message.proofs.rdata.rdata_at.Goals as goal

pub returns-then-size-layout : goal.returns-then-size-layout
returns-then-size-layout c = λ rdata at.
    omega (arith, c.if-size-layout.true, head_fits c.args.octets.now c.args.layout c.args.start c.args.size rdata at)

pub returns-in_default : goal.returns-in_default
returns-in_default c =
    NamesRead-missing c.args.octets.now c.args.layout c.args.start c.args.size c.loop-read.place c.loop-read.written.items c.loop-read.read c.loop-read.invariant
    (λ i. omega (arith, c.type_inv.octets i)) c.loop-read-test.true c.in_default.ensures

pub loop-read-preserved : goal.loop-read-preserved
loop-read-preserved c =
    NamesRead-next c.args.octets.now c.args.layout c.args.start c.args.size c.loop-read.place c.loop-read.written.items c.loop-read.read c.loop-read.invariant
    c.in-Some.name c.in-Some.end c.extend_from_slice.new.self.items c.loop-read-test.true c.in-Some.ensures
    (c.in_ok-extend_from_slice.ensures.items ∙ ap (λ wire. c.loop-read.written.items ++ wire) c.wire.ensures.octets)

pub returns-then-unwrap_or-rest : goal.returns-then-unwrap_or-rest
returns-then-unwrap_or-rest c =
    NamesRead-tail c.args.octets.now c.args.layout c.args.start c.args.size c.loop-read.place c.loop-read.written.items c.loop-read.read c.loop-read.invariant
    (λ i. omega (arith, c.type_inv.octets i)) (omega (arith, c.loop-read-test.false, c.loop-read.auto.read-end))
    (λ same. c.if-unwrap_or-rest.true (c.unwrap_or.ensures ∙ same))

pub returns : goal.returns
returns c =
    NamesRead-found c.args.octets.now c.args.layout c.args.start c.args.size c.loop-read.place c.loop-read.written.items c.loop-read.read c.loop-read.invariant
    c.extend_from_slice-2.new.self.items (omega (arith, c.loop-read-test.false, c.loop-read.auto.read-end)) (sym c.unwrap_or.ensures ∙ c.if-unwrap_or-rest.false)
    c.in_ok-extend_from_slice-2.ensures.items
