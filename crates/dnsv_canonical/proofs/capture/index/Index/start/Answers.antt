use Rattle.std.proofs.Common.{arith}
use Rattle.dnsv_canonical.proofs.IndexLemmas.Layout.{start_past, start_read}
use Rattle.dnsv_canonical.proofs.capture.index.Index.start.Goals as goal

pub returns-then-place-len : goal.returns-then-place-len
returns-then-place-len c = λ groups laid.
    start_read c.args.self.now.numbers.items c.args.self.now.starts.items groups c.args.place c.index.result.now laid (omega (arith, c.if-place-len.true, c.len.ensures, c.args.self.now.starts.ok.0)) c.index.ensures

pub returns-else-place-len : goal.returns-else-place-len
returns-else-place-len c = λ groups laid.
    omega (arith, c.len-else-place-len.ensures, c.args.self.now.numbers.ok.0, start_past c.args.self.now.numbers.items c.args.self.now.starts.items groups c.args.place laid (omega (arith, c.if-place-len.false, c.len.ensures, c.args.self.now.starts.ok.0)))
