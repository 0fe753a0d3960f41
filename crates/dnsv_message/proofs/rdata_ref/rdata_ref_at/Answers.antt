use Rattle.std.proofs.Common.{arith}
use Rattle.dnsv_message.specs.Layout.{layout_of}
use Rattle.dnsv_message.proofs.FollowLemmas.{octets_are}
use Rattle.dnsv_message.proofs.FollowLemmas.RdataFollowed.{rdata_stands_by}
use Rattle.dnsv_message.proofs.rdata_ref.rdata_ref_at.Goals as goal

pub invariant_of-result : goal.invariant_of-result
invariant_of-result c =
    let found = rw c.of.ensures at (c.is_laid_out.ensures.stands c.if-is_laid_out.true) in
    rdata_stands_by c.args.octets.now (layout_of c.args.rtype.0 c.args.class.0) c.args.start c.args.size found.0
    (octets_are c.args.octets.now (λ i. omega (arith, c.type_inv.octets i))) c.requires found.1

pub returns-then-is_laid_out : goal.returns-then-is_laid_out
returns-then-is_laid_out c = (invariant_of-result c).rdata

pub returns-else-is_laid_out : goal.returns-else-is_laid_out
returns-else-is_laid_out c = rw c.of.ensures at (c.is_laid_out.ensures.none c.if-is_laid_out.false)
