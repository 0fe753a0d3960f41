use Rattle.std.proofs.Common.{take}
use Rattle.dnsv_anchors.specs.Ds.DsReading.{IsLeading}
use Rattle.dnsv_anchors.proofs.usable.leading_digest_type.Given as goal

abbrev pub invariant-loop-ds : goal.invariant-loop-ds
invariant-loop-ds l = IsLeading (take l.ds-index l.records) l.leading
