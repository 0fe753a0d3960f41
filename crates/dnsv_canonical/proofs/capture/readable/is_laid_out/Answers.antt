use Rattle.std.proofs.Common.{arith}
use Rattle.dnsv_records.specs.Nsec.{IsNsec}
use Rattle.dnsv_records.specs.Nsec3.{IsNsec3}
use Rattle.dnsv_canonical.proofs.ReadableLemmas.{reads_decide, laid_out_nsec, laid_out_nsec3}
use Rattle.dnsv_canonical.proofs.capture.readable.is_laid_out.Goals as goal

pub returns-in-NSEC : goal.returns-in-NSEC
returns-in-NSEC c =
    laid_out_nsec c.args.rtype.0 c.args.rdata.now (omega arith) c.is_ok-in-NSEC.result
    (rw c.is_ok-in-NSEC.ensures.value (reads_decide (IsNsec c.args.rdata.now) c.read-in-NSEC.result c.read-in-NSEC.ensures.found c.read-in-NSEC.ensures.every))

pub returns-in-NSEC3 : goal.returns-in-NSEC3
returns-in-NSEC3 c =
    laid_out_nsec3 c.args.rtype.0 c.args.rdata.now (omega arith) c.is_ok-in-NSEC3.result
    (rw c.is_ok-in-NSEC3.ensures.value (reads_decide (IsNsec3 c.args.rdata.now) c.read-in-NSEC3.result c.read-in-NSEC3.ensures.found c.read-in-NSEC3.ensures.every))
