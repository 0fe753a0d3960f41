use Rattle.std.proofs.Common.{map, refl, arith}
use Rattle.dnsv_records.specs.Dnskey.{IsDnskey}
use Rattle.dnsv_records.specs.Ds.{IsDs}
use Rattle.dnsv_records.specs.Nsec.{IsNsec}
use Rattle.dnsv_records.specs.Nsec3.{IsNsec3}
use Rattle.dnsv_canonical.proofs.ReadableLemmas.WellFormedLemmas.{laid_out_as}
use Rattle.dnsv_canonical.proofs.records.read_records.Goals as goal

pub read_each-requires : goal.read_each-requires
read_each-requires c = λ k. ((refl, tt), laid_out_as IsDnskey c.args.rtype.0 (λ rdata laid. laid.dnskey (omega arith)) (map (λ r. r.now) c.args.received.now) c.requires)

pub read_each-requires-in-DS : goal.read_each-requires-in-DS
read_each-requires-in-DS c = λ k. ((refl, tt), laid_out_as IsDs c.args.rtype.0 (λ rdata laid. laid.ds (omega arith)) (map (λ r. r.now) c.args.received.now) c.requires)

pub read_each-requires-in-NSEC : goal.read_each-requires-in-NSEC
read_each-requires-in-NSEC c = λ k. ((refl, tt), laid_out_as IsNsec c.args.rtype.0 (λ rdata laid. laid.nsec (omega arith)) (map (λ r. r.now) c.args.received.now) c.requires)

pub read_each-requires-in-NSEC3 : goal.read_each-requires-in-NSEC3
read_each-requires-in-NSEC3 c = λ k. ((refl, tt), laid_out_as IsNsec3 c.args.rtype.0 (λ rdata laid. laid.nsec3 (omega arith)) (map (λ r. r.now) c.args.received.now) c.requires)
