use Rattle.std.proofs.Common.{◌+◌, refl, inl, inr, arith}
use Rattle.dnsv_message.proofs.RecordParts.{head_from, fault_behind}
use Rattle.dnsv_message.proofs.section.record_at.Goals as goal

pub returns-then-octets-start-clause-fault : goal.returns-then-octets-start-clause-fault
returns-then-octets-start-clause-fault c =
    let head = head_from c.args.octets.now c.args.place c.in_ok-name.after_name c.in_ok-name.ensures.found (omega arith) c.u16_at.ensures c.u16_at-2.ensures c.u32_at.ensures c.u16_at-size.ensures in
    inr (fault_behind c.args.number _ head (inl (omega arith, refl)))

pub returns-in_default-clause-fault : goal.returns-in_default-clause-fault
returns-in_default-clause-fault c =
    let head = head_from c.args.octets.now c.args.place c.in_ok-name.after_name c.in_ok-name.ensures.found (omega arith) c.u16_at.ensures c.u16_at-2.ensures c.u32_at.ensures c.u16_at-size.ensures in
    inr (fault_behind c.args.number _ head (inr (omega arith, c.in_default.ensures, refl)))

pub returns-clause-found : goal.returns-clause-found
returns-clause-found c =
    let head = head_from c.args.octets.now c.args.place c.in_ok-name.after_name c.in_ok-name.ensures.found (omega arith) c.u16_at.ensures c.u16_at-2.ensures c.u32_at.ensures c.u16_at-size.ensures in
    record {
      start = c.in_ok-name.after_name + 10;
      size = c.u16_at-size.result;
      head = head;
      whole = omega arith;
      rdata = c.in-Some.ensures;
      ends = refl;
    }
