use Rattle.std.proofs.Common.{arith}
use Rattle.dnsv_gaps.proofs.QuestionLemmas.CloserLemmas.{in_range, signature_at}
use Rattle.dnsv_gaps.proofs.question.closers.closer_of.Goals as goal

pub returns-then-number-eq0 : goal.returns-then-number-eq0
returns-then-number-eq0 c =
    let from = c.requires.its.1.numbered.0 in let none = c.if-number-eq0.true in absurd (omega (arith, from, none))

pub returns-then-number-rrsigs : goal.returns-then-number-rrsigs
returns-then-number-rrsigs c =
    let range = in_range c.args.rrset.now c.signatures-rrsigs.result.now c.args.number c.requires.its.0 c.signatures-rrsigs.ensures c.requires.its.1 in
    let within = range.1 in let past = c.if-number-rrsigs.true in absurd (omega (arith, within, past))

pub returns : goal.returns
returns c =
    let range = in_range c.args.rrset.now c.signatures-rrsigs.result.now c.args.number c.requires.its.0 c.signatures-rrsigs.ensures c.requires.its.1 in
    record {
      rrsig = c.index-rrsigs-number.result;
      its = signature_at c.args.rrset.now c.signatures-rrsigs.result.now c.args.number c.index-rrsigs-number.result c.signatures-rrsigs.ensures
          range.0 range.1 c.index-rrsigs-number.is;
      is = c.in_ok-closer_by.ensures;
    }
