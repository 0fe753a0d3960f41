use Rattle.std.proofs.Common.{arith}
use Rattle.dnsv_message.proofs.FitLemmas.{IsMessage-fits}
use Rattle.dnsv_message.proofs.message.Message.header.Goals as goal

pub overflow_cast-len : goal.overflow_cast-len
overflow_cast-len c = omega (arith, (IsMessage-fits _ c.self.invariant).question_count, c.len.ensures)

pub overflow_cast-len-2 : goal.overflow_cast-len-2
overflow_cast-len-2 c = omega (arith, (IsMessage-fits _ c.self.invariant).answer_count, c.len-2.ensures)

pub overflow_cast-len-3 : goal.overflow_cast-len-3
overflow_cast-len-3 c = omega (arith, (IsMessage-fits _ c.self.invariant).authority_count, c.len-3.ensures)

pub overflow_cast-len-4 : goal.overflow_cast-len-4
overflow_cast-len-4 c = omega (arith, (IsMessage-fits _ c.self.invariant).additional_count, c.len-4.ensures)
