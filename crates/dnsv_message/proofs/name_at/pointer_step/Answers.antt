use Rattle.std.proofs.Common.{◌-◌, ◌^◌, ◌≤◌, ◌<◌, ℕ, List, arith}
use Rattle.dnsv_message.specs.NameAt.{NumberAt, PointerAt}
use Rattle.dnsv_message.proofs.Numbers.{number_sum}
use Rattle.dnsv_message.proofs.name_at.pointer_step.Goals as goal

-- where an octet of 192 or more stands, two octets are a pointer
pointer_here : (octets : List ℕ) (place octet number : ℕ) → NumberAt octets place 1 octet → 192 ≤ octet → NumberAt octets place 2 number → number < 2 ^ 16
    → (49152 ≤ number) × PointerAt octets place (number - 49152)
pointer_here octets place octet number at top both small =
    let first = number_sum octets place 1 octet at in
    let sum = number_sum octets place 2 number both in
    (omega (arith, first, sum, top), (omega (arith, small), (both.0, omega (arith, first, sum, top, both.1))))

pub overflow_sub-target : goal.overflow_sub-target
overflow_sub-target c = (pointer_here c.args.octets.now c.args.walk.place c.requires.0 c.u16_at.result c.requires.1 c.requires.2 (omega arith, c.u16_at.ensures) (omega arith)).0

pub returns-then-walk-target-clause-fault : goal.returns-then-walk-target-clause-fault
returns-then-walk-target-clause-fault c =
    (c.u16_at.result - 49152, (pointer_here c.args.octets.now c.args.walk.place c.requires.0 c.u16_at.result c.requires.1 c.requires.2 (omega arith, c.u16_at.ensures) (omega arith)).1, c.if-walk-target.true)

pub returns-then-walk-eq0-clause-fault : goal.returns-then-walk-eq0-clause-fault
returns-then-walk-eq0-clause-fault c =
    (c.u16_at.result - 49152, (pointer_here c.args.octets.now c.args.walk.place c.requires.0 c.u16_at.result c.requires.1 c.requires.2 (omega arith, c.u16_at.ensures) (omega arith)).1, c.if-walk-target.false, c.if-walk-eq0.true)

pub returns-else-walk-eq0-clause-step : goal.returns-else-walk-eq0-clause-step
returns-else-walk-eq0-clause-step c =
    ((pointer_here c.args.octets.now c.args.walk.place c.requires.0 c.u16_at.result c.requires.1 c.requires.2 (omega arith, c.u16_at.ensures) (omega arith)).1, c.if-walk-target.false, omega arith)
