use Rattle.std.proofs.Common.{◌≤◌, ◌<◌, length, take, arith, length-take}
use Rattle.dnsv_records.proofs.Base32Lemmas.{number_below}
use Rattle.dnsv_names.specs.PartLaws.{octets_fit, recursion-take}
use Rattle.dnsv_records.proofs.base32hex.number_of.Goals as goal

pub overflow_mul-number : goal.overflow_mul-number
overflow_mul-number c =
    let few : length (take c.loop-octet.octet-index c.args.octets.now) ≤ 4 = omega (arith, length-take c.loop-octet.octet-index c.args.octets.now) in
    omega (
      arith,
      c.loop-octet.invariant,
      number_below 256 4 (take c.loop-octet.octet-index c.args.octets.now) (omega arith)
          (recursion-take (λ octet. octet < 256) c.loop-octet.octet-index c.args.octets.now (octets_fit c.args.octets.now (λ i. omega (arith, c.type_inv.octets i)))) few,
    )

pub overflow_add-number : goal.overflow_add-number
overflow_add-number c =
    let few : length (take c.loop-octet.octet-index c.args.octets.now) ≤ 4 = omega (arith, length-take c.loop-octet.octet-index c.args.octets.now) in
    omega (
      arith,
      c.type_inv.octets c.loop-octet.octet-index,
      c.from.ensures,
      c.loop-octet.invariant,
      number_below 256 4 (take c.loop-octet.octet-index c.args.octets.now) (omega arith)
          (recursion-take (λ octet. octet < 256) c.loop-octet.octet-index c.args.octets.now (octets_fit c.args.octets.now (λ i. omega (arith, c.type_inv.octets i)))) few,
    )

pub returns-clause-small : goal.returns-clause-small
returns-clause-small c =
    let few : length (take c.loop-octet.octet-index c.args.octets.now) ≤ 5 = omega (arith, length-take c.loop-octet.octet-index c.args.octets.now) in
    omega (
      arith,
      c.loop-octet.invariant,
      number_below 256 5 (take c.loop-octet.octet-index c.args.octets.now) (omega arith)
          (recursion-take (λ octet. octet < 256) c.loop-octet.octet-index c.args.octets.now (octets_fit c.args.octets.now (λ i. omega (arith, c.type_inv.octets i)))) few,
    )
