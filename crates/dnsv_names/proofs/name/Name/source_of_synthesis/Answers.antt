use Rattle.std.proofs.Common.{length, ap, arith}
use Rattle.dnsv_names.specs.Name.{wire}
use Rattle.dnsv_names.specs.Tree.{wildcard_of}
use Rattle.dnsv_names.specs.Tree.AncestorLaws.{IsName-wildcard_of_rightmost}
use Rattle.dnsv_names.proofs.name.Name.source_of_synthesis.Goals as goal

pub unreachable-requires : goal.unreachable-requires
unreachable-requires c =
    let wildcard = IsName-wildcard_of_rightmost c.args.self.now c.args.n c.requires c.keeps_its_limits.ensures in
    omega (arith, wildcard.at_most_255, c.in-Err.ensures.variant.1, ap (λ name. length (wire (wildcard_of name))) c.suffix.ensures.labels)
