use Rattle.std.proofs.Common.{ℕ, List, subst}
use Rattle.std.proofs.lemmas.List.{take_all}
use Rattle.std.specs.Prelude.{◌↔◌, IsTrue}
use Rattle.std.specs.List.{AllPass}
use Rattle.hex.specs.Hex.{is_hex_digit}
use Rattle.dnsv_anchors.proofs.HexFieldLemmas.{digits_more}
use Rattle.dnsv_anchors.proofs.hex_field.are_digits.Goals as goal

pub loop-octet-preserved : goal.loop-octet-preserved
loop-octet-preserved c =
    digits_more c.args.octets.now c.loop-octet.octet-index c.loop-octet.all c.is_digit-all.result c.loop-octet-test.true c.loop-octet.invariant c.is_digit-all.ensures

pub returns : goal.returns
returns c =
    subst (λ (octets : List ℕ). IsTrue c.loop-octet.all ↔ AllPass is_hex_digit octets) (take_all c.loop-octet.octet-index c.args.octets.now c.loop-octet-test.false) c.loop-octet.invariant
