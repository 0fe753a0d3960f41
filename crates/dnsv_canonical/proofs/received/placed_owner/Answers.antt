use Rattle.std.proofs.Common.{sym, ◌∙◌}
use Rattle.std.specs.Cmp.Lexicographic.{same_text}
use Rattle.dnsv_names.specs.Order.ByWireLaws.{same_wire}
use Rattle.dnsv_canonical.proofs.received.placed_owner.Goals as goal

pub returns-then-eq : goal.returns-then-eq
returns-then-eq c =
    same_wire c.last-in-Some.inside.owner.now c.to_name-owner.result (sym c.wire.ensures.octets ∙ same_text c.wire.result.now c.wire-in-Some.result.now c.if-eq.ensures ∙ c.wire-in-Some.ensures.octets) ∙ c.to_name-owner.ensures
