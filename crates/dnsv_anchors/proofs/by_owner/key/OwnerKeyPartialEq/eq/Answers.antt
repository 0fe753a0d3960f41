use Rattle.std.proofs.Common.{◌∙◌, sym, ap}
use Rattle.std.specs.Ordering.{is_eq}
use Rattle.dnsv_names.specs.Order.ByWireLaws.{search_ties}
use Rattle.dnsv_anchors.proofs.by_owner.key.OwnerKeyPartialEq.eq.Goals as goal

pub returns : goal.returns
returns c = c.is_eq.ensures ∙ ap is_eq c.cmp.ensures ∙ sym (search_ties c.args.self.now.0 c.args.other.now.0)
