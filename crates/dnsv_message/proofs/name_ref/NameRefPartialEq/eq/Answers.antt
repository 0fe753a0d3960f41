use Rattle.std.proofs.Common.{◌∙◌, sym, ap}
use Rattle.std.specs.Ordering.{is_eq}
use Rattle.dnsv_names.specs.Order.ByWireLaws.{search_ties}
use Rattle.dnsv_names.specs.Order.OrderLaws.{same_name_Decides}
use Rattle.dnsv_message.proofs.name_ref.NameRefPartialEq.eq.Goals as goal

pub returns-clause-value : goal.returns-clause-value
returns-clause-value c = c.is_eq.ensures ∙ ap is_eq c.search_cmp.ensures ∙ sym (search_ties c.args.self.now c.args.other.now)

pub returns-clause-same : goal.returns-clause-same
returns-clause-same c =
    let decides = same_name_Decides c.args.self.now c.args.other.now in
    (λ yes. decides.0 (sym (returns-clause-value c) ∙ yes), λ same. returns-clause-value c ∙ decides.1 same)
