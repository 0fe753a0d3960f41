use Rattle.std.proofs.Common.{◌∙◌, rules}
use Rattle.std.proofs.lemmas.Fn.{always_returns_same}
use Rattle.std.proofs.lemmas.List.Sorted.{ranks_by}
use Rattle.std.specs.Ordering.{is_lt}
use Rattle.dnsv_names.specs.Order.ByWire.{search_cmp}
use Rattle.dnsv_names.specs.Order.ByWireLaws.{search_cmp_total}
use Rattle.dnsv_chain.specs.Trust.{SecuredIn}
use Rattle.dnsv_denial.specs.declared.gathering.denial_records.SecuredZone.{SecuredZone}
use Rattle.dnsv_denial.proofs.lemmas.gathering.ByZoneLemmas.{among_moved, each_moved}
use Rattle.dnsv_denial.proofs.gathering.denial_records.DenialRecords.of.Goals as goal

pub returns : goal.returns
returns c =
    let zones = c.in_ok-zones.zones.items in record {
      each = each_moved (SecuredIn c.args.trust.now) c.args.capture.now.rrsets zones _ c.sort_unstable_by.ensures.permutation c.in_ok-zones.ensures.each;
      all = λ name k by denies. among_moved zones _ c.sort_unstable_by.ensures.permutation name
          (c.in_ok-zones.ensures.all name k (c.in_ok-numbers.ensures name k by denies));
      sorted = c.sort_unstable_by.ensures.sorted (λ x y. is_lt (search_cmp x.name y.name)) (ranks_by search_cmp_total (λ (each : SecuredZone). each.name))
          (always_returns_same _ _ _ (λ a r f called. search rules));
      no_nsecs = c.new.ensures.items;
      no_nsec3s = c.in_ok-new.ensures ∙ c.new-2.ensures.items;
    }
