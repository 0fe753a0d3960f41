use Rattle.std.proofs.Common.{List, subst}
use Rattle.dnsv_canonical.specs.Rrsets.{IsNumbered, ReceivedRrset}
use Rattle.dnsv_zone_faults.proofs.zone.groups.ds.add_ds.Goals as goal

pub returns : goal.returns
returns c =
    let rrsets = c.args.facts.now.rrsets in
    let its = c.in_ok-record_facts.ensures in record {
      known = record { rrset = c.in_ok-facts_of.field-0; records = c.in_ok-record_facts.field-0 };
      is = λ zone are. record {
        rrset = c.in_ok-facts_of.ensures;
        set = c.in-Some.rrset.now;
        numbered = subst (λ (all : List ReceivedRrset). IsNumbered all c.args.number c.in-Some.rrset.now) c.capture.ensures c.in-Some.ensures;
        records = its.records;
        read = its.read;
        canonical = its.canonical;
        in_order = its.in_order;
        each = its.each rrsets zone are;
      };
      added = c.in_ok-push.ensures.items;
    }
