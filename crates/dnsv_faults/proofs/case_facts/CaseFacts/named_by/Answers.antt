use Rattle.std.proofs.Common.{subst}
use Rattle.dnsv_chain.specs.Basis.{CaseContents}
use Rattle.dnsv_zone_keys.specs.Keys.KeySearch.{AreNamedOf}
use Rattle.dnsv_faults.proofs.case_facts.CaseFacts.named_by.Goals as goal

pub returns : goal.returns
returns c =
    subst (λ (case : CaseContents). AreNamedOf case.rrsets c.args.rrsig.now c.named_by.result.now) c.self.view_is
    (record {
      all = c.self.inside.keys;
      indexed = c.self.invariant.1;
      among = c.named_by.ensures.among;
      each = c.named_by.ensures.named;
      every = c.named_by.ensures.all;
    })
