use Rattle.std.proofs.Common.{◌≡◌, ◌+◌}
use Rattle.dnsv_names.specs.Name.{rightmost}
use Rattle.dnsv_chain.specs.Trust.{SecuredIn}
use Rattle.dnsv_denial.specs.unsigned_cuts.Cuts.{HasOptedOutNextCloser}
use Rattle.dnsv_denial.proofs.meaning.CutMeaningLemmas.{next_closer_means}
use Rattle.dnsv_proof_forms.proofs.lemmas.words.FirstLemmas.{if_some}
use Rattle.dnsv_denial.proofs.view.View.loose_closer.Goals as goal

pub returns-clause-meaning : goal.returns-clause-meaning
returns-clause-meaning c =
    let found = c.opted_out_next_closer.ensures c.self.inside.trust.now c.self.inside.capture.now.rrsets (rw c.deref-3.ensures.value (rw c.deref-2.ensures (rw c.deref.ensures.value c.self.invariant.0))) in
    rw (← c.self.view_is) (if_some (¬ HasOptedOutNextCloser (SecuredIn c.self.inside.trust.now) c.self.inside.capture.now.rrsets c.self.inside.name c.args.labels c.args.zone.now)
    (λ next_closer. HasOptedOutNextCloser (SecuredIn c.self.inside.trust.now) c.self.inside.capture.now.rrsets c.self.inside.name c.args.labels c.args.zone.now
    × (next_closer ≡ rightmost c.self.inside.name (c.args.labels + 1)))
    _ c.opted_out_next_closer.result
    (next_closer_means (SecuredIn c.self.inside.trust.now) c.self.inside.capture.now.rrsets c.self.inside.name c.args.labels c.args.zone.now)
    found)
