use Rattle.std.proofs.Common.{sym, subst, ap, ◌∙◌}
use Rattle.std.specs.List.{AllByRecursion}
use Rattle.dnsv_names.specs.Count.{counted}
use Rattle.dnsv_canonical.specs.Evidence.{nsec3_rdata}
use Rattle.dnsv_proof_forms.specs.KeptHashes.{AreKeptHashes}
use Rattle.dnsv_proof_forms.specs.KeptHashes.{IsSetOf}
use Rattle.dnsv_proof_forms.proofs.lemmas.records.HashCountLemmas.{hashes_in_any_order}
use Rattle.dnsv_proof_forms.proofs.question_hashes.Hashes.new.Goals as goal

pub invariant_of-result : goal.invariant_of-result
invariant_of-result c =
    let are = c.nsec3_parameters.ensures in
    let kept : AreKeptHashes c.args.capture.now.rrsets c.in_ok-clone.field-0 c.in_ok-sets.sets.items = record {
      hashed = subst (λ name. AllByRecursion (IsSetOf name) c.in_ok-sets.sets.items) (sym c.in_ok-clone.ensures.cases) c.in_ok-sets.ensures.hashed;
      order = c.in_ok-sets.ensures.order;
      members = λ each. (
        λ kept. (are.members each).0 ((c.in_ok-sets.ensures.members each).1 kept),
        λ among. (c.in_ok-sets.ensures.members each).0 ((are.members each).1 among),
      );
    } in
    rw c.in_ok-new.ensures.ok kept

pub returns-clause-count : goal.returns-clause-count
returns-clause-count c = λ all are.
    c.in_ok-sets.ensures.count ∙ ap (counted _) (hashes_in_any_order c.args.name.now (nsec3_rdata c.args.capture.now.rrsets) c.nsec3_parameters.result.now _ all c.nsec3_parameters.ensures
    c.in_ok-sets.ensures.order c.in_ok-sets.ensures.members are)
