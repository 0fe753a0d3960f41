use Rattle.std.proofs.Common.{◌==◌, ◌&&◌, ◌++◌, ◌∷◌, [], false, if◌then◌else◌, ap, sym, ◌∙◌, append-nil}
use Rattle.std.specs.Option.{option_map_or}
use Rattle.dnsv_names.specs.Name.{same_name}
use Rattle.dnsv_message.specs.declared.record.Record.{Record}
use Rattle.dnsv_canonical.specs.ByRrset.{rdata_at}
use Rattle.dnsv_canonical.proofs.GroupLemmas.{same_name_equiv, signatures_next}
use Rattle.dnsv_canonical.proofs.section.signatures_by_rrset.Goals as goal
use Rattle.dnsv_canonical.proofs.section.signatures_by_rrset.Goals.{in-Some+in_ok-add, in_default}

pub loop-record-preserved : goal.loop-record-preserved
loop-record-preserved c = λ owner rtype fits.
    elim c.match-covered_type.branch [
      | in-Some+in_ok-add w ↦
          signatures_next c.args.records.now c.loop-record.record-index c.record-item.result c.loop-record-test.true c.record-item.is
          owner rtype _ _ ((rtype == w.in-Some.covered.0) && same_name owner c.record-item.result.name) (c.loop-record.invariant owner rtype fits)
          (c.covered_type.ensures owner rtype fits ∙ (λ i. option_map_or (λ covered. rtype == covered.0) (w.in-Some.is i) false && same_name_equiv.symm c.record-item.result.name owner i))
          (
          ap (λ m. rdata_at m rtype owner) w.by_rrset-is ∙ w.in_ok-add.ensures rtype owner
          ∙ ap (λ (r : Record). rdata_at c.loop-record.by_rrset rtype owner ++ (if (rtype == w.in-Some.covered.0) && same_name owner r.name then w.rdata-rdata.result.now ∷ [] else [])) c.record.view_is
          ∙ ap (λ rdata. rdata_at c.loop-record.by_rrset rtype owner ++ (if (rtype == w.in-Some.covered.0) && same_name owner c.record-item.result.name then rdata ∷ [] else [])) w.rdata-rdata.ensures
          )
      | in_default w ↦
          signatures_next c.args.records.now c.loop-record.record-index c.record-item.result c.loop-record-test.true c.record-item.is
          owner rtype _ _ false (c.loop-record.invariant owner rtype fits)
          (c.covered_type.ensures owner rtype fits ∙ (λ i. option_map_or (λ covered. rtype == covered.0) (w.in_default.is i) false && same_name c.record-item.result.name owner))
          (ap (λ m. rdata_at m rtype owner) w.by_rrset-is ∙ sym (append-nil (rdata_at c.loop-record.by_rrset rtype owner)))
    ]
