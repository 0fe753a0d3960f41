use Rattle.dnsv_canonical.specs.Evidence.{AreParameters}
use Rattle.dnsv_records.specs.Nsec3.{IsNsec3}
use Rattle.std.proofs.Common.{◌++◌, [], ◌∷◌, length, take, refl, sym, ap, ◌∙◌, subst, append_assoc, arith}
use Rattle.std.proofs.lemmas.List.{append-nil}
use Rattle.std.proofs.lemmas.Option.{slice_get_read}
use Rattle.std.proofs.lemmas.Result.{err_from_is_err_and}
use Rattle.dnsv_canonical.proofs.OrderLemmas.{take_next, whole_by_count, zip_at, zip_length}
use Rattle.dnsv_canonical.proofs.ParameterLemmas.{refused_record}
use Rattle.dnsv_canonical.proofs.capture.limits.add_records.Goals as goal

pub loop-nsec3-init : goal.loop-nsec3-init
loop-nsec3-init c = record {
  all = λ earlier received zip are. subst (λ part. AreParameters part (c.args.kept.now ++ c.args.fresh.now.items)) (sym (append-nil earlier)) are;
  few = λ few. few;
}

pub loop-nsec3-preserved : goal.loop-nsec3-preserved
loop-nsec3-preserved c = record {
  all = λ earlier received zip are.
      let found = zip_at IsNsec3 received c.args.nsec3s.now c.loop-nsec3.nsec3-index c.nsec3-item.result zip
      (slice_get_read c.args.nsec3s.now (length c.args.nsec3s.now) c.loop-nsec3.nsec3-index c.nsec3-item.result refl c.loop-nsec3-test.true c.nsec3-item.is) in
      subst (λ part. AreParameters part (c.args.kept.now ++ c.add_record.new.fresh.items))
      (append_assoc earlier (take c.loop-nsec3.nsec3-index received) (found.0 ∷ []) ∙ ap (λ part. earlier ++ part) (sym (take_next received c.loop-nsec3.nsec3-index found.0 found.1)))
      (c.in_ok-add_record.ensures.all (earlier ++ take c.loop-nsec3.nsec3-index received) found.0 found.2 (c.loop-nsec3.invariant.all earlier received zip are));
  few = λ few. c.in_ok-add_record.ensures.few (c.loop-nsec3.invariant.few few);
}

pub returns-in_err-add_record-clause-refused : goal.returns-in_err-add_record-clause-refused
returns-in_err-add_record-clause-refused c = λ earlier received zip are.
    let p = err_from_is_err_and c.from_residual.result c.from_residual.ensures.1 in
    let found = zip_at IsNsec3 received c.args.nsec3s.now c.loop-nsec3.nsec3-index c.nsec3-item.result zip
    (slice_get_read c.args.nsec3s.now (length c.args.nsec3s.now) c.loop-nsec3.nsec3-index c.nsec3-item.result refl c.loop-nsec3-test.true c.nsec3-item.is) in
    rw (p.1, p.2) (refused_record earlier received c.loop-nsec3.nsec3-index found.0 _ found.1
    (c.in_err-add_record.ensures.refused (earlier ++ take c.loop-nsec3.nsec3-index received) found.0 found.2 (c.loop-nsec3.invariant.all earlier received zip are)))

pub returns-clause-all : goal.returns-clause-all
returns-clause-all c = λ earlier received zip are.
    subst (λ part. AreParameters (earlier ++ part) (c.args.kept.now ++ c.loop-nsec3.fresh.items))
    (whole_by_count received c.loop-nsec3.nsec3-index (omega (arith, zip_length IsNsec3 received c.args.nsec3s.now zip, c.loop-nsec3-test.false)))
    (c.loop-nsec3.invariant.all earlier received zip are)
