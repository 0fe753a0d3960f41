use Rattle.std.proofs.Common.{length, refl, sym, subst, ◌∙◌}
use Rattle.std.proofs.lemmas.Bool.{eqb-true, false≢true, not-false}
use Rattle.dnsv_names.specs.Name.{Labels}
use Rattle.dnsv_chain.specs.Ds.{IsMatch}
use Rattle.dnsv_derivations.specs.Explained.{setting_in}
use Rattle.dnsv_keys_in_question.specs.KeyLines.{IsMatchedByDs}
use Rattle.dnsv_derivations.proofs.lemmas.derivations.WayLemmas.ReadLemmas.{record_said, record_within, same_record}
use Rattle.dnsv_derivations.specs.derivations.Ways.{record_at}
use Rattle.dnsv_keys_in_question.proofs.lemmas.LowestLemmas.{found, none_first, none_found, none_next}
use Rattle.dnsv_keys_in_question.proofs.lemmas.ShownKeyLemmas.{ds_counted}
use Rattle.dnsv_keys_in_question.proofs.keys.lowest_in.Goals as goal

pub loop-place-init : goal.loop-place-init
loop-place-init c =
    let setting = setting_in c.args.evidence.now in
    none_first (λ place. IsMatchedByDs setting c.args.key.now (record_at c.args.number place))
    (ds_counted setting c.args.key.now c.args.number c.args.ds.now c.requires)

pub loop-place-preserved : goal.loop-place-preserved
loop-place-preserved c =
    none_next (λ place. IsMatchedByDs (setting_in c.args.evidence.now) c.args.key.now (record_at c.args.number place)) c.loop-place.place
    (λ is.
    let both = same_record (λ each. each.rdata.now) (λ each. each.record.now) (setting_in c.args.evidence.now) c.args.number c.args.ds.now c.requires
    (sym c.rtype.ensures ∙ eqb-true _ _ (not-false _ (sym c.ne.ensures ∙ c.if-ne.false)))
    c.ds_records-values.result.now c.ds_records-values.ensures c.in_ok-records.records.items c.deref-each-items.result.now
    c.deref-each-items.ensures.value c.in_ok-records.ensures.order c.in_ok-records.ensures.read
    c.loop-place.place c.each-item.result c.loop-place-test.true c.each-item.is _ is.0 c.args.key.now is.1 refl in
    let Matches : Labels → Type 0 = λ owner. IsMatch owner c.each-item.result.record.now c.args.key.now in
    false≢true (sym c.if-is_usable_match.false ∙ c.is_usable_match.ensures.1 (both.0, subst Matches (sym c.owner.ensures) both.1)))
    c.loop-place.invariant

pub returns-then-is_usable_match : goal.returns-then-is_usable_match
returns-then-is_usable_match c =
    let Matches : Labels → Type 0 = λ owner. IsMatch owner c.each-item.result.record.now c.args.key.now in
    let both = c.is_usable_match.ensures.0 c.if-is_usable_match.true in
    found (λ place. IsMatchedByDs (setting_in c.args.evidence.now) c.args.key.now (record_at c.args.number place)) c.loop-place.place (
      _,
      record_said (λ each. each.rdata.now) (λ each. each.record.now) (setting_in c.args.evidence.now) c.args.number c.args.ds.now c.requires
          (sym c.rtype.ensures ∙ eqb-true _ _ (not-false _ (sym c.ne.ensures ∙ c.if-ne.false)))
          c.ds_records-values.result.now c.ds_records-values.ensures c.in_ok-records.records.items c.deref-each-items.result.now
          c.deref-each-items.ensures.value c.in_ok-records.ensures.order c.in_ok-records.ensures.read
          c.loop-place.place c.each-item.result c.loop-place-test.true c.each-item.is c.args.key.now both.0 (subst Matches c.owner.ensures both.1),
    )
    c.loop-place.invariant

pub returns : goal.returns
returns c =
    none_found (λ place. IsMatchedByDs (setting_in c.args.evidence.now) c.args.key.now (record_at c.args.number place)) c.loop-place.place
    (length c.deref-each-items.result.now)
    (λ place is. record_within (λ each. each.rdata.now) (λ each. each.record.now) (setting_in c.args.evidence.now) c.args.number c.args.ds.now c.requires
    (sym c.rtype.ensures ∙ eqb-true _ _ (not-false _ (sym c.ne.ensures ∙ c.if-ne.false)))
    c.ds_records-values.result.now c.ds_records-values.ensures c.in_ok-records.records.items c.deref-each-items.result.now
    c.deref-each-items.ensures.value c.in_ok-records.ensures.order c.in_ok-records.ensures.read _ is.0 c.args.key.now is.1 refl)
    c.loop-place-test.false c.loop-place.invariant
