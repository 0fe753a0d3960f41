use Rattle.std.proofs.Common.{subst, sym, ◌∙◌}
use Rattle.std.proofs.lemmas.Bool.{false≢true}
use Rattle.std.proofs.lemmas.Option.{MatchOption-at_none, MatchOption-at_some}
use Rattle.dnsv_names.specs.Name.{Labels}
use Rattle.dnsv_derivations.specs.Explained.{setting_in}
use Rattle.dnsv_derivations.specs.derivations.WaySearch.{MayDelegate}
use Rattle.dnsv_derivations.proofs.lemmas.derivations.WayLemmas.DelegationLemmas.{record_skipped}
use Rattle.dnsv_derivations.proofs.lemmas.derivations.WayLemmas.RankLemmas.{first_place}
use Rattle.dnsv_derivations.proofs.lemmas.derivations.WayLemmas.ReadLemmas.{all_passed, found_by, unmatched_passed, unusable_passed}
use Rattle.dnsv_derivations.proofs.derivations.ways.by_ds.way_in.Goals as goal

pub returns-then-not-may_delegate : goal.returns-then-not-may_delegate
returns-then-not-may_delegate c =
    record_skipped (setting_in c.args.evidence.now) c.args.set.now.number c.args.set.now.rrset.now c.requires.set.numbered
    c.args.ds.now c.args.from c.requires.ds
    (λ may.
    let May : Labels → Type 0 = λ name. MayDelegate (setting_in c.args.evidence.now) c.args.from c.args.ds.now name in
    let holds = c.may_delegate.ensures.1 (subst May (sym c.owner.ensures) may) in
    let fails = c.if-not-may_delegate.true in cc)
    c.requires.before

pub loop-place-init : goal.loop-place-init
loop-place-init c = first_place (setting_in c.args.evidence.now) c.args.set.now.number c.args.from c.requires.before

pub loop-place-preserved-in_default : goal.loop-place-preserved-in_default
loop-place-preserved-in_default c =
    let may = c.may_delegate.ensures.0 c.if-not-may_delegate.false in
    unmatched_passed (λ each. each.rdata.now) (λ each. each.record.now) (setting_in c.args.evidence.now) c.args.from c.args.ds.now c.requires.ds
    may.rtype c.ds_records-values.result.now c.ds_records-values.ensures c.in_ok-records.records.items c.deref-each-items.result.now
    c.deref-each-items.ensures.value c.in_ok-records.ensures.order c.in_ok-records.ensures.read
    c.args.set.now.number c.args.set.now.rrset.now c.requires.set.numbered may.secured
    c.loop-place.place c.each-item.result c.loop-place-test.true c.each-item.is c.owner-in-loop-place.result.now c.owner-in-loop-place.ensures
    (MatchOption-at_none _ _ c.in_default.is (c.way_with.ensures (setting_in c.args.evidence.now) c.requires.set)) c.loop-place.invariant

pub loop-place-preserved : goal.loop-place-preserved
loop-place-preserved c =
    let may = c.may_delegate.ensures.0 c.if-not-may_delegate.false in
    unusable_passed (λ each. each.rdata.now) (λ each. each.record.now) (setting_in c.args.evidence.now) c.args.from c.args.ds.now c.requires.ds
    may.rtype c.ds_records-values.result.now c.ds_records-values.ensures c.in_ok-records.records.items c.deref-each-items.result.now
    c.deref-each-items.ensures.value c.in_ok-records.ensures.order c.in_ok-records.ensures.read
    c.args.set.now.number c.args.set.now.rrset.now c.requires.set.numbered may.secured
    c.loop-place.place c.each-item.result c.loop-place-test.true c.each-item.is
    (λ usable. false≢true (sym c.if-is_usable.false ∙ c.is_usable.ensures.1 usable)) c.loop-place.invariant

pub returns-then-is_usable : goal.returns-then-is_usable
returns-then-is_usable c =
    let may = c.may_delegate.ensures.0 c.if-not-may_delegate.false in
    found_by (λ each. each.rdata.now) (λ each. each.record.now) (setting_in c.args.evidence.now) c.args.from c.args.ds.now c.requires.ds
    may.rtype c.ds_records-values.result.now c.ds_records-values.ensures c.in_ok-records.records.items c.deref-each-items.result.now
    c.deref-each-items.ensures.value c.in_ok-records.ensures.order c.in_ok-records.ensures.read
    c.args.set.now.number c.args.set.now.rrset.now c.requires.set.numbered may.secured
    c.loop-place.place c.each-item.result c.loop-place-test.true c.each-item.is c.owner-in-loop-place.result.now c.in-Some.way
    (c.is_usable.ensures.0 c.if-is_usable.true) c.owner-in-loop-place.ensures c.loop-place.invariant
    (MatchOption-at_some _ _ c.in-Some.way c.in-Some.is (c.way_with.ensures (setting_in c.args.evidence.now) c.requires.set))

pub returns : goal.returns
returns c =
    all_passed (λ each. each.rdata.now) (λ each. each.record.now) (setting_in c.args.evidence.now) c.args.from c.args.ds.now c.requires.ds
    (c.may_delegate.ensures.0 c.if-not-may_delegate.false).rtype c.ds_records-values.result.now c.ds_records-values.ensures
    c.in_ok-records.records.items c.deref-each-items.result.now
    c.deref-each-items.ensures.value c.in_ok-records.ensures.order c.in_ok-records.ensures.read
    c.args.set.now.number c.args.set.now.rrset.now c.requires.set.numbered c.loop-place.place c.loop-place-test.false c.loop-place.invariant
