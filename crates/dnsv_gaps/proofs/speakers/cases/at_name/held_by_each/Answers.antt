use Rattle.std.proofs.Common.{◌+◌, ◌<◌, List, ℕ, subst, sym, take}
use Rattle.std.proofs.lemmas.List.{get_or_default, take_all}
use Rattle.std.proofs.lemmas.List.Elements.{Contains-get_or}
use Rattle.std.specs.List.{AllZip}
use Rattle.dnsv_canonical.proofs.OrderLemmas.{each_of}
use Rattle.dnsv_chain.proofs.ZipLemmas.{zip_more}
use Rattle.dnsv_proof_forms.specs.records.Numbers.{record_count}
use Rattle.dnsv_lines.specs.declared.line.fault.denial.WhySource.{WhySource}
use Rattle.dnsv_gaps.specs.CaseSearch.{IsHeldBy}
use Rattle.dnsv_gaps.proofs.speakers.cases.at_name.held_by_each.Goals as goal

pub held_by-requires : goal.held_by-requires
held_by-requires c =
    each_of (λ (place : ℕ). place < record_count c.args.source.now.records) c.args.places.now _ c.requires
    (Contains-get_or c.args.places.now c.loop-place.place-index 0 c.loop-place-test.true)

pub loop-place-preserved : goal.loop-place-preserved
loop-place-preserved c =
    subst (λ (each : List WhySource). AllZip (IsHeldBy c.args.source.now c.args.rtype.0) (take (c.loop-place.place-index + 1) c.args.places.now) each)
    (sym c.in_ok-push.ensures.items)
    (zip_more (IsHeldBy c.args.source.now c.args.rtype.0) c.args.places.now c.loop-place.told.items c.loop-place.place-index _ _
    c.loop-place-test.true (get_or_default c.args.places.now c.loop-place.place-index 0 _ c.loop-place-test.true) c.loop-place.invariant
    c.held_by.ensures)

pub returns : goal.returns
returns c =
    subst (λ (ps : List ℕ). AllZip (IsHeldBy c.args.source.now c.args.rtype.0) ps c.loop-place.told.items)
    (take_all c.loop-place.place-index c.args.places.now c.loop-place-test.false) c.loop-place.invariant
