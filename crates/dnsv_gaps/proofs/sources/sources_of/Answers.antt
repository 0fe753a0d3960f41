use Rattle.std.proofs.Common.{◌≡◌, ◌+◌, ◌++◌, [], ◌∷◌, List, map, take, sym, ap, ◌∙◌, subst}
use Rattle.std.proofs.lemmas.List.{map-append, take_all, take_more}
use Rattle.std.specs.List.Sorted.{IsStrictlySortedBy}
use Rattle.dnsv_canonical.specs.Rrsets.{ReceivedRrset}
use Rattle.std.specs.Prelude.{Contains}
use Rattle.dnsv_zones.specs.chains.Nsec3Chain.{Parameters}
use Rattle.dnsv_zones.specs.chains.Rdata.{parameters_of}
use Rattle.dnsv_denial.specs.gathering.Evidence.{IsNsec3Of}
use Rattle.dnsv_proof_forms.specs.records.ParametersOrder.{parameters_cmp}
use Rattle.dnsv_proof_forms.specs.QuestionHashes.{AreUsed}
use Rattle.dnsv_proof_forms.specs.declared.records.parameters.OrderedParameters.{OrderedParameters}
use Rattle.dnsv_gaps.specs.SourceSearch.{zone_in}
use Rattle.dnsv_gaps.specs.declared.sources.HeldSource.{HeldSource}
use Rattle.dnsv_gaps.proofs.ZoneLemmas.{AreSourcesTo, all_sources, before_all, every_used, nsecs_first, ordered_of, sources_more, used_there}
use Rattle.dnsv_gaps.proofs.sources.sources_of.Goals as goal

pub loop-each-init : goal.loop-each-init
loop-each-init c = λ are.
    let question = c.args.question.now in
    let zone = c.args.zone.now in
    let got = c.in_ok-add_nsecs.ensures in
    subst (λ (sources : List HeldSource). AreSourcesTo question zone are [] sources)
    (sym (got.1 ∙ ap (λ (front : List HeldSource). front ++ got.0) c.new-sources.ensures.items))
    (nsecs_first question zone are got.0 got.2)

pub add_nsec3s-requires : goal.add_nsec3s-requires
add_nsec3s-requires c =
    let rrsets = c.capture.result.now.rrsets in
    let item = c.each-item.result in
    let same : rrsets ≡ c.args.question.now.hashes.now.rrsets = c.capture.ensures ∙ sym (ap (λ h. h.rrsets) c.requires.asked.hashes) in
    subst (λ (r : List ReceivedRrset). AreUsed r (ordered_of item)) same
    (used_there rrsets c.nsec3_parameters-all.result.now c.in_ok-ordered.ordered.items c.nsec3_parameters-all.ensures.members
    c.in_ok-ordered.ensures.members item
    (subst (λ (items : List OrderedParameters). Contains items item) c.deref-each-items.ensures.value
    (c.loop-each.each-index, c.loop-each-test.true, sym c.each-item.is)))

pub loop-each-preserved : goal.loop-each-preserved
loop-each-preserved c = λ are.
    let question = c.args.question.now in
    let zone = c.args.zone.now in
    let items = c.deref-each-items.result.now in
    let i = c.loop-each.each-index in
    let item = c.each-item.result in
    let got = c.in_ok-add_nsec3s.ensures in
    let front : map ordered_of (take (i + 1) items) ≡ map ordered_of (take i items) ++ ordered_of item ∷ [] =
    ap (map ordered_of) (take_more items i item c.loop-each-test.true ∙ ap (λ (x : OrderedParameters). take i items ++ x ∷ []) (sym c.each-item.is))
    ∙ map-append ordered_of (take i items) (item ∷ []) in
    let rising = subst (λ (each : List OrderedParameters). IsStrictlySortedBy parameters_cmp (map parameters_of (map (λ (one : OrderedParameters). one.parameters.now) each)))
    (sym c.deref-each-items.ensures.value) c.in_ok-ordered.ensures.order in
    subst (λ (ps : List Parameters). AreSourcesTo question zone are ps c.add_nsec3s.new.sources.items) (sym front)
    (sources_more question zone are (map ordered_of (take i items)) (ordered_of item) c.loop-each.sources.items (c.loop-each.invariant are)
    (before_all items rising i item c.loop-each-test.true c.each-item.is) c.requires.asked got.0 c.add_nsec3s.new.sources.items got.1 got.2)

pub returns : goal.returns
returns c =
    let question = c.args.question.now in
    let zone = c.args.zone.now in
    let are = c.requires.zone in
    let items = c.deref-each-items.result.now in
    let z = zone_in question zone.labels in
    all_sources question zone are (map ordered_of items) c.loop-each.sources.items
    (λ n nsec3 is.
    subst (λ (each : List OrderedParameters). Contains (map ordered_of each) nsec3.parameters) (sym c.deref-each-items.ensures.value)
    (every_used c.capture.result.now.rrsets z c.nsec3_parameters-all.result.now c.in_ok-ordered.ordered.items c.nsec3_parameters-all.ensures.members
    c.in_ok-ordered.ensures.members n nsec3 (subst (λ (r : List ReceivedRrset). IsNsec3Of r z n nsec3) (sym c.capture.ensures) is)))
    (subst (λ (each : List OrderedParameters). AreSourcesTo question zone are (map ordered_of each) c.loop-each.sources.items)
    (take_all c.loop-each.each-index items c.loop-each-test.false) (c.loop-each.invariant are))
