use Rattle.std.proofs.Common.{◌<◌, List, ℕ, subst, sym}
use Rattle.std.specs.List.{AllByRecursion, AllZip}
use Rattle.dnsv_canonical.proofs.OrderLemmas.{each_member}
use Rattle.dnsv_proof_forms.specs.records.Numbers.{record_count}
use Rattle.dnsv_gaps.specs.CaseSearch.{IsHeldBy}
use Rattle.dnsv_gaps.proofs.CaseLemmas.{all_held}
use Rattle.dnsv_gaps.proofs.SayingLemmas.{zone}
use Rattle.dnsv_gaps.proofs.speakers.cases.at_name.held_at.Goals as goal

pub held_by_each-requires : goal.held_by_each-requires
held_by_each-requires c =
    let Within : ℕ → Type 0 = λ place. place < record_count c.args.source.now.records in
    subst (AllByRecursion Within) (sym c.deref.ensures.value)
    (each_member Within c.in_ok-places.places.items c.in_ok-places.ensures.within)

pub returns : goal.returns
returns c =
    let question = c.args.question.now in
    let source = c.args.source.now in
    let is = c.requires.source in
    let told = c.in_ok-held_by_each.field-0.items in
    all_held question source is c.args.name c.in_ok-places.places.items (c.in_ok-places.ensures.all (zone question source is))
    question.rtype.0 told
    (subst (λ (ps : List ℕ). AllZip (IsHeldBy source question.rtype.0) ps told) c.deref.ensures.value c.in_ok-held_by_each.ensures)
