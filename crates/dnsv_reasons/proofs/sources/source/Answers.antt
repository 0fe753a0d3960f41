use Rattle.std.proofs.Common.{◌≡◌, ◌+◌, ◌<◌, ℕ, List, None, Some, length, map, refl, sym, subst, arith}
use Rattle.std.specs.List.{slice_get}
use Rattle.dnsv_names.specs.Name.{Labels, rightmost}
use Rattle.dnsv_denial.specs.gathering.EvidenceWords.{Chain}
use Rattle.dnsv_proof_forms.proofs.lemmas.PlaceLemmas.{mapped_at}
use Rattle.dnsv_denial.proofs.lemmas.proving.ZoneChainLemmas.{unmapped_at}
use Rattle.dnsv_gaps.specs.Asking.{asking}
use Rattle.dnsv_gaps.specs.Sources.{AreSources}
use Rattle.dnsv_reasons.specs.SourceSearch.{AreNamed, chain_named}
use Rattle.dnsv_reasons.proofs.EachLemmas.{at_place, each_placed}
use Rattle.dnsv_reasons.proofs.SourceLemmas.{one_list}
use Rattle.dnsv_reasons.proofs.sources.source.Goals as goal

pub returns-in_default-name_at : goal.returns-in_default-name_at
returns-in_default-name_at c = λ source is.
    let a = asking c.args.question.now in
    let named = c.args.named.now in
    let n = c.args.number.zone in
    let its = c.index-named-number.result in
    let within : n < length named = let most = c.in-Some.ensures.within in let count = c.requires.count in omega (arith, most, count) in
    let zero : 0 + n ≡ n = omega arith in
    let ours = subst (λ (k : ℕ). AreNamed a k its) zero
    (each_placed (AreNamed a) 0 named n its c.requires.each (at_place named its its n within (sym c.index-named-number.is))) in
    let chains : is.chains ≡ map chain_named its.sources.items =
    one_list a (rightmost a.name n) is.chains (map chain_named its.sources.items)
    (subst (λ (zone : Labels). AreSources a zone is.chains) is.above.is is.are) ours.are in
    let at : slice_get (map chain_named its.sources.items) c.args.number.place ≡ Some is.chain =
    subst (λ (each : List Chain). slice_get each c.args.number.place ≡ Some is.chain) chains is.placed in
    let found = unmapped_at chain_named its.sources.items c.args.number.place is.chain at in
    let there : slice_get its.sources.items c.args.number.place ≡ Some found.0 = found.1 in
    let none : slice_get its.sources.items c.args.number.place ≡ None = c.in_default-name_at.ensures in
    cc

pub returns : goal.returns
returns c =
    let a = asking c.args.question.now in
    let named = c.args.named.now in
    let n = c.args.number.zone in
    let its = c.index-named-number.result in
    let within : n < length named = let most = c.in-Some.ensures.within in let count = c.requires.count in omega (arith, most, count) in
    let zero : 0 + n ≡ n = omega arith in
    let ours = subst (λ (k : ℕ). AreNamed a k its) zero
    (each_placed (AreNamed a) 0 named n its c.requires.each (at_place named its its n within (sym c.index-named-number.is))) in
    let found = c.in-Some-name_at.found in record {
      zone = c.in-Some.zone;
      above = c.in-Some.ensures;
      chains = map chain_named its.sources.items;
      are = subst (λ (zone : Labels). AreSources a zone (map chain_named its.sources.items)) (sym c.in-Some.ensures.is) ours.are;
      chain = chain_named found;
      placed = mapped_at chain_named its.sources.items c.args.number.place found c.in-Some-name_at.ensures;
      its_zone = refl;
      its_chain = c.in_ok-told_parameters.ensures;
    }
