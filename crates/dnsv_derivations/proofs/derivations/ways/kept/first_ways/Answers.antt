use Rattle.std.proofs.Common.{◌≡◌, ◌+◌, ◌∷◌, [], ℕ, List, length, refl, sym, ap, ◌∙◌, subst, arith}
use Rattle.std.proofs.lemmas.List.{length-append}
use Rattle.dnsv_canonical.specs.Rrsets.{IsNumbered}
use Rattle.dnsv_derivations.specs.Explained.{setting_in}
use Rattle.dnsv_derivations.specs.derivations.WaySearch.{AreFirstWays, IsKeptWay, IsWayOf}
use Rattle.dnsv_derivations.specs.declared.derivations.ways.kept.KeptWay.{KeptWay}
use Rattle.dnsv_derivations.proofs.lemmas.NumberedLemmas.{numbered_at}
use Rattle.dnsv_derivations.proofs.lemmas.derivations.WayLemmas.KeptLemmas.{none_kept, one_more_kept}
use Rattle.dnsv_derivations.proofs.derivations.ways.kept.first_ways.Goals as goal

pub loop-place-init : goal.loop-place-init
loop-place-init c =
    let Are : List KeptWay → Type 0 = λ ways. (length ways ≡ 0) × AreFirstWays (setting_in c.args.evidence.now) ways in
    subst Are (sym c.new-ways.ensures.items) (refl, none_kept (setting_in c.args.evidence.now))

pub way_into-requires : goal.way_into-requires
way_into-requires c =
    numbered_at c.args.evidence.now.rrsets c.rrsets-rrset-items.result.now c.loop-place.place c.rrset-item.result
    c.rrsets-rrset-items.ensures c.loop-place-test.true c.rrset-item.is

pub kept_with-requires-clause-numbered : goal.kept_with-requires-clause-numbered
kept_with-requires-clause-numbered c =
    let At : ℕ → Type 0 = λ n. IsNumbered c.args.evidence.now.rrsets (n + 1) c.rrset-item.result in
    subst At (sym (ap length c.as_slice.ensures.value ∙ c.loop-place.invariant.0))
    (numbered_at c.args.evidence.now.rrsets c.rrsets-rrset-items.result.now c.loop-place.place c.rrset-item.result
    c.rrsets-rrset-items.ensures c.loop-place-test.true c.rrset-item.is)

pub kept_with-requires-clause-before : goal.kept_with-requires-clause-before
kept_with-requires-clause-before c =
    let Are : List KeptWay → Type 0 = λ ways. AreFirstWays (setting_in c.args.evidence.now) ways in
    subst Are (sym c.as_slice.ensures.value) c.loop-place.invariant.1

pub kept_with-requires-clause-way : goal.kept_with-requires-clause-way
kept_with-requires-clause-way c =
    let Of : ℕ → Type 0 = λ n. IsWayOf (setting_in c.args.evidence.now) (n + 1) c.in_ok-way.way in
    subst Of (sym (ap length c.as_slice.ensures.value ∙ c.loop-place.invariant.0)) c.in_ok-way.ensures

pub loop-place-preserved : goal.loop-place-preserved
loop-place-preserved c =
    let ways = c.loop-place.ways.items in
    let kept = c.in_ok-kept.kept in
    let long = length-append ways (kept ∷ []) in
    let size = c.loop-place.invariant.0 in
    let Behind : List KeptWay → Type 0 = λ all. IsKeptWay (setting_in c.args.evidence.now) (length all + 1) kept in
    let Are : List KeptWay → Type 0 =
    λ all. (length all ≡ c.loop-place.place + 1) × AreFirstWays (setting_in c.args.evidence.now) all in
    subst Are (sym c.in_ok-push.ensures.items) (
      omega (arith, long, size),
      one_more_kept (setting_in c.args.evidence.now) ways kept c.loop-place.invariant.1
          (subst Behind c.as_slice.ensures.value c.in_ok-kept.ensures),
    )
