-- The first ways by what may be hoped of a case: all its questions that need answers have one hope.
use Rattle.std.proofs.Common.{◌≡◌, ◌∙◌, ◌-◌, ℕ, List, [], ap, arith, length, refl, subst, sym}
use Rattle.std.proofs.lemmas.Option.{slice_get_within}
use Rattle.dnsv_names.specs.Name.{Labels}
use Rattle.dnsv_verifier.specs.declared.entry.Entry.{Entry}
use Rattle.dnsv_verdict.proofs.UnknownLemmas.{one_unknown}
use Rattle.dnsv_chain.specs.Basis.{CaseContents, basis_by}
use Rattle.dnsv_verdict.specs.Hope.{IsHope}
use Rattle.dnsv_verdict.specs.Verdict.{AreUnknown, IsVerdictAt}
use Rattle.dnsv_verdict.specs.declared.at_name.Hope.{Hope}
use Rattle.dnsv_verdict.specs.declared.verdict.Verdict.{Verdict}
use Rattle.dnsv_verdict.specs.declared.verdict.Verdict.TheVariants.{Pending}
use Rattle.dnsv_derivations.specs.Explained.{Explained, setting_in}
use Rattle.dnsv_holding.specs.Explained.{explained_by, hoped}
use Rattle.dnsv_holding.specs.SharedWays.{AreHopedWays}
use Rattle.dnsv_derivations.specs.derivations.WaySearch.{AreFirstWays}
use Rattle.dnsv_derivations.specs.declared.derivations.ways.kept.KeptWay.{KeptWay}
use Rattle.dnsv_holding.proofs.lemmas.marks.HopeLemmas.{is_hoped}

-- what a verdict that needs answers lists
pub listed : (case : CaseContents) (name : Labels) (t : ℕ) (verdict : Verdict) (unknown : List Entry)
    → verdict ≡ Pending unknown → IsVerdictAt (basis_by case) name t verdict → AreUnknown (basis_by case) unknown
listed case name t verdict unknown same is =
    let Is : Verdict → Type 0 = λ each. IsVerdictAt (basis_by case) name t each in (subst Is same is).2

-- the ways by one hope are those by each
pub ways_of_hope : (case : CaseContents) (hope : Hope) (unknown : List Entry) (name : Labels) (t : ℕ) (found : List KeptWay)
    → IsHope case name t hope → AreUnknown (basis_by case) unknown
    → AreFirstWays (setting_in (explained_by hope.case.value unknown)) found → AreHopedWays case found
ways_of_hope case hope unknown name t found is are ways = λ others are_too.
    let By : Explained → Type 0 = λ each. AreFirstWays (setting_in each) found in
    let same = is_hoped (explained_by case []) (explained_by hope.case.value unknown) case hope unknown name t refl refl is in
    let one = one_unknown (basis_by case) unknown others are are_too in
    subst By (same ∙ ap (λ each. hoped (explained_by case []) each) one) ways

-- the ways that are kept are by this hope
pub hope_by_ways : (case : CaseContents) (hope : Hope) (unknown : List Entry) (name : Labels) (t : ℕ) (found : List KeptWay)
    (its : Explained) → IsHope case name t hope → AreUnknown (basis_by case) unknown → its ≡ explained_by hope.case.value unknown
    → AreHopedWays case found → AreFirstWays (setting_in its) found
hope_by_ways case hope unknown name t found its is are its_same ways =
    let By : Explained → Type 0 = λ each. AreFirstWays (setting_in each) found in
    subst By (sym (is_hoped (explained_by case []) its case hope unknown name t refl its_same is)) (ways unknown are)

-- where none are kept, each that is is one
pub no_hoped_ways : (case : CaseContents) (found : List KeptWay) → found ≡ [] → AreHopedWays case found
no_hoped_ways case found none = λ unknown are k kept there.
    let within = slice_get_within found (k - 1) kept there.1 in
    let empty : length found ≡ 0 = ap length none in
    absurd (omega (arith, within, empty))
