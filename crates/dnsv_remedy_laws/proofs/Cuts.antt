-- Of names that may be unsigned delegations and are alike: they are so on the same ways.
use Rattle.std.proofs.Common.{◌≡◌, ◌||◌, ℕ, if◌then◌else◌, List, [], ◌∷◌, Option, Some, None, refl}
use Rattle.dnsv_lines.specs.declared.line.fault.denial.WhySource.TheVariants as why
use Rattle.dnsv_mending.specs.Level.{Leveled}
use Rattle.dnsv_mending.specs.Mend.{Mended}
use Rattle.dnsv_mending.specs.declared.price.Class.TheVariants as class
use Rattle.dnsv_remedies.specs.Cuts.{cut_after, cut_least, cut_remedy, cut_source_ways, cut_ways, is_proving, is_way, lacks_nothing, opt_out_remedy, parent_ways, signed_remedy, source_remedy}
use Rattle.dnsv_remedies.specs.Parts.{zone_kept}
use Rattle.dnsv_remedies.specs.Remedy.{Remedied, after, both, ended, gap, least, missing, ways_of, with_unusable}
use Rattle.dnsv_remedies.specs.declared.facts.cut.CutCase.{CutCase}
use Rattle.dnsv_remedies.specs.declared.facts.cut.CutFacts.{CutFacts}
use Rattle.dnsv_remedies.specs.declared.facts.cut.CutSource.{CutSource}
use Rattle.dnsv_remedies.specs.declared.facts.cut.OptOutFacts.{OptOutFacts}
use Rattle.dnsv_remedies.specs.declared.facts.cut.ParentFacts.{ParentFacts}
use Rattle.dnsv_remedies.specs.declared.facts.cut.SignedCutFacts.{SignedCutFacts}
use Rattle.dnsv_remedies.specs.declared.facts.name.AskedName.TheVariants as name
use Rattle.dnsv_remedies.specs.declared.facts.name.SourceNumber.{SourceNumber}
use Rattle.dnsv_remedies.specs.declared.said.Said.TheVariants as said
use Rattle.dnsv_remedy_laws.specs.AlikeQuestions.{AreAlikeCutCases, AreAlikeCutSources, AreAlikeCuts, AreAlikeOptOuts, AreAlikeParents, AreAlikeSignedCuts}
use Rattle.dnsv_remedy_laws.specs.AlikeQuestions.AreAlikeCutCases.{delegation, no_cut, signed, opt_out, uncovered, unmatched}
use Rattle.dnsv_remedy_laws.proofs.Lists.{flat_map-alike, is_none-alike, list_any-alike}
use Rattle.dnsv_remedy_laws.proofs.Parts.{part-alike, part_of_one-alike}

-- ---- what a source lacks

signed_remedy-alike : (levels : List Leveled) (n : SourceNumber) (c : ℕ) (a b : SignedCutFacts) → AreAlikeSignedCuts a b
    → signed_remedy levels n c a ≡ signed_remedy levels n c b
signed_remedy-alike levels n c a b e = λ i. both (part_of_one-alike levels n.zone a.rrset b.rrset e.rrset i)
    (missing class.Lacking (said.Source (why.TypeHeld (e.number i) (e.held i)) n (name.At c) ∷ []))

opt_out_remedy-alike : (levels : List Leveled) (n : SourceNumber) (c : ℕ) (a b : OptOutFacts) → AreAlikeOptOuts a b
    → opt_out_remedy levels n c a ≡ opt_out_remedy levels n c b
opt_out_remedy-alike levels n c a b e = λ i.
    both (part-alike levels n.zone (said.Source why.EncloserMissing n (name.At c) ∷ []) a.shown.items b.shown.items e.shown i)
    (part-alike levels n.zone [] a.covers.items b.covers.items e.covers i)

cut_remedy-alike : (levels : List Leveled) (n : SourceNumber) (c : ℕ) (x y : CutCase) → AreAlikeCutCases x y
    → cut_remedy levels n c x ≡ cut_remedy levels n c y
cut_remedy-alike levels n c x y (delegation a b e) = λ i. Some (part-alike levels n.zone [] a.items b.items e i)
cut_remedy-alike levels n c x y no_cut = refl
cut_remedy-alike levels n c x y (signed a b e) = λ i. Some (signed_remedy-alike levels n c a b e i)
cut_remedy-alike levels n c x y (opt_out a b e) = λ i. Some (opt_out_remedy-alike levels n c a b e i)
cut_remedy-alike levels n c x y uncovered = refl
cut_remedy-alike levels n c x y unmatched = refl

source_remedy-alike : (levels : List Leveled) (zone c : ℕ) (a b : CutSource) → AreAlikeCutSources a b
    → source_remedy levels zone c a ≡ source_remedy levels zone c b
source_remedy-alike levels zone c a b e = λ i.
    cut_remedy-alike levels (record { zone = zone; place = e.place i }) c a.case b.case e.its_case i

cut_source_ways-alike : (levels : List Leveled) (zone c : ℕ) (a b : CutSource) → AreAlikeCutSources a b
    → cut_source_ways levels zone c a ≡ cut_source_ways levels zone c b
unfolding cut_source_ways
cut_source_ways-alike levels zone c a b e = λ i. ways_of (source_remedy-alike levels zone c a b e i)

is_proving-alike : (levels : List Leveled) (zone c : ℕ) (a b : CutSource) → AreAlikeCutSources a b
    → is_proving levels zone c a ≡ is_proving levels zone c b
unfolding is_proving
is_proving-alike levels zone c a b e = λ i. lacks_nothing (source_remedy-alike levels zone c a b e i)

-- ---- names, and the zones above them

is_way-alike : (levels : List Leveled) (zone : ℕ) (a b : CutFacts) → AreAlikeCuts a b → is_way levels zone a ≡ is_way levels zone b
is_way-alike levels zone a b e = λ i. e.is_shown i || list_any-alike AreAlikeCutSources (is_proving levels zone (e.name i))
    (is_proving levels zone (e.name i)) (is_proving-alike levels zone (e.name i)) a.sources.items b.sources.items e.sources i

cut_least-alike : (levels : List Leveled) (zone : ℕ) (a b : CutFacts) → AreAlikeCuts a b
    → cut_least levels zone a ≡ cut_least levels zone b
cut_least-alike levels zone a b e = λ i. if is_none-alike AreAlikeCutSources a.sources.items b.sources.items e.sources i then Some gap
    else least (flat_map-alike AreAlikeCutSources (cut_source_ways levels zone (e.name i)) (cut_source_ways levels zone (e.name i))
    (cut_source_ways-alike levels zone (e.name i)) a.sources.items b.sources.items e.sources i)

cut_after-alike : (above : Option Mended) (c : ℕ) (m : Option Remedied) (a b : ParentFacts) → AreAlikeParents a b
    → cut_after above a c m ≡ cut_after above b c m
cut_after-alike above c None a b e = refl
cut_after-alike above c (Some m) a b e = λ i.
    after above (ended (said.DsUnproved (record { zone = e.labels i; name = c })) (with_unusable (e.unusable i) m))

cut_ways-alike : (levels : List Leveled) (a b : ParentFacts) → AreAlikeParents a b → (x y : CutFacts) → AreAlikeCuts x y
    → cut_ways levels a x ≡ cut_ways levels b y
unfolding cut_ways
cut_ways-alike levels a b e x y d = λ i. if is_way-alike levels (e.labels i) x y d i
    then cut_after-alike (zone_kept levels (e.labels i)) (d.name i) (cut_least-alike levels (e.labels i) x y d i) a b e i else []

pub parent_ways-alike : (levels : List Leveled) (a b : ParentFacts) → AreAlikeParents a b → parent_ways levels a ≡ parent_ways levels b
unfolding parent_ways
parent_ways-alike levels a b e = flat_map-alike AreAlikeCuts (cut_ways levels a) (cut_ways levels b) (cut_ways-alike levels a b e)
    a.cuts.items b.cuts.items e.cuts
