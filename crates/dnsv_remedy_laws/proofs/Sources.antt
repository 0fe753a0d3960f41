-- Of sources that are alike: they lack the same to deny a question.
use Rattle.std.proofs.Common.{◌≡◌, ℕ, if◌then◌else◌, List, [], ◌∷◌, map, refl}
use Rattle.std.specs.List.{AllZip}
use Rattle.dnsv_lines.specs.declared.line.denial.Role.TheVariants as role
use Rattle.dnsv_lines.specs.declared.line.fault.denial.WhySource.TheVariants as why
use Rattle.dnsv_mending.specs.Level.{Leveled}
use Rattle.dnsv_mending.specs.declared.facts.signature.RrsetFacts.{RrsetFacts}
use Rattle.dnsv_mending.specs.declared.price.Class.TheVariants as class
use Rattle.dnsv_remedies.specs.Remedy.{both, missing, nothing}
use Rattle.dnsv_remedies.specs.Sources.{at_remedy, case_remedy, closed_line, closed_remedy, encloser_remedy, held_line, next_remedy, shown_remedy, source_ways, wildcard_remedy}
use Rattle.dnsv_remedies.specs.declared.facts.denial.ClosedFacts.{ClosedFacts}
use Rattle.dnsv_remedies.specs.declared.facts.denial.EncloserFacts.{EncloserFacts}
use Rattle.dnsv_remedies.specs.declared.facts.denial.RecordsAt.{RecordsAt}
use Rattle.dnsv_remedies.specs.declared.facts.denial.SourceCase.{SourceCase}
use Rattle.dnsv_remedies.specs.declared.facts.denial.SourceFacts.{SourceFacts}
use Rattle.dnsv_remedies.specs.declared.facts.denial.WildcardFacts.{WildcardFacts}
use Rattle.dnsv_remedies.specs.declared.facts.name.AskedName.{AskedName}
use Rattle.dnsv_remedies.specs.declared.facts.name.AskedName.TheVariants as name
use Rattle.dnsv_remedies.specs.declared.facts.name.SourceNumber.{SourceNumber}
use Rattle.dnsv_remedies.specs.declared.said.Said.{Said}
use Rattle.dnsv_remedies.specs.declared.said.Said.TheVariants as said
use Rattle.dnsv_remedy_laws.specs.AlikeQuestions.{AreAlikeCases, AreAlikeClosed, AreAlikeEnclosers, AreAlikeRecords, AreAlikeSources, AreAlikeWildcards}
use Rattle.dnsv_remedy_laws.specs.AlikeQuestions.AreAlikeCases.{closed, at as at_name, apex, non_terminal, no_encloser, encloser}
use Rattle.dnsv_remedy_laws.specs.AlikeQuestions.AreAlikeRecords.{denying, holding}
use Rattle.dnsv_remedy_laws.specs.AlikeQuestions.AreAlikeWildcards.{opted_out, at as at_wildcard, covered}
use Rattle.dnsv_remedy_laws.specs.AlikeZones.{AreAlikeRrsets}
use Rattle.dnsv_remedy_laws.proofs.Lists.{is_none-alike}
use Rattle.dnsv_remedy_laws.proofs.Parts.{part-alike, part_of_one-alike}

at_remedy-alike : (levels : List Leveled) (n : SourceNumber) (x : AskedName) (r s : RecordsAt) → AreAlikeRecords r s
    → at_remedy levels n x r ≡ at_remedy levels n x s
at_remedy-alike levels n x r s (denying a b e) = part-alike levels n.zone [] a.items b.items e
at_remedy-alike levels n x r s (holding a b e) = λ i. both (part-alike levels n.zone [] a.rrsets.items b.rrsets.items e.rrsets i)
    (missing class.Lacking (map (held_line n x) (e.held i)))

closed_line-alike : (n : SourceNumber) (a b : ClosedFacts) → AreAlikeClosed a b → closed_line n a ≡ closed_line n b
closed_line-alike n a b e = λ i. if e.is_dname i then said.DnameHeld (e.name i) (e.number i)
    else said.Source (why.Delegation (e.number i)) n (name.At (e.name i))

closed_remedy-alike : (levels : List Leveled) (n : SourceNumber) (a b : ClosedFacts) → AreAlikeClosed a b
    → closed_remedy levels n a ≡ closed_remedy levels n b
closed_remedy-alike levels n a b e = λ i. both (part_of_one-alike levels n.zone a.rrset b.rrset e.rrset i)
    (missing class.Missing (closed_line-alike n a b e i ∷ []))

wildcard_remedy-alike : (levels : List Leveled) (n : SourceNumber) (ce : ℕ) (x y : WildcardFacts) → AreAlikeWildcards x y
    → wildcard_remedy levels n ce x ≡ wildcard_remedy levels n ce y
wildcard_remedy-alike levels n ce x y opted_out = refl
wildcard_remedy-alike levels n ce x y (at_wildcard a b e) = at_remedy-alike levels n (name.Wildcard ce) a b e
wildcard_remedy-alike levels n ce x y (covered a b e) =
    part-alike levels n.zone (said.Source (why.CoverMissing role.Wildcard) n (name.Wildcard ce) ∷ []) a.items b.items e

shown_remedy-alike : (levels : List Leveled) (n : SourceNumber) (xs ys : List RrsetFacts) → AllZip AreAlikeRrsets xs ys
    → shown_remedy levels n xs ≡ shown_remedy levels n ys
shown_remedy-alike levels n xs ys e = λ i. if is_none-alike AreAlikeRrsets xs ys e i then nothing
    else part-alike levels n.zone [] xs ys e i

next_remedy-alike : (levels : List Leveled) (labels : ℕ) (n : SourceNumber) (a b : EncloserFacts) → AreAlikeEnclosers a b
    → next_remedy levels labels n a ≡ next_remedy levels labels n b
next_remedy-alike levels labels n a b e = λ i.
    let cover : Said = said.Source (why.CoverMissing role.NextCloser) n (name.At (e.next i)) in
    let lines : List Said = cover ∷ said.Source why.MatchMissing n (name.At labels) ∷ [] in
    part-alike levels n.zone lines a.covers.items b.covers.items e.covers i

encloser_remedy-alike : (levels : List Leveled) (labels : ℕ) (n : SourceNumber) (a b : EncloserFacts) → AreAlikeEnclosers a b
    → encloser_remedy levels labels n a ≡ encloser_remedy levels labels n b
encloser_remedy-alike levels labels n a b e = λ i. both (shown_remedy-alike levels n a.shown.items b.shown.items e.shown i)
    (both (next_remedy-alike levels labels n a b e i) (wildcard_remedy-alike levels n (e.name i) a.wildcard b.wildcard e.wildcard i))

case_remedy-alike : (levels : List Leveled) (labels : ℕ) (n : SourceNumber) (x y : SourceCase) → AreAlikeCases x y
    → case_remedy levels labels n x ≡ case_remedy levels labels n y
case_remedy-alike levels labels n x y (closed a b e) = closed_remedy-alike levels n a b e
case_remedy-alike levels labels n x y (at_name a b e) = at_remedy-alike levels n (name.At labels) a b e
case_remedy-alike levels labels n x y apex = refl
case_remedy-alike levels labels n x y (non_terminal a b e) = part-alike levels n.zone [] a.items b.items e
case_remedy-alike levels labels n x y no_encloser = refl
case_remedy-alike levels labels n x y (encloser a b e) = encloser_remedy-alike levels labels n a b e

pub source_ways-alike : (levels : List Leveled) (labels zone : ℕ) (a b : SourceFacts) → AreAlikeSources a b
    → source_ways levels labels zone a ≡ source_ways levels labels zone b
unfolding source_ways
source_ways-alike levels labels zone a b e = λ i.
    case_remedy-alike levels labels (record { zone = zone; place = e.place i }) a.case b.case e.its_case i ∷ []
