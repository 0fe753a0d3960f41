-- Of RRsets that are alike: the parts of a proof that they give are the same.
use Rattle.std.proofs.Common.{◌≡◌, ℕ, List, []}
use Rattle.std.specs.List.{AllZip}
use Rattle.dnsv_mending.specs.Level.{Leveled}
use Rattle.dnsv_mending.specs.Mend.{cheapest, ways_of}
use Rattle.dnsv_mending.specs.declared.facts.signature.RrsetFacts.{RrsetFacts}
use Rattle.dnsv_mending.specs.declared.price.Class.TheVariants as class
use Rattle.dnsv_remedies.specs.Parts.{or_missing, part, part_of_one, within_kept}
use Rattle.dnsv_remedies.specs.Remedy.{missing}
use Rattle.dnsv_remedies.specs.declared.said.Said.{Said}
use Rattle.dnsv_remedy_laws.specs.AlikeZones.{AreAlikeRrsets}
use Rattle.dnsv_remedy_laws.proofs.Lists.{flat_map-alike}
use Rattle.dnsv_remedy_laws.proofs.Rrsets.{within_ways-alike}

within_kept-alike : (levels : List Leveled) (zone : ℕ) (a b : RrsetFacts) → AreAlikeRrsets a b
    → within_kept levels zone a ≡ within_kept levels zone b
unfolding within_kept
within_kept-alike levels zone a b e = λ i. ways_of (cheapest (within_ways-alike levels zone a b e i))

pub part-alike : (levels : List Leveled) (zone : ℕ) (lines : List Said) (xs ys : List RrsetFacts) → AllZip AreAlikeRrsets xs ys
    → part levels zone xs lines ≡ part levels zone ys lines
part-alike levels zone lines xs ys e = λ i.
    or_missing (cheapest (flat_map-alike AreAlikeRrsets (within_kept levels zone) (within_kept levels zone)
    (within_kept-alike levels zone) xs ys e i)) (missing class.Lacking lines)

pub part_of_one-alike : (levels : List Leveled) (zone : ℕ) (a b : RrsetFacts) → AreAlikeRrsets a b
    → part_of_one levels zone a ≡ part_of_one levels zone b
part_of_one-alike levels zone a b e = λ i. or_missing (cheapest (within_ways-alike levels zone a b e i)) (missing class.Lacking [])
