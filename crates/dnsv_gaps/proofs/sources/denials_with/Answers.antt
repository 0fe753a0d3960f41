use Rattle.std.proofs.Common.{List, subst}
use Rattle.std.specs.Prelude.{Contains}
use Rattle.dnsv_names.specs.Name.{Labels, rightmost}
use Rattle.dnsv_canonical.specs.Rrsets.{ReceivedRrset}
use Rattle.dnsv_gaps.specs.Asking.{asking}
use Rattle.dnsv_gaps.specs.UnusableSearch.{AreUnused}
use Rattle.dnsv_gaps.proofs.UnusableLemmas.{all_unusable}
use Rattle.dnsv_gaps.proofs.ZoneLemmas.{zone_records}
use Rattle.dnsv_gaps.proofs.sources.denials_with.Goals as goal

pub returns-clause-denials : goal.returns-clause-denials
returns-clause-denials c =
    let question = c.args.question.now in
    let a = asking question in
    let zone = rightmost question.name.now c.args.labels in
    let numbers = c.args.numbers.now in
    let members = c.requires.members in
    let unusable = c.in_ok-unusable_of.field-0.items in
    let Of : List ReceivedRrset → Labels → Type 0 = λ r z. AreUnused r z (λ each. Contains numbers each.rrset) unusable in record {
      within = c.requires.within;
      has_denials = (
        λ yes. let some = c.has_any.ensures.0 yes in (some.0, (members some.0).0 some.1),
        λ has. c.has_any.ensures.1 (has.0, (members has.0).1 has.1),
      );
      records = zone_records a zone c.suffix-zone.result c.capture-capture.result.now.rrsets numbers c.in_ok-gathered_records.field-0
          c.suffix-zone.ensures.labels c.capture-capture.ensures members c.in_ok-gathered_records.ensures;
      unusable = all_unusable a zone (Contains numbers) members unusable
          (subst (Of question.facts.now.rrsets) c.suffix-zone.ensures.labels
          (subst (λ (r : List ReceivedRrset). Of r c.suffix-zone.result) c.capture-capture.ensures c.in_ok-unusable_of.ensures));
    }
