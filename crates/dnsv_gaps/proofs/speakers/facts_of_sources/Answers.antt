use Rattle.std.proofs.Common.{List, map, subst, sym}
use Rattle.std.specs.List.{AllByRecursion}
use Rattle.dnsv_gaps.specs.SourceSearch.{IsHeldIn, held_chain}
use Rattle.dnsv_gaps.specs.declared.sources.HeldSource.{HeldSource}
use Rattle.dnsv_gaps.proofs.SpeakerLemmas.{Told}
use Rattle.dnsv_gaps.proofs.speakers.facts_of_sources.Goals as goal

pub facts_of_each-requires-clause-within : goal.facts_of_each-requires-clause-within
facts_of_each-requires-clause-within c = c.requires.zone.within

pub facts_of_each-requires-clause-each : goal.facts_of_each-requires-clause-each
facts_of_each-requires-clause-each c =
    subst (AllByRecursion (IsHeldIn c.args.question.now c.args.zone.now.labels)) (sym c.deref.ensures.value) c.in_ok-sources.ensures.each

pub returns : goal.returns
returns c = record {
  chains = map held_chain c.in_ok-sources.sources.items;
  are_sources = c.in_ok-sources.ensures.chains;
  each = subst (λ (some : List HeldSource). Told c.args.question.now c.args.zone.now.labels c.in_ok-sources.sources.items some c.in_ok-facts_of_each.field-0.items)
      c.deref.ensures.value c.in_ok-facts_of_each.ensures;
}
