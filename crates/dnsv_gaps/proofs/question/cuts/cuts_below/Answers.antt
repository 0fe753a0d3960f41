use Rattle.std.proofs.Common.{map, subst, sym}
use Rattle.dnsv_gaps.specs.SourceSearch.{AreHeldSources, held_chain}
use Rattle.dnsv_gaps.proofs.question.cuts.cuts_below.Goals as goal

pub cuts-requires : goal.cuts-requires
cuts-requires c = record {
  asked = c.requires.asked;
  within = c.requires.zone.within;
  next = c.next_zone.ensures;
  sources = subst (AreHeldSources c.args.question.now c.args.zone.now.labels) (sym c.deref.ensures.value) c.in_ok-sources.ensures;
}

pub returns : goal.returns
returns c =
    let held = subst (AreHeldSources c.args.question.now c.args.zone.now.labels) (sym c.deref.ensures.value) c.in_ok-sources.ensures in
    record {
      next = c.next_zone.result;
      next_is = c.next_zone.ensures;
      chains = map held_chain c.deref.result.now;
      are_sources = held.chains;
      each = c.in_ok-cuts.ensures;
    }
