use Rattle.std.proofs.Common.{◌++◌, ◌∷◌, [], List, length, append-nil, sym, ap, ◌∙◌}
use Rattle.dnsv_canonical.specs.Rdata.{IsWellFormed}
use Rattle.dnsv_canonical.specs.Rrsets.{ReceivedRrset}
use Rattle.dnsv_canonical.proofs.ListLemmas.{next_of, none_left, parts_more, size_more}
use Rattle.dnsv_canonical.proofs.rrset.to_rrsets.Goals as goal

pub loop-each-init : goal.loop-each-init
loop-each-init c = (
  ap (λ (rrsets : List ReceivedRrset). rrsets ++ c.into_iter-each-iterator.result.rest.items) c.in_ok-rrsets.ensures.items ∙ c.into_iter-each-iterator.ensures.into_iter_gives.0,
  c.into_iter-each-iterator.ensures.into_iter_gives.1 ∙ c.args.received.ok.0 ∙ ap length (sym c.into_iter-each-iterator.ensures.into_iter_gives.0),
)

pub of-requires : goal.of-requires
of-requires c =
    next_of IsWellFormed c.loop-each.rrsets.items c.loop-each.each-iterator.rest.items c.next.new.self.rest.items c.args.received.items c.in-Some.each
    c.requires c.loop-each.invariant.0 c.in-Some.ensures.steps.0

pub loop-each-preserved : goal.loop-each-preserved
loop-each-preserved c = (
  ap (λ rrsets. rrsets ++ c.next.new.self.rest.items) (c.in_ok-push.ensures.items ∙ ap (λ rrset. c.loop-each.rrsets.items ++ rrset ∷ []) c.in_ok-of.ensures)
      ∙ parts_more c.loop-each.rrsets.items c.loop-each.each-iterator.rest.items c.next.new.self.rest.items c.args.received.items c.in-Some.each c.in-Some.ensures.steps.0 c.loop-each.invariant.0,
  size_more c.loop-each.each-iterator.rest.items c.next.new.self.rest.items c.in-Some.each c.loop-each.each-iterator.rest.len c.next.new.self.rest.len c.in-Some.ensures.steps.0 c.in-Some.ensures.steps.1 c.loop-each.invariant.1,
)

pub returns : goal.returns
returns c =
    sym (append-nil c.loop-each.rrsets.items)
    ∙ ap (λ list. c.loop-each.rrsets.items ++ list) (sym (none_left c.loop-each.each-iterator.rest.items c.loop-each.each-iterator.rest.len c.in-None.ensures.steps.0 c.loop-each.invariant.1))
    ∙ c.loop-each.invariant.0
