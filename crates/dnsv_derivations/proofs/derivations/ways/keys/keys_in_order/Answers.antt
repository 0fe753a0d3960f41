use Rattle.std.proofs.Common.{List, subst, sym}
use Rattle.dnsv_verifier.specs.Admissible.{DnskeyRecord}
use Rattle.dnsv_derivations.specs.derivations.WaySearch.{AreKeysInOrder, key_of}
use Rattle.dnsv_derivations.proofs.lemmas.derivations.WayLemmas.KeysLemmas.{all_made, keys_are}
use Rattle.dnsv_derivations.proofs.derivations.ways.keys.keys_in_order.Goals as goal

pub returns : goal.returns
returns c =
    let InOrder : List DnskeyRecord → Type 0 = λ keys. AreKeysInOrder c.args.set.now keys in
    subst InOrder
    (sym (all_made (λ each. key_of c.args.set.now.owner each.rdata.now each.record.now) c.loop-each.keys.items
    c.deref-each-items.result.now c.in_ok-records.records.items c.loop-each.each-index c.loop-each.invariant c.deref-each-items.ensures.value
    c.loop-each-test.false))
    (keys_are (λ each. each.rdata.now) (λ each. each.record.now) c.args.set.now c.in_ok-records.records.items c.requires
    c.in_ok-records.ensures.order c.in_ok-records.ensures.read)
