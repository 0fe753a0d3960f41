use Rattle.std.proofs.Common.{◌≡◌, ◌+◌, ℕ, List, sym, ap, ◌∙◌, subst}
use Rattle.dnsv_verifier.proofs.KeyLemmas.{reads_as}
use Rattle.dnsv_verifier.specs.Admissible.{DnskeyRecord}
use Rattle.dnsv_chain.specs.Chain.{AreKeysTo}
use Rattle.dnsv_chain.proofs.ChainLemmas.{place_within, all_places, key_stands, keys_more, all_keys}
use Rattle.dnsv_chain.proofs.chain.keys_of.Goals as goal

pub rdata-requires : goal.rdata-requires
rdata-requires c =
    place_within c.args.set.now c.dnskeys-dnskey-items.result.now c.loop-place.place c.requires c.dnskeys-dnskey-items.ensures c.loop-place-test.true

pub new-requires : goal.new-requires
new-requires c =
    reads_as c.args.set.now c.dnskeys-dnskey-items.result.now c.dnskeys-dnskey-items.ensures c.loop-place.place c.dnskey-item.result c.rdata.result.now c.loop-place-test.true c.dnskey-item.is c.rdata.ensures.value

pub loop-place-preserved : goal.loop-place-preserved
loop-place-preserved c =
    let set = c.args.set.now in
    let i : ℕ = c.loop-place.place in
    let rdata = c.rdata.result.now in
    let key = c.new.result in
    let made : key ≡ record { owner = set.owner; rdata = rdata; dnskey = c.dnskey-item.result } =
    c.new.ensures ∙ (λ j. record { owner = c.owner.ensures j; rdata = rdata; dnskey = c.dnskey-item.result }) in
    let stands = key_stands set c.dnskeys-dnskey-items.result.now i c.dnskey-item.result rdata key c.requires c.dnskeys-dnskey-items.ensures c.loop-place-test.true c.dnskey-item.is c.rdata.ensures.value made in
    let there = λ (other : List ℕ). c.rdata.ensures.value other ∙ sym (ap (λ (k : DnskeyRecord). k.rdata) made) in
    subst (λ (keys : List DnskeyRecord). AreKeysTo set (i + 1) keys) (sym c.in_ok-push.ensures.items)
    (keys_more set i c.loop-place.keys.items key stands there c.loop-place.invariant)

pub returns : goal.returns
returns c =
    let set = c.args.set.now in
    all_keys set c.loop-place.place c.loop-place.keys.items
    (all_places set c.dnskeys-dnskey-items.result.now c.loop-place.place c.requires c.dnskeys-dnskey-items.ensures c.loop-place-test.false)
    c.loop-place.invariant
