use Rattle.std.proofs.Common.{◌≡◌, arith, sym, ap, ◌∙◌}
use Rattle.dnsv_verifier.proofs.KeyLemmas.{reads_as}
use Rattle.dnsv_verifier.specs.Admissible.{DnskeyRecord}
use Rattle.dnsv_chain.proofs.ChainLemmas.{all_places, key_stands, place_within}
use Rattle.dnsv_derivations.proofs.derivations.signers.valid.key_at.Goals as goal

pub returns-then-place-keys : goal.returns-then-place-keys
returns-then-place-keys c =
    all_places c.args.set.now c.dnskeys-keys.result.now c.args.place c.requires c.dnskeys-keys.ensures
    (omega (arith, c.if-place-keys.true))

pub rdata-requires : goal.rdata-requires
rdata-requires c =
    place_within c.args.set.now c.dnskeys-keys.result.now c.args.place c.requires c.dnskeys-keys.ensures
    (omega (arith, c.if-place-keys.false))

pub new-requires : goal.new-requires
new-requires c =
    reads_as c.args.set.now c.dnskeys-keys.result.now c.dnskeys-keys.ensures c.args.place c.dnskey_at-dnskey.result.now c.rdata.result.now
    (omega (arith, c.if-place-keys.false)) (sym (c.dnskey_at-dnskey.ensures c.dnskey_at-dnskey.result.now))
    c.rdata.ensures.value

pub returns : goal.returns
returns c =
    let set = c.args.set.now in
    let rdata = c.rdata.result.now in
    let dnskey = c.dnskey_at-dnskey.result.now in
    let made : c.new.result ≡ record { owner = set.owner; rdata = rdata; dnskey = dnskey } =
    c.new.ensures ∙ (λ j. record { owner = c.owner.ensures j; rdata = rdata; dnskey = dnskey }) in (
      key_stands set c.dnskeys-keys.result.now c.args.place dnskey rdata c.new.result c.requires c.dnskeys-keys.ensures
          (omega (arith, c.if-place-keys.false)) (sym (c.dnskey_at-dnskey.ensures dnskey)) c.rdata.ensures.value made,
      c.rdata.ensures.value c.new.result.rdata ∙ sym (ap (λ (key : DnskeyRecord). key.rdata) made),
    )
