use Rattle.std.proofs.Common.{get_or, length, refl}
use Rattle.std.proofs.lemmas.List.{get_or_default}
use Rattle.dnsv_verifier.specs.Table.{table_answer}
use Rattle.dnsv_derivations.specs.declared.derivations.ways.kept.NewKey.{NewKey}
use Rattle.dnsv_derivations.proofs.lemmas.NumberedLemmas.{numbered_at}
use Rattle.dnsv_derivations.proofs.lemmas.derivations.ValidLemmas.{none_yet, valid_to}
use Rattle.dnsv_derivations.proofs.derivations.signers.valid.lowest_valid.Goals as goal

pub loop-key-init : goal.loop-key-init
loop-key-init c = none_yet (table_answer c.args.table.now) c.args.rrsig.now c.args.octets.now c.args.set.now c.args.keys.now

pub loop-key-preserved : goal.loop-key-preserved
loop-key-preserved c =
    let keys = c.args.keys.now in
    let i = c.loop-key.key-index in
    let first : NewKey = record { place = 0; tag = record { 0 = 0 } } in
    let key : NewKey = get_or keys i first in
    c.lower-lowest.ensures (table_answer c.args.table.now) c.args.rrsig.now c.args.octets.now c.args.set.now keys i key
    (numbered_at keys keys i key refl c.loop-key-test.true (get_or_default keys i first key c.loop-key-test.true))
    c.loop-key.invariant c.valid_key-found.ensures

pub returns : goal.returns
returns c =
    valid_to (table_answer c.args.table.now) c.args.rrsig.now c.args.octets.now c.args.set.now c.args.keys.now (length c.args.keys.now)
    c.loop-key.key-index c.loop-key.lowest c.loop-key-test.false c.loop-key.invariant
