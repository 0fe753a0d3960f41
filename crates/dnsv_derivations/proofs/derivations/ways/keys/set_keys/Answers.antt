use Rattle.std.proofs.Common.{◌+◌, [], List, sym, subst, take}
use Rattle.dnsv_derivations.specs.Explained.{setting_in}
use Rattle.dnsv_derivations.specs.derivations.WaySearch.{AreSetKeys}
use Rattle.dnsv_derivations.specs.declared.derivations.ways.keys.SetKey.{SetKey}
use Rattle.dnsv_derivations.proofs.lemmas.derivations.WayLemmas.SetLemmas.{no_set_keys, set_keys_more}
use Rattle.dnsv_derivations.proofs.derivations.ways.keys.set_keys.Goals as goal

pub loop-key-init : goal.loop-key-init
loop-key-init c =
    let Are : List SetKey → Type 0 = λ made. AreSetKeys (setting_in c.args.evidence.now) c.args.number c.args.rrset.now [] made in
    subst Are (sym c.new-made.ensures.items) (no_set_keys (setting_in c.args.evidence.now) c.args.number c.args.rrset.now)

pub loop-key-preserved : goal.loop-key-preserved
loop-key-preserved c =
    let Are : List SetKey → Type 0 =
    λ made. AreSetKeys (setting_in c.args.evidence.now) c.args.number c.args.rrset.now (take (c.loop-key.key-index + 1) c.args.keys.now) made in
    subst Are (sym c.in_ok-push.ensures.items)
    (set_keys_more (setting_in c.args.evidence.now) c.args.number c.args.rrset.now c.args.keys.now c.loop-key.made.items c.loop-key.key-index
    c.key-item.result c.in_ok-set_key.field-0 c.loop-key-test.true c.key-item.is c.in_ok-set_key.ensures.key c.in_ok-set_key.ensures.signing
    c.loop-key.invariant)
