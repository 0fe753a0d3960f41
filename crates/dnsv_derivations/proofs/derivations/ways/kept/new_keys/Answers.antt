use Rattle.std.proofs.Common.{◌+◌, inl, inr, List, length, arith, sym, subst}
use Rattle.dnsv_derivations.specs.Explained.{setting_in}
use Rattle.dnsv_names.specs.Name.{Labels}
use Rattle.dnsv_derivations.specs.derivations.NewKeys.{IsAmongNew, IsHadAbove}
use Rattle.dnsv_derivations.specs.declared.derivations.ways.kept.NewKey.{NewKey}
use Rattle.dnsv_derivations.proofs.lemmas.derivations.WayLemmas.NewKeyLemmas.{AreThereTo, all_there, none_there, one_more_new, one_more_there}
use Rattle.dnsv_derivations.proofs.derivations.ways.kept.new_keys.Goals as goal

pub loop-place-init : goal.loop-place-init
loop-place-init c = none_there (setting_in c.args.evidence.now) (length c.args.before.now) c.args.rrset.now c.new-keys.result.items

pub loop-place-preserved-then-is_among : goal.loop-place-preserved-then-is_among
loop-place-preserved-then-is_among c =
    let rdata = c.rdata-rdata.result.now in
    let Among : List NewKey → Type 0 = λ keys. IsAmongNew c.args.rrset.now rdata keys in
    one_more_there (setting_in c.args.evidence.now) (length c.args.before.now) c.args.rrset.now c.loop-place.keys.items c.loop-place.place rdata
    (sym (c.rdata-rdata.ensures.value rdata)) (inl (subst Among c.as_slice.ensures.value (c.is_among.ensures c.if-is_among.true)))
    c.loop-place.invariant

pub loop-place-preserved-then-is_had_above : goal.loop-place-preserved-then-is_had_above
loop-place-preserved-then-is_had_above c =
    let rdata = c.rdata-rdata.result.now in
    let Had : Labels → Type 0 = λ owner. IsHadAbove (setting_in c.args.evidence.now) (length c.args.before.now) owner rdata in
    one_more_there (setting_in c.args.evidence.now) (length c.args.before.now) c.args.rrset.now c.loop-place.keys.items c.loop-place.place rdata
    (sym (c.rdata-rdata.ensures.value rdata)) (inr (subst Had c.owner.ensures (c.is_had_above.ensures c.if-is_had_above.true)))
    c.loop-place.invariant

pub loop-place-preserved : goal.loop-place-preserved
loop-place-preserved c =
    let rdata = c.rdata-rdata.result.now in
    let before = c.loop-place-test.true in
    let end = c.loop-place.auto.place-end in
    let size = c.len-place-end.ensures.count in
    let There : List NewKey → Type 0 =
    λ keys. AreThereTo (setting_in c.args.evidence.now) (length c.args.before.now) c.args.rrset.now keys (c.loop-place.place + 1) in
    subst There (sym c.in_ok-push.ensures.items)
    (one_more_new (setting_in c.args.evidence.now) (length c.args.before.now) c.args.rrset.now c.loop-place.keys.items _ c.loop-place.place
    rdata (sym (c.rdata-rdata.ensures.value rdata))
    (record { within = omega (arith, before, end, size); at = c.rdata-rdata.ensures.value rdata; tag = c.key_tag.ensures })
    c.loop-place.invariant)

pub returns : goal.returns
returns c =
    let past = c.loop-place-test.false in
    let end = c.loop-place.auto.place-end in
    let size = c.len-place-end.ensures.count in
    all_there (setting_in c.args.evidence.now) (length c.args.before.now) c.args.rrset.now c.loop-place.keys.items c.loop-place.place
    (omega (arith, past, end, size)) c.loop-place.invariant
