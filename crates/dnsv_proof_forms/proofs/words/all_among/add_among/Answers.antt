use Rattle.std.proofs.Common.{refl, length, arith, sym}
use Rattle.std.proofs.lemmas.Option.{slice_get_read}
use Rattle.dnsv_proof_forms.proofs.lemmas.words.AllPlacesLemmas.{all_added, none_added, none_added_more, one_added}
use Rattle.dnsv_proof_forms.proofs.words.all_among.add_among.Goals as goal

pub loop-each-init : goal.loop-each-init
loop-each-init g c = none_added (g.W.Word.says c.args.word.now) c.args.entries.now c.args.places.now c.args.said.now.items

pub is_said_at-requires : goal.is_said_at-requires
is_said_at-requires g c = c.requires c.each-item.result (c.loop-each.each-index, c.loop-each-test.true, sym c.each-item.is)

pub loop-each-preserved-then-not-is_said_at : goal.loop-each-preserved-then-not-is_said_at
loop-each-preserved-then-not-is_said_at g c =
    none_added_more (g.W.Word.says c.args.word.now) c.args.entries.now c.args.places.now c.args.said.now.items c.loop-each.each-index c.each-item.result c.loop-each.said.items
    (slice_get_read c.args.places.now (length c.args.places.now) c.loop-each.each-index c.each-item.result refl c.loop-each-test.true c.each-item.is)
    (λ says. let holds = c.is_said_at.ensures.1 says in let fails = c.if-not-is_said_at.true in cc)
    c.loop-each.invariant

pub loop-each-preserved : goal.loop-each-preserved
loop-each-preserved g c = rw c.in_ok-push.ensures.items
    (one_added (g.W.Word.says c.args.word.now) c.args.entries.now c.args.places.now c.args.said.now.items c.loop-each.each-index c.each-item.result c.loop-each.said.items
    (slice_get_read c.args.places.now (length c.args.places.now) c.loop-each.each-index c.each-item.result refl c.loop-each-test.true c.each-item.is)
    (c.is_said_at.ensures.0 c.if-not-is_said_at.false)
    c.loop-each.invariant)

pub returns : goal.returns
returns g c =
    all_added (g.W.Word.says c.args.word.now) c.args.entries.now c.args.places.now c.args.said.now.items c.loop-each.each-index c.loop-each.said.items (omega (arith, c.loop-each-test.false)) c.loop-each.invariant
