use Rattle.std.proofs.Common.{refl, length, sym, arith}
use Rattle.std.proofs.lemmas.Option.{slice_get_read}
use Rattle.dnsv_proof_forms.proofs.lemmas.words.FirstAmongLemmas.{first_more, first_of_all, none_yet}
use Rattle.dnsv_proof_forms.proofs.words.first_among.first_among.Goals as goal

pub loop-each-init : goal.loop-each-init
loop-each-init g c = none_yet (g.W.Word.says c.args.word.now) c.args.entries.now c.args.places.now

pub if_said-requires : goal.if_said-requires
if_said-requires g c = c.requires c.each-item.result (c.loop-each.each-index, c.loop-each-test.true, sym c.each-item.is)

pub loop-each-preserved : goal.loop-each-preserved
loop-each-preserved g c =
    first_more (g.W.Word.says c.args.word.now) c.args.entries.now c.args.places.now c.loop-each.each-index c.each-item.result
    c.loop-each.found c.if_said.result c.earlier-found.result
    (slice_get_read c.args.places.now (length c.args.places.now) c.loop-each.each-index c.each-item.result refl c.loop-each-test.true c.each-item.is)
    c.loop-each.invariant c.if_said.ensures c.earlier-found.ensures

pub returns : goal.returns
returns g c =
    first_of_all (g.W.Word.says c.args.word.now) c.args.entries.now c.args.places.now c.loop-each.each-index c.loop-each.found (omega (arith, c.loop-each-test.false)) c.loop-each.invariant
