use Rattle.std.proofs.Common.{refl, length, arith}
use Rattle.std.proofs.lemmas.Option.{slice_get_read}
use Rattle.dnsv_proof_forms.proofs.lemmas.words.AllPlacesLemmas.{all_asked, none_at_first, none_more, one_more}
use Rattle.dnsv_proof_forms.proofs.words.search.all_to_say.Goals as goal

pub loop-place-init : goal.loop-place-init
loop-place-init g c = rw c.new-places.ensures.items (none_at_first (g.W.Word.says c.args.word.now) c.args.entries.now)

pub loop-place-preserved-then-not-is_said_by : goal.loop-place-preserved-then-not-is_said_by
loop-place-preserved-then-not-is_said_by g c =
    none_more (g.W.Word.says c.args.word.now) c.args.entries.now c.loop-place.place c.index-entries-place.result c.loop-place.places.items
    (slice_get_read c.args.entries.now (length c.args.entries.now) c.loop-place.place c.index-entries-place.result refl c.loop-place-test.true c.index-entries-place.is)
    (λ says. let holds = c.is_said_by.ensures.1 says in let fails = c.if-not-is_said_by.true in cc)
    c.loop-place.invariant

pub loop-place-preserved : goal.loop-place-preserved
loop-place-preserved g c = rw c.in_ok-push.ensures.items
    (one_more (g.W.Word.says c.args.word.now) c.args.entries.now c.loop-place.place c.index-entries-place.result c.loop-place.places.items
    (slice_get_read c.args.entries.now (length c.args.entries.now) c.loop-place.place c.index-entries-place.result refl c.loop-place-test.true c.index-entries-place.is)
    (c.is_said_by.ensures.0 c.if-not-is_said_by.false)
    c.loop-place.invariant)

pub returns : goal.returns
returns g c = all_asked (g.W.Word.says c.args.word.now) c.args.entries.now c.loop-place.place c.loop-place.places.items (omega arith) c.loop-place.invariant
