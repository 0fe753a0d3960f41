-- The record that says the word, the records before it, and all of them where none says it.
use Rattle.std.proofs.Common.{refl, length, arith}
use Rattle.std.proofs.lemmas.Option.{slice_get_read}
use Rattle.dnsv_proof_forms.proofs.lemmas.words.FirstLemmas.{none_with, first_such_of, none_of}
use Rattle.dnsv_proof_forms.proofs.words.search.first_to_say.Goals as goal

pub loop-place-preserved : goal.loop-place-preserved
loop-place-preserved g c =
    none_with (g.W.Word.says c.args.word.now) c.args.entries.now c.loop-place.place c.index-entries-place.result
    (slice_get_read c.args.entries.now (length c.args.entries.now) c.loop-place.place c.index-entries-place.result refl c.loop-place-test.true c.index-entries-place.is)
    (λ says. let holds = c.is_said_by.ensures.1 says in let fails = c.if-is_said_by.false in cc)
    c.loop-place.invariant

pub returns-then-is_said_by : goal.returns-then-is_said_by
returns-then-is_said_by g c =
    first_such_of (g.W.Word.says c.args.word.now) c.args.entries.now c.loop-place.place c.index-entries-place.result
    (slice_get_read c.args.entries.now (length c.args.entries.now) c.loop-place.place c.index-entries-place.result refl c.loop-place-test.true c.index-entries-place.is)
    (c.is_said_by.ensures.0 c.if-is_said_by.true)
    c.loop-place.invariant

pub returns : goal.returns
returns g c =
    none_of (g.W.Word.says c.args.word.now) c.args.entries.now c.loop-place.place (omega arith) c.loop-place.invariant
