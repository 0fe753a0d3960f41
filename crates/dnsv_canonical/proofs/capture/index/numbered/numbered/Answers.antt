use Rattle.std.proofs.Common.{◌∙◌, ◌+◌, ◌++◌, ◌∷◌, [], sym, ap, length, refl}
use Rattle.std.proofs.lemmas.Option.{slice_get_read}
use Rattle.dnsv_canonical.proofs.IndexLemmas.Growth.{numbered_more}
use Rattle.dnsv_canonical.proofs.capture.index.numbered.numbered.Goals as goal

pub loop-place-preserved : goal.loop-place-preserved
loop-place-preserved c =
    c.in_ok-push.ensures.items ∙ ap (λ front. front ++ (c.args.others + 1 + c.loop-place.place, c.index-rrsets-place.result) ∷ []) c.loop-place.invariant
    ∙ sym (numbered_more (c.args.others + 1) c.args.rrsets.now c.loop-place.place c.index-rrsets-place.result
    (slice_get_read c.args.rrsets.now (length c.args.rrsets.now) c.loop-place.place c.index-rrsets-place.result refl c.loop-place-test.true c.index-rrsets-place.is))
