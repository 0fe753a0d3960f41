-- the signature that is such, those before it, and all of them where none is
use Rattle.std.proofs.Common.{arith, length, refl}
use Rattle.std.proofs.lemmas.Option.{slice_get_read}
use Rattle.dnsv_verdict.proofs.SearchLemmas.{first_found, none_found, none_more}
use Rattle.dnsv_verdict.proofs.at_name.search.first_signature.Goals as goal
use Rattle.dnsv_verdict.proofs.at_name.search.first_signature.Goals.{else-is_among-via-then-is_among+else-is_passed_by, else-is_among-via-else-is_among}

pub returns-then-is_passed_by : goal.returns-then-is_passed_by
returns-then-is_passed_by g c =
    let signatures = c.signatures-signatures.result.now in
    first_found (g.T.Test.passes c.args.test.now) c.args.rrset.now c.args.numbers.now signatures c.loop-place.place
    c.index-signatures-place.result c.signatures-signatures.ensures c.loop-place.invariant
    (slice_get_read signatures (length signatures) c.loop-place.place c.index-signatures-place.result refl c.loop-place-test.true c.index-signatures-place.is)
    (c.is_among.ensures.0 c.if-is_among.true) (c.is_passed_by.ensures.0 c.if-is_passed_by.true)

pub loop-place-preserved : goal.loop-place-preserved
loop-place-preserved g c =
    let signatures = c.signatures-signatures.result.now in
    none_more (g.T.Test.passes c.args.test.now) c.args.rrset.now c.args.numbers.now signatures c.loop-place.place
    c.index-signatures-place.result c.loop-place.invariant
    (slice_get_read signatures (length signatures) c.loop-place.place c.index-signatures-place.result refl c.loop-place-test.true c.index-signatures-place.is)
    (λ among such. elim c.else-is_among.branch [
      | else-is_among-via-then-is_among+else-is_passed_by w ↦ (let holds = w.is_passed_by.ensures.1 such in let fails = w.if-is_passed_by.false in cc)
      | else-is_among-via-else-is_among w ↦ (let holds = c.is_among.ensures.1 among in let fails = w.if-is_among.false in cc)
    ])

pub returns : goal.returns
returns g c =
    none_found (g.T.Test.passes c.args.test.now) c.args.rrset.now c.args.numbers.now c.signatures-signatures.result.now
    c.loop-place.place (omega (arith, c.loop-place-test.false)) c.signatures-signatures.ensures c.loop-place.invariant
