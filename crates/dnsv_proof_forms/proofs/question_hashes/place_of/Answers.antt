use Rattle.std.proofs.Common.{◌≡◌, length, refl, arith}
use Rattle.std.proofs.lemmas.Option.{slice_get_read, slice_get_within}
use Rattle.dnsv_proof_forms.proofs.lemmas.words.FirstLemmas.{none_with}
use Rattle.dnsv_zones.specs.chains.Rdata.{parameters_of}
use Rattle.dnsv_proof_forms.specs.declared.records.name_hashes.NameHashes.{NameHashes}
use Rattle.dnsv_proof_forms.proofs.question_hashes.place_of.Goals as goal

pub returns-then-has_parameters : goal.returns-then-has_parameters
returns-then-has_parameters c = (
  c.index-sets-place.result,
  slice_get_read c.args.sets.now (length c.args.sets.now) c.loop-place.place c.index-sets-place.result refl c.loop-place-test.true c.index-sets-place.is,
  c.has_parameters.ensures.0 c.if-has_parameters.true,
)

pub loop-place-preserved : goal.loop-place-preserved
loop-place-preserved c =
    none_with (λ (set : NameHashes). parameters_of set.parameters.now ≡ record { iterations = c.args.iterations; salt = c.args.salt.now })
    c.args.sets.now c.loop-place.place c.index-sets-place.result
    (slice_get_read c.args.sets.now (length c.args.sets.now) c.loop-place.place c.index-sets-place.result refl c.loop-place-test.true c.index-sets-place.is)
    (λ same. (let holds = c.has_parameters.ensures.1 same in let fails = c.if-has_parameters.false in cc)) c.loop-place.invariant

pub returns : goal.returns
returns c = λ k set there.
    let within = slice_get_within c.args.sets.now k set there in
    c.loop-place.invariant k set (omega (arith, within, c.loop-place-test.false)) there
