use Rattle.std.proofs.Common.{◌≡◌, refl, arith}
use Rattle.std.proofs.lemmas.Option.{slice_get-get_or}
use Rattle.dnsv_denial.specs.gathering.Evidence.{HasZoneSignature}
use Rattle.dnsv_proof_forms.proofs.lemmas.words.FirstLemmas.{none_with}
use Rattle.dnsv_denial.proofs.lemmas.gathering.GatherLemmas.{any_of_contains, signature_among, with_number, contained, none_at_all}
use Rattle.dnsv_denial.proofs.gathering.secured.has_zone_signature.Goals as goal

pub returns-then-is_zone_signature : goal.returns-then-is_zone_signature
returns-then-is_zone_signature c =
    (λ yes. signature_among c.args.rrset.now c.args.zone.now (λ s is. contained c.args.secured.now c.loop-number.number-index 0 s is c.loop-number-test.true) (c.is_zone_signature.ensures.0 c.if-is_zone_signature.true), λ has. refl)

pub loop-number-preserved : goal.loop-number-preserved
loop-number-preserved c =
    none_with (λ s. HasZoneSignature (λ t. t ≡ s) c.args.rrset.now c.args.zone.now) c.args.secured.now c.loop-number.number-index _
    (slice_get-get_or c.args.secured.now c.loop-number.number-index 0 c.loop-number-test.true)
    (λ has. let yes = c.is_zone_signature.ensures.1 has in let isnt = c.if-is_zone_signature.false in cc)
    c.loop-number.invariant

pub returns : goal.returns
returns c = (
  λ false_is. cc,
  λ has. absurd (none_at_all (λ s. HasZoneSignature (λ t. t ≡ s) c.args.rrset.now c.args.zone.now) c.args.secured.now c.loop-number.number-index (omega (arith, c.loop-number-test.false, c.loop-number.auto.number-index-end)) c.loop-number.invariant
      (any_of_contains (λ s. HasZoneSignature (λ t. t ≡ s) c.args.rrset.now c.args.zone.now) c.args.secured.now has.signature has.secured (with_number c.args.rrset.now c.args.zone.now has))),
)
