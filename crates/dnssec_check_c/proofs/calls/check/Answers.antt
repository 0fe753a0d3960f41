use Rattle.std.specs.Prelude.{None}
use Rattle.std.proofs.Common.{◌∙◌, refl, inl, inr}
use Rattle.dnssec_check_c.specs.Asked.{AsksOne, IsQuestionNamed, judged_files}
use Rattle.dnssec_check_c.specs.Octets.{files_of}
use Rattle.dnssec_check_c.proofs.AskedLemmas.{one_asked}
use Rattle.dnssec_check_c.proofs.EndLemmas.{request_ends}
use Rattle.dnssec_check_c.proofs.calls.check.Goals as goal

pub returns-in_default-from_str : goal.returns-in_default-from_str
returns-in_default-from_str c =
    let question : IsQuestionNamed c.args.options.now c.args.name.now c.args.rtype =
    (c.in-Ok.ensures.cases.1, c.in-Some-type_of.ensures.0, (c.in-Some-known.known, c.in-Some-known.ensures)) in
    inr (inr (
      (question, (c.in-Some.manner.moment, c.in-Some.manner.format, c.in-Some.ensures)),
      (c.refuse.ensures.told, refl, c.refuse.ensures.status),
    ))

pub returns : goal.returns
returns c =
    let asks = one_asked c.args.options.now c.args.name.now c.args.rtype _ _ c.in-Some.manner.moment c.in-Some.manner.format c.judging-request.result
    c.judging-request.ensures (c.in-Ok-from_str.ensures.ok ∙ c.in-Ok.ensures.cases.0, c.in-Some-type_of.ensures.1) c.in-Ok.ensures.cases.1
    c.in-Some-type_of.ensures.0 c.in-Some-known.ensures c.in-Some.ensures in
    inr (inl (request_ends (AsksOne c.args.options.now c.args.name.now c.args.rtype) c.judging-request.result
    (judged_files c.args.options.now c.args.capture.now c.args.anchors.now c.args.verified.now c.args.keys.now c.args.macs.now None)
    (files_of c.judged-octets.result) c.run_over.ensures.ends c.run_over.ensures.question c.judged-octets.ensures asks))
