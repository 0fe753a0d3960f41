use Rattle.std.proofs.Common.{inr}
use Rattle.std.specs.Prelude.{Some}
use Rattle.dnssec_check_c.specs.Asked.{AsksEach, judged_files}
use Rattle.dnssec_check_c.specs.Octets.{files_of}
use Rattle.dnssec_check_c.proofs.AskedLemmas.{each_asked}
use Rattle.dnssec_check_c.proofs.EndLemmas.{request_ends}
use Rattle.dnssec_check_c.proofs.calls.check_each.Goals as goal

pub returns : goal.returns
returns c =
    let asks = each_asked c.args.options.now _ _ c.in-Some.manner.moment c.in-Some.manner.format c.judging-request.result
    c.judging-request.ensures tt c.in-Some-known.ensures c.in-Some.ensures in
    inr (request_ends (AsksEach c.args.options.now) c.judging-request.result
    (judged_files c.args.options.now c.args.capture.now c.args.anchors.now c.args.verified.now c.args.keys.now c.args.macs.now (Some c.args.questions.now))
    (files_of c.judged-octets.result) c.run_over.ensures.ends c.run_over.ensures.question c.judged-octets.ensures asks)
