use Rattle.std.proofs.Common.{◌∙◌, refl, inl, inr}
use Rattle.dnsv_commands.specs.declared.request.Request.TheVariants as request
use Rattle.dnssec_check_c.specs.Asked.{AsksOverTime, IsQuestionNamed, timeline_files}
use Rattle.dnssec_check_c.specs.Octets.{files_of}
use Rattle.dnssec_check_c.proofs.EndLemmas.{request_ends}
use Rattle.dnssec_check_c.proofs.calls.timeline.Goals as goal

pub returns-in_default-from_str : goal.returns-in_default-from_str
returns-in_default-from_str c =
    let question : IsQuestionNamed c.args.options.now c.args.name.now c.args.rtype =
    (c.in-Ok.ensures.cases.1, c.in-Some-type_of.ensures.0, (c.in-Some-known.known, c.in-Some-known.ensures)) in
    inr (inr (
      (
        question,
        (c.in-Some-kinds_of.kinds, c.in-Some-kinds_of.ensures),
        c.in-Some.ensures.0,
        (c.in-Some.span.from, c.in-Some.span.to, c.in-Some.span.format, c.in-Some.ensures.1),
      ),
      (c.refuse.ensures.told, refl, c.refuse.ensures.status),
    ))

pub returns : goal.returns
returns c =
    inr (inl (request_ends (AsksOverTime c.args.options.now c.args.from c.args.to c.args.name.now c.args.rtype c.args.detail)
    (request.Timeline c.new.result c.new-2.result c.in-Some.span.from c.in-Some.span.to c.in-Ok-from_str.name c.in-Some-type_of.rtype c.in-Some-known.known c.in-Some-kinds_of.kinds c.in-Some.span.format)
    (timeline_files c.args.options.now c.args.capture.now c.args.anchors.now c.args.verified.now) (files_of c.over_time-octets.result)
    c.run_over.ensures.ends c.run_over.ensures.question c.over_time-octets.ensures (
      c.in-Ok.ensures.cases.1,
      c.in-Ok-from_str.ensures.ok ∙ c.in-Ok.ensures.cases.0,
      c.in-Some-type_of.ensures.0,
      c.in-Some-type_of.ensures.1,
      c.in-Some-known.ensures,
      c.in-Some-kinds_of.ensures,
      c.in-Some.ensures.0,
      c.in-Some.ensures.1,
    )))
