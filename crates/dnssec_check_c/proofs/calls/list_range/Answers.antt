use Rattle.std.proofs.Common.{inr}
use Rattle.std.specs.Prelude.{None}
use Rattle.dnsv_commands.specs.declared.request.Request.TheVariants as request
use Rattle.dnssec_check_c.specs.Asked.{AsksToListRange, listed_files}
use Rattle.dnssec_check_c.specs.Octets.{files_of}
use Rattle.dnssec_check_c.proofs.EndLemmas.{request_ends}
use Rattle.dnssec_check_c.proofs.calls.list_range.Goals as goal

pub returns : goal.returns
returns c =
    inr (request_ends (AsksToListRange c.args.options.now c.args.from c.args.to c.args.listed)
    (request.ListRange c.new.result c.in-Some.span.from c.in-Some.span.to None c.in-Some-form_of.form c.in-Some.span.format)
    (listed_files c.args.options.now c.args.capture.now c.args.verified.now) (files_of c.listed-octets.result) c.run_over.ensures.ends
    c.run_over.ensures.question c.listed-octets.ensures (c.in-Some-form_of.ensures, c.in-Some.ensures.0, c.in-Some.ensures.1))
