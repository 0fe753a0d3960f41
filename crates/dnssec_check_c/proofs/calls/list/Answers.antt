use Rattle.std.proofs.Common.{inr}
use Rattle.std.specs.Prelude.{None}
use Rattle.dnsv_commands.specs.declared.request.Request.TheVariants as request
use Rattle.dnssec_check_c.specs.Asked.{AsksToList, listed_files}
use Rattle.dnssec_check_c.specs.Octets.{files_of}
use Rattle.dnssec_check_c.proofs.EndLemmas.{request_ends}
use Rattle.dnssec_check_c.proofs.calls.list.Goals as goal

pub returns : goal.returns
returns c =
    inr (request_ends (AsksToList c.args.options.now c.args.listed)
    (request.List c.new.result c.in-Some.manner.moment None c.in-Some-listing_of.listing c.in-Some.manner.format)
    (listed_files c.args.options.now c.args.capture.now c.args.verified.now) (files_of c.listed-octets.result) c.run_over.ensures.ends
    c.run_over.ensures.question c.listed-octets.ensures (c.in-Some-listing_of.ensures, c.in-Some.ensures.0, c.in-Some.ensures.1))
