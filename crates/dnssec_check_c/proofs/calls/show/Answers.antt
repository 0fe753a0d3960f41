use Rattle.std.proofs.Common.{inr}
use Rattle.dnsv_commands.specs.declared.request.Request.TheVariants as request
use Rattle.dnssec_check_c.specs.Asked.{AsksToShow, shown_files}
use Rattle.dnssec_check_c.specs.Octets.{files_of}
use Rattle.dnssec_check_c.proofs.EndLemmas.{request_ends}
use Rattle.dnssec_check_c.proofs.calls.show.Goals as goal

pub returns : goal.returns
returns c =
    let asks : AsksToShow (request.Show c.new.result) = tt in
    inr (request_ends AsksToShow (request.Show c.new.result) (shown_files c.args.capture.now) (files_of c.shown.result) c.run_over.ensures.ends
    c.run_over.ensures.question c.shown.ensures asks)
