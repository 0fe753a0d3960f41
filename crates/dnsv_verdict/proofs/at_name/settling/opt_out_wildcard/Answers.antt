-- the first of the type asked and of aliases
use Rattle.dnsv_chain.specs.Trust.{SecuredIn}
use Rattle.dnsv_verdict.proofs.SearchLemmas.OptOutLemmas.{of_both}
use Rattle.dnsv_verdict.proofs.at_name.settling.opt_out_wildcard.Goals as goal

pub returns : goal.returns
returns c =
    of_both (SecuredIn c.args.view.now.trust) c.args.view.now.rrsets c.args.view.now.name c.args.rtype.0 c.opt_out_wildcard_set-of_type.result c.opt_out_wildcard_set-alias.result
    c.earlier.result c.opt_out_wildcard_set-of_type.ensures c.opt_out_wildcard_set-alias.ensures c.earlier.ensures
