use Rattle.dnsv_chain.specs.Trust.{SecuredIn}
use Rattle.dnsv_denial.proofs.lemmas.unsigned_cuts.FindingLemmas.{cut_without_ds, cut_unusable, cut_left_out, no_cut}
use Rattle.dnsv_denial.proofs.unsigned_cuts.first_cut.first_cut.Goals as goal

pub returns-in-Some : goal.returns-in-Some
returns-in-Some c = λ trust rrsets found.
    cut_without_ds (SecuredIn trust) rrsets c.args.name.now c.args.no_ds c.args.no_usable_ds c.args.opt_out found
    c.in-Some.labels c.suffix.result c.in-Some.is c.suffix.ensures.labels

pub returns-in-Some-no_usable_ds : goal.returns-in-Some-no_usable_ds
returns-in-Some-no_usable_ds c = λ trust rrsets found.
    cut_unusable (SecuredIn trust) rrsets c.args.name.now c.args.no_ds c.args.no_usable_ds c.args.opt_out found
    c.in-Some-no_usable_ds.labels c.suffix-in-Some-no_usable_ds.result c.in_default.is c.in-Some-no_usable_ds.is
    c.suffix-in-Some-no_usable_ds.ensures.labels

pub returns-in_default-opt_out : goal.returns-in_default-opt_out
returns-in_default-opt_out c = λ trust rrsets found.
    no_cut (SecuredIn trust) rrsets c.args.name.now c.args.no_ds c.args.no_usable_ds c.args.opt_out found
    c.in_default.is c.in_default-no_usable_ds.is c.in_default-opt_out.is

pub returns : goal.returns
returns c = λ trust rrsets found.
    cut_left_out (SecuredIn trust) rrsets c.args.name.now c.args.no_ds c.args.no_usable_ds c.args.opt_out found
    c.in-Some-opt_out.labels c.next_closer.result c.in_default.is c.in_default-no_usable_ds.is c.in-Some-opt_out.is
    c.next_closer.ensures.value
