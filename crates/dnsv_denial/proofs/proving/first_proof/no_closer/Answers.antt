use Rattle.dnsv_names.specs.Tree.AncestorLaws.{rightmost_above}
use Rattle.dnsv_names.specs.Name.{rightmost}
use Rattle.dnsv_names.specs.Tree.TreeLaws.{at_or_below_trans}
use Rattle.dnsv_chain.specs.Trust.{SecuredIn}
use Rattle.dnsv_denial.specs.proving.FirstProof.{CanProveNoCloser}
use Rattle.dnsv_denial.specs.proving.ShownDenials.{IsShownNoCloser}
use Rattle.dnsv_proof_forms.specs.declared.forms.denial.Denial.TheVariants.{NoCloser}
use Rattle.dnsv_denial.proofs.lemmas.proving.RespelledZoneLemmas.{first_closer, none_closer}
use Rattle.dnsv_denial.proofs.lemmas.proving.FirstProofLemmas.{kept_at, led_at}
use Rattle.dnsv_denial.proofs.proving.first_proof.no_closer.Goals as goal

pub returns-then-not-is_at_or_below : goal.returns-then-not-is_at_or_below
returns-then-not-is_at_or_below c = λ trust rrsets sets zones proved.
    let under = at_or_below_trans c.args.name.now (rightmost c.args.name.now c.args.labels) c.args.zone.now (rightmost_above c.args.name.now c.args.labels) proved.1.above.within in
    let is = c.is_at_or_below.ensures.at_or_below.1 under in
    let isnt = c.if-not-is_at_or_below.true in
    cc

pub returns : goal.returns
returns c = λ trust rrsets sets zones.
    let under = c.is_at_or_below.ensures.at_or_below.0 c.if-not-is_at_or_below.false in
    let kept = c.index-zones-labels.result in
    let at = kept_at (SecuredIn trust) rrsets c.args.name.now c.args.zone.now c.args.zones.now c.labels.result kept zones c.requires.zones under c.labels.ensures.count c.index-zones-labels.is in
    led_at (SecuredIn trust) rrsets (NoCloser c.args.labels) c.args.name.now c.args.zone.now kept c.zone_proof.result
    (¬ CanProveNoCloser (SecuredIn trust) rrsets c.args.name.now c.args.labels c.args.zone.now)
    (IsShownNoCloser (SecuredIn trust) rrsets c.args.name.now c.args.labels c.args.zone.now)
    (none_closer (SecuredIn trust) rrsets c.args.name.now c.args.labels kept.zone c.args.zone.now)
    (first_closer (SecuredIn trust) rrsets c.args.name.now c.args.labels kept.zone c.args.zone.now)
    at (c.zone_proof.ensures trust rrsets at.is sets)
