use Rattle.dnsv_chain.specs.Trust.{SecuredIn}
use Rattle.dnsv_denial.specs.unsigned_cuts.Cuts.{HasOptedOutNextCloser}
use Rattle.dnsv_denial.specs.unsigned_cuts.ShownCut.{IsShownOptOutCloser}
use Rattle.dnsv_proof_forms.specs.declared.forms.denial.Denial.TheVariants.{OptOutCloser}
use Rattle.dnsv_denial.proofs.lemmas.proving.RespelledZoneLemmas.{first_out, none_out}
use Rattle.dnsv_denial.proofs.lemmas.proving.FirstProofLemmas.{kept_at, led_at}
use Rattle.dnsv_denial.proofs.lemmas.unsigned_cuts.OptOutNextCloserLemmas.{opt_out_within}
use Rattle.dnsv_denial.proofs.unsigned_cuts.shown_cut.shown_loose_closer.Goals as goal

pub returns-then-not-is_at_or_below : goal.returns-then-not-is_at_or_below
returns-then-not-is_at_or_below c = λ trust rrsets sets zones has.
    let holds = c.is_at_or_below.ensures.at_or_below.1 (opt_out_within (SecuredIn trust) rrsets c.args.name.now c.args.labels c.args.zone.now has) in
    let fails = c.if-not-is_at_or_below.true in cc

pub returns : goal.returns
returns c = λ trust rrsets sets zones.
    let under = c.is_at_or_below.ensures.at_or_below.0 c.if-not-is_at_or_below.false in
    let kept = c.index-zones-labels.result in
    let at = kept_at (SecuredIn trust) rrsets c.args.name.now c.args.zone.now c.args.zones.now c.labels.result kept zones c.requires.zones under c.labels.ensures.count c.index-zones-labels.is in
    led_at (SecuredIn trust) rrsets (OptOutCloser c.args.labels) c.args.name.now c.args.zone.now kept c.zone_proof.result
    (¬ HasOptedOutNextCloser (SecuredIn trust) rrsets c.args.name.now c.args.labels c.args.zone.now)
    (IsShownOptOutCloser (SecuredIn trust) rrsets c.args.name.now c.args.labels c.args.zone.now)
    (none_out (SecuredIn trust) rrsets c.args.name.now c.args.labels kept.zone c.args.zone.now)
    (first_out (SecuredIn trust) rrsets c.args.name.now c.args.labels kept.zone c.args.zone.now)
    at (c.zone_proof.ensures trust rrsets at.is sets)
