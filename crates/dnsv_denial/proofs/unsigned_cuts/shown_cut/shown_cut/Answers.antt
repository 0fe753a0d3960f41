use Rattle.dnsv_chain.specs.Trust.{SecuredIn}
use Rattle.dnsv_denial.specs.unsigned_cuts.Findings.{AreFindings}
use Rattle.dnsv_denial.proofs.lemmas.unsigned_cuts.FindingLemmas.{no_cut}
use Rattle.dnsv_denial.proofs.lemmas.unsigned_cuts.ShownCutLemmas.{delegation_can, out_can, shown_no_ds, shown_unusable, shown_left_out}
use Rattle.dnsv_denial.proofs.unsigned_cuts.shown_cut.shown_cut.Goals as goal

pub returns-in_default-first_proof : goal.returns-in_default-first_proof
returns-in_default-first_proof c =
    let trust = c.args.trust.now in
    let rrsets = c.args.capture.now.rrsets in
    let cuts = c.zones_cuts-found.ensures trust rrsets c.requires.are_zones (c.requires.are_sets trust) in
    let found : AreFindings (SecuredIn trust) rrsets c.args.name.now c.zones_cuts-found.result.no_ds c.highest_unusable_ds-no_usable_ds.result c.zones_cuts-found.result.opt_out =
    record { unsigned_delegation = cuts.fewest; unusable_ds = c.highest_unusable_ds-no_usable_ds.ensures; left_out = cuts.most } in
    absurd (c.in_default-first_proof.ensures trust rrsets (c.requires.are_sets trust) c.requires.are_zones (delegation_can (SecuredIn trust) rrsets c.args.name.now c.zones_cuts-found.result.no_ds c.highest_unusable_ds-no_usable_ds.result c.zones_cuts-found.result.opt_out found c.in-Some.labels c.in-Some.is))

pub returns-in-Some : goal.returns-in-Some
returns-in-Some c =
    let trust = c.args.trust.now in
    let rrsets = c.args.capture.now.rrsets in
    let cuts = c.zones_cuts-found.ensures trust rrsets c.requires.are_zones (c.requires.are_sets trust) in
    let found : AreFindings (SecuredIn trust) rrsets c.args.name.now c.zones_cuts-found.result.no_ds c.highest_unusable_ds-no_usable_ds.result c.zones_cuts-found.result.opt_out =
    record { unsigned_delegation = cuts.fewest; unusable_ds = c.highest_unusable_ds-no_usable_ds.ensures; left_out = cuts.most } in
    shown_no_ds (SecuredIn trust) rrsets c.args.name.now c.zones_cuts-found.result.no_ds c.highest_unusable_ds-no_usable_ds.result c.zones_cuts-found.result.opt_out found c.in-Some.labels c.in-Some-first_proof.shown c.in-Some.is
    (c.in-Some-first_proof.ensures trust rrsets (c.requires.are_sets trust) c.requires.are_zones)

pub returns-in-Some-no_usable_ds : goal.returns-in-Some-no_usable_ds
returns-in-Some-no_usable_ds c =
    let trust = c.args.trust.now in
    let rrsets = c.args.capture.now.rrsets in
    let cuts = c.zones_cuts-found.ensures trust rrsets c.requires.are_zones (c.requires.are_sets trust) in
    let found : AreFindings (SecuredIn trust) rrsets c.args.name.now c.zones_cuts-found.result.no_ds c.highest_unusable_ds-no_usable_ds.result c.zones_cuts-found.result.opt_out =
    record { unsigned_delegation = cuts.fewest; unusable_ds = c.highest_unusable_ds-no_usable_ds.ensures; left_out = cuts.most } in
    shown_unusable (SecuredIn trust) rrsets c.args.name.now c.zones_cuts-found.result.no_ds c.highest_unusable_ds-no_usable_ds.result c.zones_cuts-found.result.opt_out found c.in-Some-no_usable_ds.labels c.in_default.is c.in-Some-no_usable_ds.is

pub returns-in_default-opt_out : goal.returns-in_default-opt_out
returns-in_default-opt_out c =
    let trust = c.args.trust.now in
    let rrsets = c.args.capture.now.rrsets in
    let cuts = c.zones_cuts-found.ensures trust rrsets c.requires.are_zones (c.requires.are_sets trust) in
    let found : AreFindings (SecuredIn trust) rrsets c.args.name.now c.zones_cuts-found.result.no_ds c.highest_unusable_ds-no_usable_ds.result c.zones_cuts-found.result.opt_out =
    record { unsigned_delegation = cuts.fewest; unusable_ds = c.highest_unusable_ds-no_usable_ds.ensures; left_out = cuts.most } in
    no_cut (SecuredIn trust) rrsets c.args.name.now c.zones_cuts-found.result.no_ds c.highest_unusable_ds-no_usable_ds.result c.zones_cuts-found.result.opt_out found c.in_default.is c.in_default-no_usable_ds.is c.in_default-opt_out.is

pub returns-in_default-first_proof-2 : goal.returns-in_default-first_proof-2
returns-in_default-first_proof-2 c =
    let trust = c.args.trust.now in
    let rrsets = c.args.capture.now.rrsets in
    let cuts = c.zones_cuts-found.ensures trust rrsets c.requires.are_zones (c.requires.are_sets trust) in
    let found : AreFindings (SecuredIn trust) rrsets c.args.name.now c.zones_cuts-found.result.no_ds c.highest_unusable_ds-no_usable_ds.result c.zones_cuts-found.result.opt_out =
    record { unsigned_delegation = cuts.fewest; unusable_ds = c.highest_unusable_ds-no_usable_ds.ensures; left_out = cuts.most } in
    absurd (c.in_default-first_proof-2.ensures trust rrsets (c.requires.are_sets trust) c.requires.are_zones (out_can (SecuredIn trust) rrsets c.args.name.now c.zones_cuts-found.result.no_ds c.highest_unusable_ds-no_usable_ds.result c.zones_cuts-found.result.opt_out found c.in-Some-opt_out.labels c.in-Some-opt_out.is))

pub returns : goal.returns
returns c =
    let trust = c.args.trust.now in
    let rrsets = c.args.capture.now.rrsets in
    let cuts = c.zones_cuts-found.ensures trust rrsets c.requires.are_zones (c.requires.are_sets trust) in
    let found : AreFindings (SecuredIn trust) rrsets c.args.name.now c.zones_cuts-found.result.no_ds c.highest_unusable_ds-no_usable_ds.result c.zones_cuts-found.result.opt_out =
    record { unsigned_delegation = cuts.fewest; unusable_ds = c.highest_unusable_ds-no_usable_ds.ensures; left_out = cuts.most } in
    shown_left_out (SecuredIn trust) rrsets c.args.name.now c.zones_cuts-found.result.no_ds c.highest_unusable_ds-no_usable_ds.result c.zones_cuts-found.result.opt_out found c.in-Some-opt_out.labels c.in-Some-first_proof-2.shown c.in_default.is c.in_default-no_usable_ds.is c.in-Some-opt_out.is
    (c.in-Some-first_proof-2.ensures trust rrsets (c.requires.are_sets trust) c.requires.are_zones)
