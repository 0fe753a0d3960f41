use Rattle.std.proofs.Common.{sym, ◌∙◌}
use Rattle.std.proofs.lemmas.Bool.{false≢true}
use Rattle.dnsv_derivations.specs.Explained.{setting_in}
use Rattle.dnsv_derivations.proofs.lemmas.derivations.WayLemmas.SearchLemmas.{lowest_found, none_at_all, none_at_first, none_to_next}
use Rattle.dnsv_derivations.proofs.derivations.ways.keys.lowest_good.Goals as goal

pub loop-place-init : goal.loop-place-init
loop-place-init c =
    none_at_first (setting_in c.args.evidence.now) c.args.number c.args.rrset.now c.args.key.now c.signatures-rrsig-items.result.now
    c.signatures-rrsig-items.ensures c.requires

pub loop-place-preserved : goal.loop-place-preserved
loop-place-preserved c =
    none_to_next (setting_in c.args.evidence.now) c.args.number c.args.rrset.now c.args.key.now c.signatures-rrsig-items.result.now
    c.signatures-rrsig-items.ensures c.requires c.loop-place.place c.rrsig-item.result c.loop-place-test.true c.rrsig-item.is
    (λ good. false≢true (sym c.if-branch.false ∙ c.in_ok-is_good.ensures.1 good)) c.loop-place.invariant

pub returns-then-branch : goal.returns-then-branch
returns-then-branch c =
    let good = c.in_ok-is_good.ensures.0 c.if-branch.true in
    lowest_found (setting_in c.args.evidence.now) c.args.number c.args.rrset.now c.args.key.now c.signatures-rrsig-items.result.now
    c.signatures-rrsig-items.ensures c.requires c.loop-place.place c.rrsig-item.result c.in_ok-todo.todo c.loop-place-test.true c.rrsig-item.is
    good (c.in_ok-todo.ensures good) c.loop-place.invariant

pub returns : goal.returns
returns c =
    none_at_all (setting_in c.args.evidence.now) c.args.number c.args.rrset.now c.args.key.now c.signatures-rrsig-items.result.now
    c.signatures-rrsig-items.ensures c.requires c.loop-place.place c.loop-place-test.false c.loop-place.invariant
