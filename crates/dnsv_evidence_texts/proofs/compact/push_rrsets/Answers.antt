use Rattle.std.proofs.Common.{◌∙◌, [], ◌∷◌, sym}
use Rattle.std.proofs.lemmas.List.{get_or_read}
use Rattle.dnsv_evidence_texts.proofs.CompactLemmas.{rrset_named, rrset_unnamed, rrsets_listed}
use Rattle.dnsv_evidence_texts.proofs.PartLemmas.{Listed-all, Listed-next, Listed-none}
use Rattle.dnsv_evidence_texts.proofs.compact.push_rrsets.Goals as goal

pub loop-index-preserved-then-not-names_rrset : goal.loop-index-preserved-then-not-names_rrset
loop-index-preserved-then-not-names_rrset c =
    let x = c.index-rrsets-index.result in
    Listed-none c.loop-index.invariant x x c.loop-index-test.true
    (sym (get_or_read c.args.rrsets.now c.loop-index.index x c.loop-index-test.true c.index-rrsets-index.is x))
    (rrset_unnamed c.args.list.now.todo _ x (sym c.names_rrset.ensures ∙ c.if-not-names_rrset.true))

pub loop-index-preserved : goal.loop-index-preserved
loop-index-preserved c =
    let x = c.index-rrsets-index.result in
    let added = c.in_ok-push_rrset.ensures.text in
    Listed-next c.loop-index.invariant x x (added.0 ∷ []) _ _ c.loop-index-test.true
    (sym (get_or_read c.args.rrsets.now c.loop-index.index x c.loop-index-test.true c.index-rrsets-index.is x))
    (rrset_named c.args.list.now.todo _ x added.0 added.1 (sym c.names_rrset.ensures ∙ c.if-not-names_rrset.false))
    added.2 c.in_ok-push_rrset.ensures.first

pub returns : goal.returns
returns c =
    let all = Listed-all c.loop-index.invariant c.loop-index-test.false in
    (all.0, rrsets_listed c.args.list.now.todo 1 c.args.rrsets.now all.0 all.1, all.2)
