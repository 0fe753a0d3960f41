use Rattle.std.proofs.Common.{◌++◌, ◌+◌, ◌∷◌, [], ◌==◌, ◌&&◌, List, ℕ, true, cond, not, take, map, ap, sym, subst, ◌∙◌}
use Rattle.std.proofs.lemmas.List.{take_rest}
use Rattle.dnsv_names.specs.Name.{same_name}
use Rattle.dnsv_message.specs.declared.record.Record.{Record}
use Rattle.dnsv_canonical.specs.Runs.{Fits, IsRun}
use Rattle.dnsv_canonical.proofs.ByRrsetLemmas.{key_of}
use Rattle.dnsv_canonical.proofs.GroupLemmas.RunLemmas.{nothing_read, one_passed, run_taken, is_kept, kept_then}
use Rattle.dnsv_canonical.proofs.received.together.rrsets_together.Goals as goal

pub loop-place-init : goal.loop-place-init
loop-place-init c = nothing_read c.args.message c.args.section c.new-rrsets.result.items c.new-seen.result c.new-rrsets.ensures.items c.new-seen.ensures.empty

pub loop-place-preserved-then-not-is_grouped : goal.loop-place-preserved-then-not-is_grouped
loop-place-preserved-then-not-is_grouped c =
    one_passed c.args.message c.args.section c.args.records.now c.loop-place.place c.index-records-place.result c.loop-place-test.true c.index-records-place.is
    c.loop-place.rrsets.items c.loop-place.seen c.loop-place.invariant (sym c.is_grouped.ensures ∙ c.if-not-is_grouped.true) (sym c.is_rrsig.ensures ∙ c.if-is_rrsig.false)

pub loop-place-preserved : goal.loop-place-preserved
loop-place-preserved c =
    let x : Record = c.index-records-place.result in
    let records : List Record = c.args.records.now in
    let place : ℕ = c.loop-place.place in
    let rdata : List (List ℕ) = map (λ r. r.now) c.in_ok-run.run'.rdata.items in
    let signatures : List (List ℕ) = map (λ r. r.now) c.in_ok-run.run'.signatures.items in
    run_taken c.args.message c.args.section records place x c.loop-place-test.true c.index-records-place.is
    c.loop-place.rrsets.items c.loop-place.seen c.loop-place.invariant c.in_ok-run.run'.count rdata signatures
    (subst (λ behind. IsRun x (x ∷ take c.in_ok-run.run'.count behind) rdata signatures) (take_rest records (place + 1)) c.in_ok-run.ensures.run)
    (subst Fits c.first.view_is c.is_16_bits.ensures)
    (sym c.is_grouped.ensures ∙ c.if-not-is_grouped.false)
    (ap (λ (r : Record). not (is_kept c.loop-place.seen r)) (sym c.first.view_is) ∙ sym c.in_ok-insert.ensures.added ∙ c.if-not-branch.false)
    c.push.new.self.items
    (
    c.in_ok-push.ensures.items
    ∙ (λ j. c.loop-place.rrsets.items ++ record { message = c.args.message; section = c.args.section; owner = (c.in_ok-owner.ensures ∙ ap (λ (r : Record). r.name) c.first.view_is) j; rtype = (c.first.view_is j).rtype.0; rdata = rdata; signatures = c.in_ok-each_once.ensures j } ∷ [])
    ) c.insert.new.self
    (λ q. kept_then c.loop-place.seen c.insert.new.self (key_of c.first.inside.rtype.0 c.first.inside.name) q c.in_ok-insert.ensures.updates
    ∙ ap (λ (r : Record). cond ((r.rtype.0 == q.rtype.0) && same_name r.name q.name) true (is_kept c.loop-place.seen q)) c.first.view_is)
