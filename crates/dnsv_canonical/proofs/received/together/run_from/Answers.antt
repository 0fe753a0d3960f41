use Rattle.std.proofs.Common.{ap, ◌∙◌, ◌++◌, ◌∷◌, [], Bor, List, ℕ, map, arith, subst}
use Rattle.dnsv_message.specs.declared.record.Record.{Record}
use Rattle.dnsv_canonical.specs.Runs.{SignsJust}
use Rattle.dnsv_canonical.proofs.GroupLemmas.RunLemmas.{run_starts, run_belongs, run_signs}
use Rattle.dnsv_canonical.proofs.received.together.run_from.Goals as goal
use Rattle.dnsv_canonical.proofs.received.together.run_from.Goals.{then-belongs+in_ok-push-2, else-belongs+then-covers+in_ok-push_one}

pub loop-count-init : goal.loop-count-init
loop-count-init c = (
  run_starts c.args.first.now c.requires.grouped c.push.new.self.items c.new-signatures.result.items
      (
      ap (map (λ r. r.now)) c.in_ok-push.ensures.items ∙ ap (λ (xs : List (Bor (List ℕ))). map (λ r. r.now) (xs ++ c.rdata.result ∷ [])) c.in_ok-rdata.ensures.items
      ∙ ap (λ o. o ∷ []) c.rdata.ensures
      ) c.new-signatures.ensures.items,
  omega arith,
)

pub loop-count-preserved : goal.loop-count-preserved
loop-count-preserved c = (
  elim c.if-belongs.branch [
    | then-belongs+in_ok-push-2 w ↦
        run_belongs c.args.first.now c.args.behind.now c.loop-count.count c.index-behind-count.result c.loop-count-test.true c.index-behind-count.is
        c.loop-count.rdata.items c.loop-count.signatures.items c.if-belongs.rdata.items c.loop-count.invariant.0 w.rdata-then-belongs.result w.rdata-then-belongs.ensures
        (c.belongs.ensures.grouped w.if-belongs.true) (c.belongs.ensures.same w.if-belongs.true)
        (ap (λ v. v.items) w.rdata-is ∙ w.in_ok-push-2.ensures.items) c.if-belongs.signatures.items (ap (λ v. v.items) w.signatures-is)
    | else-belongs+then-covers+in_ok-push_one w ↦
        run_signs c.args.first.now c.args.behind.now c.loop-count.count c.index-behind-count.result c.loop-count-test.true c.index-behind-count.is
        c.loop-count.rdata.items c.loop-count.signatures.items c.if-belongs.signatures.items c.loop-count.invariant.0 w.rdata-then-covers.result w.rdata-then-covers.ensures
        c.requires.fits (subst (λ (r : Record). SignsJust r.name r.rtype.0 c.index-behind-count.result) c.first.view_is (w.covers.ensures w.if-covers.true))
        (ap (λ v. v.items) w.signatures-is ∙ w.in_ok-push_one.ensures) c.if-belongs.rdata.items (ap (λ v. v.items) w.rdata-is)
  ],
  omega (arith, c.loop-count-test.true),
)
