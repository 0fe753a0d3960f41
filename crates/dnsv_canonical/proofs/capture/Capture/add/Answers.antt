use Rattle.std.proofs.Common.{◌+◌, ℕ, List, ◌++◌, sym, ap, subst, ◌∙◌, arith}
use Rattle.std.proofs.lemmas.Result.{err_from_is_err_and}
use Rattle.std.specs.List.{AllByRecursion}
use Rattle.dnsv_message.specs.Message.{Contents, records_of}
use Rattle.dnsv_canonical.specs.declared.capture.CaptureError.{CaptureError}
use Rattle.dnsv_canonical.specs.declared.capture.CaptureError.TheVariants.{OutOfMemory, Limit}
use Rattle.dnsv_canonical.specs.Evidence.{AreParameters, AtMost, Evidence, AreParametersAmong, IsReadable, IsReasonAgainst, IsSmall, IsWhole, IsWithinLimits, nsec3_rdata, with_message}
use Rattle.dnsv_canonical.specs.Index.Grouping.{IsIndexOf}
use Rattle.dnsv_canonical.specs.Kept.{IsHeld, IsParametersRefusal}
use Rattle.dnsv_canonical.specs.Rdata.{IsWellFormed}
use Rattle.dnsv_canonical.specs.Rrsets.{ReceivedRrset}
use Rattle.dnsv_canonical.proofs.EvidenceLemmas.{drafts_are, large_refused, many_refused, grown, grown_is, pairs_so_far, not_small}
use Rattle.dnsv_canonical.proofs.ParameterLemmas.{few_pairs}
use Rattle.dnsv_canonical.proofs.ReadableLemmas.WellFormedLemmas.{message_well_formed}
use Rattle.dnsv_canonical.proofs.capture.Capture.add.Goals as goal

-- why the pairs aren't all, as a refusal of the message
pairs_refusal : (held : Evidence) (message : Contents) (received : List (List ℕ)) (error : CaptureError) → IsWhole message → AllByRecursion IsReadable (records_of message)
    → (¬ AtMost 8 (AreParametersAmong received) → ¬ IsWithinLimits (with_message held message)) → IsParametersRefusal received error → IsReasonAgainst held message error
pairs_refusal held message received OutOfMemory whole readable above refused = whole
pairs_refusal held message received Limit whole readable above many = (whole, readable, above many)
pairs_refusal held message received error whole readable above refused = absurd refused

pub returns-in_err-check_whole-clause-refused : goal.returns-in_err-check_whole-clause-refused
returns-in_err-check_whole-clause-refused c =
    let p = err_from_is_err_and c.from_residual.result c.from_residual.ensures.1 in
    rw (p.1, p.2) (c.in_err-check_whole.ensures.refused c.args.self.now)

pub returns-in_err-check_rdata-clause-refused : goal.returns-in_err-check_rdata-clause-refused
returns-in_err-check_rdata-clause-refused c =
    let p = err_from_is_err_and c.from_residual-in_err-check_rdata.result c.from_residual-in_err-check_rdata.ensures.1 in
    rw (p.1, p.2) (c.in_err-check_rdata.ensures.refused c.args.self.now c.in_ok-check_whole.ensures.ok)

pub returns-then-not-branch-clause-refused : goal.returns-then-not-branch-clause-refused
returns-then-not-branch-clause-refused c = (
  c.in_ok-check_whole.ensures.ok,
  c.in_ok-check_rdata.ensures.ok,
  subst (λ held. IsWithinLimits (with_message held c.args.message.now) → ⊥) c.self.view_is
      (large_refused (record { messages = c.self.inside.messages; records = c.self.inside.records; rrsets = c.self.inside.rrsets.items }) c.args.message.now
      c.as_slice.result.now (c.as_slice.ensures.value ∙ (drafts_are _ c.args.message.now _ _ _ _ c.in_ok-sections.ensures.answer c.in_ok-sections.ensures.authority c.in_ok-sections.ensures.additional c.in_ok-received.ensures)) (not_small c.as_slice.result.now c.in_ok-are_small.field-0 c.in_ok-are_small.ensures c.if-not-branch.true)),
)

pub returns-in_err-parameters-clause-refused : goal.returns-in_err-parameters-clause-refused
returns-in_err-parameters-clause-refused c =
    let p = err_from_is_err_and c.from_residual-in_err-parameters.result c.from_residual-in_err-parameters.ensures.1 in
    rw (p.1, p.2) (pairs_refusal c.args.self.now c.args.message.now (nsec3_rdata c.self.inside.rrsets.items ++ nsec3_rdata c.as_slice-3.result.now) _
    c.in_ok-check_whole.ensures.ok c.in_ok-check_rdata.ensures.ok
    (λ many. subst (λ held. IsWithinLimits (with_message held c.args.message.now) → ⊥) c.self.view_is
    (many_refused (record { messages = c.self.inside.messages; records = c.self.inside.records; rrsets = c.self.inside.rrsets.items }) c.args.message.now
    c.as_slice-3.result.now (c.as_slice-3.ensures.value ∙ c.in_ok-rrsets.ensures ∙ (drafts_are _ c.args.message.now _ _ _ _ c.in_ok-sections.ensures.answer c.in_ok-sections.ensures.authority c.in_ok-sections.ensures.additional c.in_ok-received.ensures)) many))
    (c.in_err-parameters.ensures.refused (nsec3_rdata c.self.inside.rrsets.items) (subst (AreParameters (nsec3_rdata c.self.inside.rrsets.items)) (sym c.as_slice-2.ensures.value) c.self.invariant.parameters)))

pub to_rrsets-requires : goal.to_rrsets-requires
to_rrsets-requires c =
    subst (AllByRecursion IsWellFormed) (sym (drafts_are _ c.args.message.now _ _ _ _ c.in_ok-sections.ensures.answer c.in_ok-sections.ensures.authority c.in_ok-sections.ensures.additional c.in_ok-received.ensures))
    (message_well_formed (c.self.inside.messages + 1) c.args.message.now (c.messages_fit.ensures c.args.message.now c.is_of_octets.ensures) c.in_ok-check_rdata.ensures.ok)

pub with-requires : goal.with-requires
with-requires c = subst (λ (rrsets : List ReceivedRrset). IsIndexOf rrsets c.self.inside.index.numbers.items c.self.inside.index.starts.items) (sym c.as_slice-4.ensures.value) c.self.invariant.index

pub invariant_of-self-in_err-append : goal.invariant_of-self-in_err-append
invariant_of-self-in_err-append c = rw (c.in_err-append.ensures.items, c.in_ok-reserve.ensures.items) c.self.invariant

-- what is kept with the message
after : (c : goal.After-drop-sections-4) → IsHeld (record { messages = c.self.inside.messages + 1; records = c.in-Some.records; rrsets = c.self.inside.rrsets.items ++ c.in_ok-received.received.items })
    (c.self.inside.parameters.items ++ c.in_ok-parameters.parameters.items) c.in_ok-index.index.numbers.items c.in_ok-index.index.starts.items
after c =
    grown c.self.inside.messages c.self.inside.records c.in-Some.records c.self.inside.rrsets.items c.args.message.now c.self.inside.parameters.items c.in_ok-parameters.parameters.items c.in_ok-received.received.items
    c.self.inside.index.numbers.items c.self.inside.index.starts.items c.in_ok-index.index.numbers.items c.in_ok-index.index.starts.items
    c.self.invariant (omega arith) c.in-Some.ensures.1
    (subst (AllByRecursion IsWellFormed) (sym (drafts_are _ c.args.message.now _ _ _ _ c.in_ok-sections.ensures.answer c.in_ok-sections.ensures.authority c.in_ok-sections.ensures.additional c.in_ok-received.ensures))
    (message_well_formed (c.self.inside.messages + 1) c.args.message.now (c.messages_fit.ensures c.args.message.now c.is_of_octets.ensures) c.in_ok-check_rdata.ensures.ok))
    (subst (AllByRecursion IsSmall) c.as_slice.ensures.value (c.in_ok-are_small.ensures.0 c.if-not-branch.false))
    (subst (λ (drafts : List ReceivedRrset). AreParameters (nsec3_rdata c.self.inside.rrsets.items ++ nsec3_rdata drafts) (c.self.inside.parameters.items ++ c.in_ok-parameters.parameters.items)) (c.as_slice-3.ensures.value ∙ c.in_ok-rrsets.ensures)
    (pairs_so_far c.self.inside.rrsets.items c.as_slice-3.result.now c.self.inside.parameters.items c.as_slice-2.result.now c.in_ok-parameters.parameters.items c.self.invariant.parameters c.as_slice-2.ensures.value c.in_ok-parameters.ensures.all))
    (rw (← c.as_slice-2.ensures.value) (c.in_ok-parameters.ensures.few (rw c.as_slice-2.ensures.value
    ((few_pairs 8 (nsec3_rdata c.self.inside.rrsets.items) c.self.inside.parameters.items c.self.invariant.parameters).1 c.self.invariant.limits.parameters))))
    (subst (λ (rrsets : List ReceivedRrset). IsIndexOf rrsets c.in_ok-index.index.numbers.items c.in_ok-index.index.starts.items)
    (λ i. c.as_slice-4.ensures.value i ++ (c.as_slice-5.ensures.value ∙ c.in_ok-rrsets.ensures) i) c.in_ok-index.ensures)

pub invariant_of-self-2 : goal.invariant_of-self-2
invariant_of-self-2 c =
    rw (
      c.in_ok-append.ensures.items ∙ ap (λ rrsets. c.self.inside.rrsets.items ++ rrsets) c.in_ok-rrsets.ensures,
      c.in-Ok.ensures.items ∙ ap (λ pairs. pairs ++ c.in_ok-parameters.parameters.items) c.in_ok-reserve.ensures.items,
    ) (after c)

pub returns-clause-limits : goal.returns-clause-limits
returns-clause-limits c =
    subst (λ held. IsWithinLimits (with_message held c.args.message.now)) c.self.view_is
    (subst IsWithinLimits
    (grown_is c.self.inside.messages c.self.inside.records c.in-Some.records c.self.inside.rrsets.items c.args.message.now c.in_ok-received.received.items c.in-Some.ensures.0 (drafts_are _ c.args.message.now _ _ _ _ c.in_ok-sections.ensures.answer c.in_ok-sections.ensures.authority c.in_ok-sections.ensures.additional c.in_ok-received.ensures))
    (after c).limits)
