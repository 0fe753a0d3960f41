use Rattle.std.proofs.Common.{◌≡◌, [], ◌∷◌, ◌++◌, length, ap, ◌∙◌, arith}
use Rattle.std.proofs.lemmas.Result.{err_from_is_err_and}
use Rattle.dnsv_names.proofs.WireLemmas.{LabelsSoFar-next, long_name, fault_in_label, not_absolute, name_from, room_for_root, none_left, some_left}
use Rattle.dnsv_names.proofs.text.parse.wire_of_labels.Goals as goal

pub returns-in_err-label-clause-fault : goal.returns-in_err-label-clause-fault
returns-in_err-label-clause-fault c =
    let p = err_from_is_err_and c.from_residual.result c.from_residual.ensures.1 in
    rw (p.1, p.2) (fault_in_label _ _ _ _ c.loop-rest.invariant c.requires c.in_err-label.ensures.fault)

pub returns-then-len-gt-WIRE_LIMIT-clause-fault : goal.returns-then-len-gt-WIRE_LIMIT-clause-fault
returns-then-len-gt-WIRE_LIMIT-clause-fault c =
    long_name _ _ _ _ _ c.loop-rest.invariant c.requires c.in_ok-label.ensures.label c.in_ok-label.ensures.text (omega arith)

pub loop-rest-preserved : goal.loop-rest-preserved
loop-rest-preserved c =
    let next = LabelsSoFar-next _ _ _ _ _ c.loop-rest.invariant c.in_ok-label.ensures.label c.in_ok-label.ensures.text (omega arith) in
    let pushed : c.push.new.self.items ≡ c.loop-rest.octets.items ++ length c.in_ok-label.label.items ∷ [] =
    c.push.ensures.items ∙ ap (λ n. c.loop-rest.octets.items ++ n ∷ []) c.len-in-loop-rest-2.ensures.value in
    let extended : c.try_extend_from_slice.new.self.items ≡ c.push.new.self.items ++ c.as_slice.result.now = rw c.unwrap.ensures at c.try_extend_from_slice.ensures.ok in
    rw (extended, pushed, c.as_slice.ensures.value) next

pub returns-then-is_empty-clause-fault : goal.returns-then-is_empty-clause-fault
returns-then-is_empty-clause-fault c =
    not_absolute _ _ _ c.loop-rest.invariant c.requires (none_left _ c.loop-rest-test.ensures) (none_left _ c.if-is_empty.ensures)

pub push-requires-2 : goal.push-requires-2
push-requires-2 c = (omega arith, omega (arith, room_for_root c.loop-rest.invariant))

pub returns-clause-name : goal.returns-clause-name
returns-clause-name c = let name = name_from _ _ _ c.loop-rest.invariant (none_left _ c.loop-rest-test.ensures) (some_left _ c.if-is_empty.ensures) in
    rw c.push-2.ensures.items (name.spells, name.text_of)
