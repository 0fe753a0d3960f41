-- Lines, one after another.
use Rattle.std.proofs.Common.{◌≡◌, ◌++◌, ◌∷◌, List, [], inl, inr, append_assoc, refl, sym, ap, ◌∙◌, subst}
use Rattle.dnsv_gaps.specs.Asking.{Asking}
use Rattle.dnsv_lines.specs.declared.line.Line.{Line}
use Rattle.dnsv_reasons.specs.Lines.{AddsLine, AreSaidLines}
use Rattle.dnsv_remedies.specs.declared.said.Said.{Said}

-- what was added for one, in front of the lines of the others
pub added_next : (a : Asking) (whole before others : List Said) (told : Said) (old new : List Line) → before ≡ told ∷ others
    → AddsLine a told old new → ((rest : List Line) → AreSaidLines a before rest → AreSaidLines a whole (old ++ rest))
    → (rest : List Line) → AreSaidLines a others rest → AreSaidLines a whole (new ++ rest)
added_next a whole before others told old new step (inl adds) so_far rest later =
    let lines : old ++ adds.0 ∷ rest ≡ new ++ rest =
    sym (append_assoc old (adds.0 ∷ []) rest) ∙ ap (λ (front : List Line). front ++ rest) (sym adds.2) in
    let Said' : List Said → Type 0 = λ each. AreSaidLines a each (adds.0 ∷ rest) in
    subst (λ (each : List Line). AreSaidLines a whole each) lines
    (so_far (adds.0 ∷ rest) (subst Said' (sym step) (inl (adds.0, rest, adds.1, later, refl))))
added_next a whole before others told old new step (inr adds) so_far rest later =
    let Said' : List Said → Type 0 = λ each. AreSaidLines a each rest in
    subst (λ (each : List Line). AreSaidLines a whole (each ++ rest)) (sym adds.1) (so_far rest (subst Said' (sym step) (inr (adds.0, later))))
