use Rattle.std.proofs.Common.{◌≡◌, ◌++◌, length, map}
use Rattle.std.specs.List.{AllByRecursion}
use Rattle.dnsv_gaps.specs.Asking.{asking}
use Rattle.dnsv_gaps.specs.questions.Goals.{HasItsCloser}
use Rattle.dnsv_gaps.specs.questions.CloserSearch.{IsOneOf}
use Rattle.dnsv_gaps.proofs.question.goals.answer_signatures.Given as goal

-- the signatures so far, and those that are left
abbrev pub invariant-loop-signature : goal.invariant-loop-signature
invariant-loop-signature l =
    (map (λ each. each.signature) l.all.items ++ l.signature-iterator.rest.items ≡ l.fn.known.items)
    × (l.signature-iterator.rest.len ≡ length l.signature-iterator.rest.items)
    × AllByRecursion (HasItsCloser (asking l.question) l.rrset) l.all.items
    × AllByRecursion (IsOneOf l.rrset) l.signature-iterator.rest.items
