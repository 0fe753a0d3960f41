use Rattle.std.proofs.Common.{rules, ◌≡◌, ◌↔◌, length, IsTrue, sym, ap, ◌∙◌}
use Rattle.dnsv_verifier.proofs.SignedDataLemmas.{none_behind, none_in_front, none_there}
use Rattle.dnsv_verifier.proofs.signed_data.SignedData.is_empty.Goals as goal

pub returns : goal.returns
returns c =
    let own = c.self.inside in
    let test : IsTrue c.is_empty.result ↔ (length own.front.now ≡ 0) = search rules in (
      λ empty. sym c.self.view_is ∙ none_behind own.front.now own.records.now c.self.invariant (none_there own.front.now (test.0 empty)),
      λ none. test.1 (ap length (none_in_front own.front.now own.records.now (c.self.view_is ∙ none))),
    )
