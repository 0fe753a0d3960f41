-- What fails, and the keys that it is a matter of, are told in one way.
use Rattle.std.proofs.Common.{◌≡◌, ◌∙◌, ℕ, List, ◌++◌, sym, subst}
use Rattle.dnsv_names.specs.Name.{Labels}
use Rattle.dnsv_reasons.proofs.lemmas.OneFailures.{one_failures}
use Rattle.dnsv_derivations.specs.Explained.{Setting}
use Rattle.dnsv_explain.specs.Explanation.{IsFailureTold, asking_in}
use Rattle.dnsv_keys_in_question.specs.KeyLines.{AreLinesOfKeysAsked}
use Rattle.dnsv_lines.specs.declared.line.Line.{Line}
use Rattle.dnsv_explain_laws.proofs.lemmas.one.OneKeyLemmas.{one_keys_asked}
use Rattle.dnsv_derivations.proofs.lemmas.one.StepLemmas.{IsOne}

pub one_failure_told : (setting : Setting) (name : Labels) (t : ℕ) → IsOne (IsFailureTold setting name t)
one_failure_told setting name t before a b x y =
    let faults : x.faults ≡ y.faults = one_failures (asking_in setting name t) x.faults y.faults x.of_faults y.of_faults in
    let Of : List Line → Type 0 = λ each. AreLinesOfKeysAsked setting each x.keys in
    let keys : x.keys ≡ y.keys = one_keys_asked setting y.faults x.keys y.keys (subst Of faults x.of_keys) y.of_keys in
    x.are ∙ (λ i. faults i ++ keys i) ∙ sym y.are
