-- The forms in their order: each later one where the earlier ones don't stand.
use Rattle.std.proofs.Common.{◌≡◌, ℕ, subst, arith}
use Rattle.std.specs.Ordering.{nat_cmp}
use Rattle.dnsv_names.specs.Name.{rightmost}
use Rattle.dnsv_names.specs.Tree.AncestorLaws.{rightmost_all}
use Rattle.dnsv_zones.specs.forms.Parts.{IsFirstToSay}
use Rattle.dnsv_zones.specs.forms.RecordWords.{words}
use Rattle.dnsv_zones.specs.zones.Types.{Denies}
use Rattle.dnsv_proof_forms.specs.forms.ProofForms.ShowsNoData.{at_name, empty, at_wildcard, empty_wildcard}
use Rattle.dnsv_proof_forms.specs.words.ChainSaid.{chain_said}
use Rattle.dnsv_proof_forms.proofs.lemmas.forms.NoDataLemmas.{none_outside, none_at_name, none_empty, none_at_wildcard, none_at_all, by_wildcard_data, empty_wildcard_shown}
use Rattle.dnsv_proof_forms.proofs.forms.missing_type.no_data.Goals as goal

pub returns-then-not-is_at_or_below : goal.returns-then-not-is_at_or_below
returns-then-not-is_at_or_below c =
    none_outside (words (chain_said c.args.apex.now c.args.records.now)) c.args.apex.now c.args.name.now c.args.rtype.0
    (λ within. let holds = c.is_at_or_below.ensures.at_or_below.1 within in let fails = c.if-not-is_at_or_below.true in cc)

pub returns-in-Some : goal.returns-in-Some
returns-in-Some c =
    let said = chain_said c.args.apex.now c.args.records.now in
    let whole : rightmost c.args.name.now c.labels.result ≡ c.args.name.now = rightmost_all c.args.name.now c.labels.result (omega (arith, c.labels.ensures.count)) in
    at_name c.in-Some.place (record {
      within = c.is_at_or_below.ensures.at_or_below.0 c.if-not-is_at_or_below.false;
      types = subst (λ name. IsFirstToSay nat_cmp (said.TypesAt name (λ has. Denies has c.args.rtype.0)) c.in-Some.place) whole (c.in-Some.ensures c.args.apex.now);
    })

pub returns-in-Some-empty_non_terminal : goal.returns-in-Some-empty_non_terminal
returns-in-Some-empty_non_terminal c =
    let said = chain_said c.args.apex.now c.args.records.now in
    let whole : rightmost c.args.name.now c.labels.result ≡ c.args.name.now = rightmost_all c.args.name.now c.labels.result (omega (arith, c.labels.ensures.count)) in
    empty c.in-Some-empty_non_terminal.place (record {
      not_at_name = none_at_name said c.args.apex.now c.args.name.now c.args.rtype.0
          (subst (λ name. (place : ℕ) → ¬ said.TypesAt name (λ has. Denies has c.args.rtype.0) place) whole (c.in_default.ensures c.args.apex.now));
      within = c.is_at_or_below.ensures.at_or_below.0 c.if-not-is_at_or_below.false;
      empty = subst (λ name. IsFirstToSay nat_cmp (said.EmptyNonTerminal name) c.in-Some-empty_non_terminal.place) whole (c.in-Some-empty_non_terminal.ensures c.args.apex.now);
    })

pub returns-in-Some-by_wildcard : goal.returns-in-Some-by_wildcard
returns-in-Some-by_wildcard c =
    let said = chain_said c.args.apex.now c.args.records.now in
    let whole : rightmost c.args.name.now c.labels.result ≡ c.args.name.now = rightmost_all c.args.name.now c.labels.result (omega (arith, c.labels.ensures.count)) in
    at_wildcard c.in-Some-by_wildcard.places
    (by_wildcard_data said c.args.apex.now c.args.name.now c.args.rtype c.in-Some-by_wildcard.places
    (none_at_name said c.args.apex.now c.args.name.now c.args.rtype.0
    (subst (λ name. (place : ℕ) → ¬ said.TypesAt name (λ has. Denies has c.args.rtype.0) place) whole (c.in_default.ensures c.args.apex.now)))
    (none_empty said c.args.apex.now c.args.name.now
    (subst (λ name. (place : ℕ) → ¬ said.EmptyNonTerminal name place) whole (c.in_default-empty_non_terminal.ensures c.args.apex.now)))
    c.in-Some-by_wildcard.ensures)

pub returns-in_default-by_wildcard-2 : goal.returns-in_default-by_wildcard-2
returns-in_default-by_wildcard-2 c =
    let said = chain_said c.args.apex.now c.args.records.now in
    let whole : rightmost c.args.name.now c.labels.result ≡ c.args.name.now = rightmost_all c.args.name.now c.labels.result (omega (arith, c.labels.ensures.count)) in
    none_at_all said c.args.apex.now c.args.name.now c.args.rtype.0
    (none_at_name said c.args.apex.now c.args.name.now c.args.rtype.0
    (subst (λ name. (place : ℕ) → ¬ said.TypesAt name (λ has. Denies has c.args.rtype.0) place) whole (c.in_default.ensures c.args.apex.now)))
    (none_empty said c.args.apex.now c.args.name.now
    (subst (λ name. (place : ℕ) → ¬ said.EmptyNonTerminal name place) whole (c.in_default-empty_non_terminal.ensures c.args.apex.now)))
    (none_at_wildcard said c.args.apex.now c.args.name.now c.args.rtype c.in_default-by_wildcard.ensures)
    c.in_default-by_wildcard-2.ensures

pub returns : goal.returns
returns c =
    let said = chain_said c.args.apex.now c.args.records.now in
    let whole : rightmost c.args.name.now c.labels.result ≡ c.args.name.now = rightmost_all c.args.name.now c.labels.result (omega (arith, c.labels.ensures.count)) in
    empty_wildcard c.in-Some-by_wildcard-2.places
    (empty_wildcard_shown said c.args.apex.now c.args.name.now c.args.rtype.0
    (none_at_name said c.args.apex.now c.args.name.now c.args.rtype.0
    (subst (λ name. (place : ℕ) → ¬ said.TypesAt name (λ has. Denies has c.args.rtype.0) place) whole (c.in_default.ensures c.args.apex.now)))
    (none_empty said c.args.apex.now c.args.name.now
    (subst (λ name. (place : ℕ) → ¬ said.EmptyNonTerminal name place) whole (c.in_default-empty_non_terminal.ensures c.args.apex.now)))
    (none_at_wildcard said c.args.apex.now c.args.name.now c.args.rtype c.in_default-by_wildcard.ensures)
    c.in-Some-by_wildcard-2.places c.in-Some-by_wildcard-2.ensures)
