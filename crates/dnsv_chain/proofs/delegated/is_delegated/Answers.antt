use Rattle.std.proofs.Common.{◌∙◌, Bor, List, inl, inr, map, refl, rules, sym}
use Rattle.std.proofs.lemmas.Bool.{false≢true}
use Rattle.std.specs.Prelude.{IsTrue}
use Rattle.dnsv_canonical.specs.Rrsets.{ReceivedRrset}
use Rattle.dnsv_records.specs.Algorithm.{is_supported}
use Rattle.dnsv_chain.proofs.DelegatedLemmas.{delegated_by_one, type_delegates}
use Rattle.dnsv_chain.proofs.delegated.is_delegated.Goals as goal

pub returns-then-is_delegated_by : goal.returns-then-is_delegated_by
returns-then-is_delegated_by c =
    let delegations : List ReceivedRrset = map (λ (ds : Bor ReceivedRrset). ds.now) c.args.delegations.now in
    let supported : IsTrue (is_supported c.args.key.now.dnskey.algorithm.0) = search rules in
    (λ _. type_delegates delegations 1 c.args.key.now supported (c.is_delegated_by.ensures.0 c.if-is_delegated_by.true), λ _. refl)

pub returns-then-is_delegated_by-2 : goal.returns-then-is_delegated_by-2
returns-then-is_delegated_by-2 c =
    let delegations : List ReceivedRrset = map (λ (ds : Bor ReceivedRrset). ds.now) c.args.delegations.now in
    let supported : IsTrue (is_supported c.args.key.now.dnskey.algorithm.0) = search rules in
    (λ _. type_delegates delegations 2 c.args.key.now supported (c.is_delegated_by-2.ensures.0 c.if-is_delegated_by-2.true), λ _. refl)

pub returns : goal.returns
returns c =
    let delegations : List ReceivedRrset = map (λ (ds : Bor ReceivedRrset). ds.now) c.args.delegations.now in
    let supported : IsTrue (is_supported c.args.key.now.dnskey.algorithm.0) = search rules in (
      λ truth. type_delegates delegations 4 c.args.key.now supported (c.is_delegated_by-3.ensures.0 truth),
      λ some. elim (delegated_by_one delegations c.args.key.now some) [
        | inl first ↦ absurd (false≢true (sym c.if-is_delegated_by.false ∙ c.is_delegated_by.ensures.1 first))
        | inr (inl second) ↦ absurd (false≢true (sym c.if-is_delegated_by-2.false ∙ c.is_delegated_by-2.ensures.1 second))
        | inr (inr third) ↦ c.is_delegated_by-3.ensures.1 third
      ],
    )
