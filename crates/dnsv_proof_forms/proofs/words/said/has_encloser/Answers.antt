use Rattle.std.proofs.Common.{ℕ, inr, ⊎_elim}
use Rattle.dnsv_names.specs.Name.{rightmost}
use Rattle.dnsv_proof_forms.specs.words.ChainSaid.{chain_said}
use Rattle.dnsv_proof_forms.proofs.lemmas.words.FirstLemmas.{some_first}
use Rattle.dnsv_proof_forms.proofs.words.said.has_encloser.Goals as goal

pub returns : goal.returns
returns c =
    let said = chain_said c.args.apex.now c.args.records.now in
    let some = some_first (said.Encloser (rightmost c.args.name.now c.args.labels)) c.encloser.result c.is_some.result c.is_some.ensures (c.encloser.ensures c.args.apex.now) in (
      λ yes. inr (some.0 yes),
      λ told. ⊎_elim
          (λ (needs : said.NeedsNone (rightmost c.args.name.now c.args.labels)).
          let bad : ⊥ = let holds = c.needs_none.ensures.1 needs in let fails = c.if-needs_none.false in cc in absurd bad)
          (λ (by : (place : ℕ) × said.Encloser (rightmost c.args.name.now c.args.labels) place). some.1 by) told,
    )
