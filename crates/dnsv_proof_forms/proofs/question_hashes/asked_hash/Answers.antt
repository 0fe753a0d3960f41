use Rattle.std.proofs.Common.{◌≡◌, ◌∙◌, ◌-◌, length, sym, ap, subst, Some, arith}
use Rattle.std.specs.Prelude.{slice_get}
use Rattle.std.proofs.lemmas.Option.{get_or_from_slice_get}
use Rattle.dnsv_proof_forms.proofs.QuestionHashLemmas.{asked_wildcard, hash_above, hash_of_wildcard, never_asked}
use Rattle.dnsv_zones.specs.chains.HashedNames.{sha1_hash}
use Rattle.dnsv_zones.specs.chains.Nsec3Chain.IsAsked.{itself}
use Rattle.dnsv_zones.specs.chains.Rdata.{parameters_of}
use Rattle.dnsv_proof_forms.proofs.question_hashes.asked_hash.Goals as goal

pub returns-then-is_at_or_below : goal.returns-then-is_at_or_below
returns-then-is_at_or_below c =
    let set = c.args.set.now in
    let hash = sha1_hash (parameters_of set.parameters.now) in
    let at = c.is_at_or_below.ensures.at_or_below.0 c.if-is_at_or_below.true in
    let there = hash_above hash c.args.question.now c.args.name.now set.hashed.above.items set.hashed.wildcards.items c.requires at in
    let placed = subst (λ n. slice_get set.hashed.above.items n ≡ Some (hash.of c.args.name.now)) (sym c.labels-labels.ensures.count) there in
    (itself c.args.name.now at, c.index.ensures ∙ get_or_from_slice_get set.hashed.above.items c.labels-labels.result (hash.of c.args.name.now) c.index.result.now placed)

pub returns-then-not-is_wildcard_above : goal.returns-then-not-is_wildcard_above
returns-then-not-is_wildcard_above c =
    never_asked c.args.question.now c.args.name.now
    (λ at. (let holds = c.is_at_or_below.ensures.at_or_below.1 at in let fails = c.if-is_at_or_below.false in cc))
    (λ wild. (let holds = c.is_wildcard_above.ensures.1 wild in let fails = c.if-not-is_wildcard_above.true in cc))

pub returns : goal.returns
returns c =
    let set = c.args.set.now in
    let hash = sha1_hash (parameters_of set.parameters.now) in
    let wild = c.is_wildcard_above.ensures.0 c.if-not-is_wildcard_above.false in
    let there = hash_of_wildcard hash c.args.question.now wild.0 set.hashed.above.items set.hashed.wildcards.items c.requires wild.1 in
    let count : length wild.0 ≡ c.labels-labels.result - 1 = (let all = c.labels-labels.ensures.count ∙ ap length wild.2 in omega (arith, all)) in
    let placed = subst (λ n. slice_get set.hashed.wildcards.items n ≡ Some (hash.of c.args.name.now)) count
    (there ∙ ap (λ n. Some (hash.of n)) (sym wild.2)) in (
      asked_wildcard c.args.question.now c.args.name.now wild,
      c.index-2.ensures ∙ get_or_from_slice_get set.hashed.wildcards.items (c.labels-labels.result - 1) (hash.of c.args.name.now) c.index-2.result.now placed,
    )
