use Rattle.std.proofs.Common.{◌≡◌, ◌<◌, ◌∙◌, ℕ, List, sym, ap, subst, Some}
use Rattle.std.specs.Prelude.{MatchOption, slice_get}
use Rattle.std.proofs.lemmas.Option.{MatchOption-at_none, MatchOption-at_some, get_or_from_slice_get, slice_get_within}
use Rattle.dnsv_digest.specs.Nsec3Hash.{nsec3_hash_of}
use Rattle.dnsv_proof_forms.proofs.lemmas.PlaceLemmas.{each_at}
use Rattle.dnsv_proof_forms.proofs.QuestionHashLemmas.{found_hash, not_used, used_by_set}
use Rattle.dnsv_zones.specs.chains.HashedNames.{sha1_hash}
use Rattle.dnsv_proof_forms.specs.KeptHashes.{IsSetOf}
use Rattle.dnsv_zones.specs.chains.Nsec3Chain.{Parameters}
use Rattle.dnsv_proof_forms.specs.QuestionHashes.{AreUsed, HashedQuestion, IsAskedHash}
use Rattle.dnsv_zones.specs.chains.Rdata.{parameters_of}
use Rattle.dnsv_proof_forms.specs.declared.records.name_hashes.NameHashes.{NameHashes}
use Rattle.dnsv_proof_forms.proofs.question_hashes.Hashes.get.Goals as goal

pub returns-in_default : goal.returns-in_default
returns-in_default c =
    let kept = c.self.inside in
    let parameters : Parameters = record { iterations = c.args.iterations; salt = c.args.salt.now } in
    let none = subst (λ (sets : List NameHashes). (k : ℕ) (set : NameHashes) → slice_get sets k ≡ Some set → ¬ (parameters_of set.parameters.now ≡ parameters))
    (rw c.deref.ensures at c.deref-2.ensures.value) (MatchOption-at_none _ _ c.in_default.is c.place_of.ensures) in
    let never = not_used kept.capture.now.rrsets kept.name kept.sets.value.items parameters c.self.invariant none in
    subst (λ (question : HashedQuestion). ¬ IsAskedHash question c.args.iterations c.args.salt.now c.args.name.now) c.self.view_is (λ both. never both.0)

pub index-requires : goal.index-requires
index-requires c =
    let found = MatchOption-at_some _ _ c.in-Some.place c.in-Some.is c.place_of.ensures in
    rw c.deref-3.ensures (subst (λ n. c.in-Some.place < n) (rw c.deref.ensures at c.deref-2.ensures.len) (slice_get_within c.deref-2.result.now c.in-Some.place found.0 found.1))

pub asked_hash-requires : goal.asked_hash-requires
asked_hash-requires c =
    let kept = c.self.inside in
    let found = MatchOption-at_some _ _ c.in-Some.place c.in-Some.is c.place_of.ensures in
    let there = subst (λ (sets : List NameHashes). slice_get sets c.in-Some.place ≡ Some found.0) (rw c.deref.ensures at c.deref-2.ensures.value) found.1 in
    let is : c.index.result.now ≡ found.0 = (rw c.deref-3.ensures at c.index.ensures) ∙ get_or_from_slice_get kept.sets.value.items c.in-Some.place found.0 c.index.result.now there in
    subst (λ set. IsSetOf kept.name set) (sym is) (each_at (IsSetOf kept.name) kept.sets.value.items c.in-Some.place found.0 c.self.invariant.hashed there)

pub returns : goal.returns
returns c =
    let kept = c.self.inside in
    let parameters : Parameters = record { iterations = c.args.iterations; salt = c.args.salt.now } in
    let found = MatchOption-at_some _ _ c.in-Some.place c.in-Some.is c.place_of.ensures in
    let there = subst (λ (sets : List NameHashes). slice_get sets c.in-Some.place ≡ Some found.0) (rw c.deref.ensures at c.deref-2.ensures.value) found.1 in
    let is : c.index.result.now ≡ found.0 = (rw c.deref-3.ensures at c.index.ensures) ∙ get_or_from_slice_get kept.sets.value.items c.in-Some.place found.0 c.index.result.now there in
    let its : parameters_of c.index.result.now.parameters.now ≡ parameters = ap (λ (set : NameHashes). parameters_of set.parameters.now) is ∙ found.2 in
    let used = used_by_set kept.capture.now.rrsets kept.name kept.sets.value.items parameters c.self.invariant c.in-Some.place found.0 there found.2 in
    subst (λ (question : HashedQuestion). MatchOption c.asked_hash.result (¬ IsAskedHash question c.args.iterations c.args.salt.now c.args.name.now)
    (λ hash. IsAskedHash question c.args.iterations c.args.salt.now c.args.name.now × (hash ≡ nsec3_hash_of c.args.name.now c.args.salt.now c.args.iterations)))
    c.self.view_is
    (found_hash (AreUsed kept.capture.now.rrsets parameters) sha1_hash kept.name c.args.name.now (parameters_of c.index.result.now.parameters.now) parameters
    c.asked_hash.result used its c.asked_hash.ensures)
