use Rattle.std.proofs.Common.{◌≡◌, ◌<◌, ◌∙◌, ℕ, List, refl, sym, ap, subst, Some}
use Rattle.std.specs.Prelude.{slice_get}
use Rattle.std.proofs.lemmas.Option.{MatchOption-at_none, MatchOption-at_some, get_or_from_slice_get, slice_get_within}
use Rattle.dnsv_proof_forms.proofs.lemmas.PlaceLemmas.{each_at}
use Rattle.dnsv_proof_forms.proofs.QuestionHashLemmas.{not_used, used_by_set}
use Rattle.dnsv_zones.specs.chains.HashedNames.{AreHashes, sha1_hash}
use Rattle.dnsv_proof_forms.specs.KeptHashes.{IsSetOf}
use Rattle.dnsv_proof_forms.specs.QuestionHashes.{AreUsed, HashedQuestion}
use Rattle.dnsv_zones.specs.chains.Rdata.{parameters_of}
use Rattle.dnsv_proof_forms.specs.declared.records.name_hashes.NameHashes.{NameHashes}
use Rattle.dnsv_proof_forms.proofs.question_hashes.Hashes.hashed.Goals as goal

pub returns-in_default : goal.returns-in_default
returns-in_default c =
    let kept = c.self.inside in
    let parameters = parameters_of c.args.parameters.now in
    let none = subst (λ (sets : List NameHashes). (k : ℕ) (set : NameHashes) → slice_get sets k ≡ Some set → ¬ (parameters_of set.parameters.now ≡ parameters))
    (rw c.deref.ensures at c.deref-2.ensures.value) (MatchOption-at_none _ _ c.in_default.is (rw c.as_slice-salt.ensures at c.place_of.ensures)) in
    let never = not_used kept.capture.now.rrsets kept.name kept.sets.value.items parameters c.self.invariant none in
    subst (λ (question : HashedQuestion). ¬ AreUsed question.rrsets parameters) c.self.view_is never

pub index-set-requires : goal.index-set-requires
index-set-requires c =
    let found = MatchOption-at_some _ _ c.in-Some.place c.in-Some.is c.place_of.ensures in
    rw c.deref-3.ensures (subst (λ n. c.in-Some.place < n) (rw c.deref.ensures at c.deref-2.ensures.len) (slice_get_within c.deref-2.result.now c.in-Some.place found.0 found.1))

pub returns : goal.returns
returns c =
    let kept = c.self.inside in
    let parameters = parameters_of c.args.parameters.now in
    let found = MatchOption-at_some _ _ c.in-Some.place c.in-Some.is (rw c.as_slice-salt.ensures at c.place_of.ensures) in
    let there = subst (λ (sets : List NameHashes). slice_get sets c.in-Some.place ≡ Some found.0) (rw c.deref.ensures at c.deref-2.ensures.value) found.1 in
    let set = c.index-set.result.now in
    let is : set ≡ found.0 = (rw c.deref-3.ensures at c.index-set.ensures) ∙ get_or_from_slice_get kept.sets.value.items c.in-Some.place found.0 set there in
    let its : parameters_of set.parameters.now ≡ parameters = ap (λ (each : NameHashes). parameters_of each.parameters.now) is ∙ found.2 in
    let used = used_by_set kept.capture.now.rrsets kept.name kept.sets.value.items parameters c.self.invariant c.in-Some.place found.0 there found.2 in
    let hashes : IsSetOf kept.name set = subst (λ each. IsSetOf kept.name each) (sym is) (each_at (IsSetOf kept.name) kept.sets.value.items c.in-Some.place found.0 c.self.invariant.hashed there) in (
      subst (λ (question : HashedQuestion). AreUsed question.rrsets parameters) c.self.view_is used,
      record {
        entries_are = refl;
        name_is = ap (λ (question : HashedQuestion). question.name) c.self.view_is;
        parameters_are = its;
        has_hashes = subst (λ wildcards. AreHashes (sha1_hash (parameters_of set.parameters.now)) kept.name c.deref-4.result.now wildcards) (sym c.deref-5.ensures.value)
            (subst (λ above. AreHashes (sha1_hash (parameters_of set.parameters.now)) kept.name above set.hashed.wildcards.items) (sym c.deref-4.ensures.value) hashes);
      },
    )
