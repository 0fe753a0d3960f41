-- How what is kept of a way grows. No public clause cites this module.
use Rattle.std.specs.Prelude.{◌≡◌, ◌++◌, ◌∷◌, [], ℕ, IsFalse, IsTrue, List, Some, None, map}
use Rattle.dnsv_names.specs.Name.{Labels}
use Rattle.dnsv_proof_forms.specs.QuestionHashes.{HashedQuestion}
use Rattle.dnsv_verdict.specs.Hope.{HasHope}
use Rattle.dnsv_verdict.specs.Report.{hashed_in}
use Rattle.dnsv_chain.specs.Basis.{CaseContents}
use Rattle.dnsv_verdict.specs.declared.at_name.Hope.{Hope}
use Rattle.dnsv_verdict.specs.declared.trail.Trail.{Trail}
use Rattle.dnsv_verdict.specs.declared.verdict.Verdict.{Verdict}

-- the hashes that are kept, whoever else has a share of them
abbrev pub kept_hashes : Trail → List HashedQuestion
kept_hashes trail = map (λ hashes. hashes.value) trail.hashes.items

-- nothing is kept yet
pub record IsEmpty (trail : Trail) : Type 0 where
  pub hashes : trail.hashes.items ≡ []
  pub hope : trail.hope ≡ None

-- the hashes of one name more, if anything is kept; else nothing
pub record AddsHashes (question : HashedQuestion) (before after : Trail) : Type 0 where
  pub keeps : after.keeps ≡ before.keeps
  pub hashes : IsTrue before.keeps → kept_hashes after ≡ kept_hashes before ++ question ∷ []
  pub hope : after.hope ≡ before.hope
  pub unkept : IsFalse before.keeps → after ≡ before

-- the hope, if anything is kept; else nothing
pub record SetsHope (hoped : Hope) (before after : Trail) : Type 0 where
  pub keeps : after.keeps ≡ before.keeps
  pub hashes : kept_hashes after ≡ kept_hashes before
  pub hope : IsTrue before.keeps → after.hope ≡ Some hoped
  pub unkept : IsFalse before.keeps → after ≡ before

-- the hope of the verdict at the name, if anything is kept; else nothing
pub record KeepsHope (case : CaseContents) (name : Labels) (t : ℕ) (verdict : Verdict) (before after : Trail) : Type 0 where
  pub keeps : after.keeps ≡ before.keeps
  pub hashes : kept_hashes after ≡ kept_hashes before
  pub hope : IsTrue before.keeps → before.hope ≡ None → HasHope case name t verdict after.hope
  pub unkept : IsFalse before.keeps → after ≡ before

-- that, and the hashes of the name
pub record Trails (case : CaseContents) (name : Labels) (t : ℕ) (verdict : Verdict) (before after : Trail) : Type 0 where
  pub keeps : after.keeps ≡ before.keeps
  pub hashes : IsTrue before.keeps → kept_hashes after ≡ kept_hashes before ++ hashed_in case.rrsets name ∷ []
  pub hope : IsTrue before.keeps → before.hope ≡ None → HasHope case name t verdict after.hope
  pub unkept : IsFalse before.keeps → after ≡ before
