-- The way over secure aliases from the name of a question to the last one, and the verdict on the question, which is
-- that at the last name (RFC 1034 3.6.2, 4.3.2, RFC 4035 5.3).
pub mod End
use Rattle.std.specs.Prelude.{◌≡◌, ◌⊎◌, ◌<◌, ◌≤◌, ℕ, List, [], ◌∷◌, ◌++◌, length, map}
use Rattle.dnsv_names.specs.Name.{Labels, IsName, SameName, wire}
use Rattle.dnsv_canonical.specs.Canonical.{IsCanonical}
use Rattle.dnsv_canonical.specs.CanonicalRdata.{canonical_form}
use Rattle.dnsv_canonical.specs.Rrsets.{IsNumbered, ReceivedRrset}
use Rattle.dnsv_questions.specs.Question.{IsQuestion}
use Rattle.dnsv_chain.specs.Basis.{Basis}
use Rattle.dnsv_verdict.specs.Verdict.{IsVerdictAt}
use Rattle.dnsv_verdict.specs.declared.error.VerdictError.{VerdictError}
use Rattle.dnsv_verdict.specs.declared.error.VerdictError.TheVariants.{OutOfMemory, BadQuestion, AliasLoop, TooManyLinks, AliasTargets}
use Rattle.dnsv_verdict.specs.declared.link.Link.{Link}
use Rattle.dnsv_verdict.specs.declared.verdict.Verdict.{Verdict}
use Rattle.dnsv_verdict.specs.declared.verdict.Verdict.TheVariants.{SecureAlias}

-- ---- links

-- The records of RRset k are one record, whose RDATA in canonical form is the wire form of the target; so the target
-- is in lower case (RFC 2181 10.1, RFC 4034 6.2, 6.3).
pub record IsTarget (rrsets : List ReceivedRrset) (k : ℕ) (target : Labels) : Type 0 where
  pub rrset : ReceivedRrset
  pub is_rrset : IsNumbered rrsets k rrset
  pub is_name : IsName target
  pub canonical : IsCanonical (map (canonical_form rrset.rtype) rrset.rdata) (wire target ∷ [])

-- the name of the link is this one, which its RRset and signature make a secure alias for the type
abbrev pub IsLink : Basis → Labels → ℕ → Link → Type 0
IsLink basis name t link = (link.name ≡ name) × IsVerdictAt basis name t (SecureAlias link.rrset link.signature)

-- the links lead from the name to the last one: each to the name of the next, at which the type can be asked
abbrev pub LeadTo : Basis → ℕ → Labels → List Link → Labels → Type 0
LeadTo basis t name [] last = name ≡ last
LeadTo basis t name (link ∷ links) last =
    IsLink basis name t link × (target : Labels) × IsTarget basis.rrsets link.rrset target × IsQuestion target t
    × LeadTo basis t target links last

-- ---- ways

-- the names of the links, and the last one
abbrev pub names_on : List Link → Labels → List Labels
names_on links last = map (λ link. link.name) links ++ last ∷ []

-- the name is the same as one of the names
abbrev pub IsAmong : Labels → List Labels → Type 0
IsAmong name [] = ⊥
IsAmong name (other ∷ names) = SameName name other ⊎ IsAmong name names

-- no two of the names are the same
abbrev pub AreApart : List Labels → Type 0
AreApart [] = Unit {0}
AreApart (name ∷ names) = (¬ IsAmong name names) × AreApart names

-- how many links a way has at most
abbrev pub most_links : ℕ
most_links = 8

-- at most so many links lead from the name to the last one, and no name comes twice
pub record IsWay (basis : Basis) (t : ℕ) (name : Labels) (links : List Link) (last : Labels) : Type 0 where
  pub leads : LeadTo basis t name links last
  pub apart : AreApart (names_on links last)
  pub few : length links ≤ most_links

-- ---- the verdict on a question

abbrev pub IsAlias : Verdict → Type 0
IsAlias (SecureAlias k s) = Unit {0}
IsAlias verdict = ⊥

-- the verdict on the question of the name and the type: that at the end of a way, where no alias leads on
pub record IsVerdictOf
    (basis : Basis) (name : Labels) (t : ℕ) (links : List Link) (last : Labels) (verdict : Verdict) : Type 0 where
  pub way : IsWay basis t name links last
  pub is_verdict : IsVerdictAt basis last t verdict
  pub no_alias : ¬ IsAlias verdict

-- ---- what keeps a question from having one

-- RRset k is an alias behind so many links, and can't be followed: it has no one target; or its target is one of the
-- names before; or it would be the ninth link; or the type can't be asked at its target. Each leaves out those before.
abbrev pub Stops : List ReceivedRrset → ℕ → List Labels → ℕ → ℕ → VerdictError → Type 0
Stops rrsets t names links k AliasTargets = (target : Labels) → ¬ IsTarget rrsets k target
Stops rrsets t names links k AliasLoop = (target : Labels) × IsTarget rrsets k target × IsAmong target names
Stops rrsets t names links k TooManyLinks =
    (target : Labels) × IsTarget rrsets k target × (¬ IsAmong target names) × (links ≡ most_links)
Stops rrsets t names links k BadQuestion =
    (target : Labels) × IsTarget rrsets k target × (¬ IsAmong target names) × (links < most_links)
    × (¬ IsQuestion target t)
Stops rrsets t names links k OutOfMemory = ⊥

-- the question's way stops so: these links lead to the alias, which can't be followed
pub record IsStoppedAt
    (basis : Basis) (name : Labels) (t : ℕ) (links : List Link) (alias : Link) (error : VerdictError) : Type 0 where
  pub way : IsWay basis t name links alias.name
  pub is_alias : IsVerdictAt basis alias.name t (SecureAlias alias.rrset alias.signature)
  pub stops : Stops basis.rrsets t (names_on links alias.name) (length links) alias.rrset error

-- the question is refused so: a way ends at an alias that can't be followed
pub record IsRefusedFor (basis : Basis) (name : Labels) (t : ℕ) (error : VerdictError) : Type 0 where
  pub links : List Link
  pub last : Labels
  pub way : IsWay basis t name links last
  pub k : ℕ
  pub s : ℕ
  pub is_alias : IsVerdictAt basis last t (SecureAlias k s)
  pub stops : Stops basis.rrsets t (names_on links last) (length links) k error

-- how a question is refused: the type can't be asked at its name, or it can and an alias can't be followed
abbrev pub IsRefusal : Basis → Labels → ℕ → VerdictError → Type 0
IsRefusal basis name t error =
    ((error ≡ BadQuestion) × (¬ IsQuestion name t)) ⊎ (IsQuestion name t × IsRefusedFor basis name t error)
