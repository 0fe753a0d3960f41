-- The question of which facts are told.
use Rattle.std.specs.Prelude.{◌≡◌, ℕ}
use Rattle.dnsv_names.specs.Name.{Labels}
use Rattle.dnsv_chain.specs.Basis.{CaseContents, basis_by, Basis}
use Rattle.dnsv_faults.specs.KnownZones.{AreKnownZones}
use Rattle.dnsv_gaps.specs.declared.asked.AskedQuestion.{AskedQuestion}

-- the name and the type that are asked for, and what that is judged by
pub record Asking : Type 0 where
  pub basis : Basis
  pub name : Labels
  pub rtype : ℕ

abbrev pub asking_of : CaseContents → Labels → ℕ → Asking
asking_of case name rtype = record { basis = basis_by case; name = name; rtype = rtype }

-- what the code has of it
abbrev pub asking : AskedQuestion → Asking
asking question = asking_of question.facts.now question.name.now question.rtype.0

-- it has which zones are known, and the hashes of the names that are asked for
pub record IsAsked (question : AskedQuestion) : Type 0 where
  pub known : AreKnownZones (basis_by question.facts.now) question.name.now question.rtype.0 question.known.now
  pub hashes : question.hashes.now ≡ record { rrsets = question.facts.now.rrsets; name = question.name.now }
