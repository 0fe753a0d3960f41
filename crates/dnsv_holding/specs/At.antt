-- What is told at one name of a way.
use Rattle.std.specs.Prelude.{◌≡◌}
use Rattle.dnsv_denial.specs.Viewed.{Viewed}
use Rattle.dnsv_chain.specs.Basis.{HasTrust}
use Rattle.dnsv_verdict.specs.Report.{hashed_in}
use Rattle.dnsv_derivations.specs.Explained.{Explained}
use Rattle.dnsv_holding.specs.Explained.{explained_by}
use Rattle.dnsv_holding.specs.declared.at.At.{At}

-- the case have the evidence that is explained, with its trust, and the hashes are those for the name
pub record IsAt (explained : Explained) (at : At) : Type 0 where
  pub trust : HasTrust at.case.now
  pub evidence : explained ≡ explained_by at.case.now explained.todo
  pub hashes : at.hashes.now ≡ hashed_in at.case.now.rrsets at.name.now

-- what the evidence of the case says of the name
abbrev pub viewed_at : At → Viewed
viewed_at at = record {
  rrsets = at.case.now.rrsets;
  trust = at.case.now.trust;
  name = at.name.now;
}
