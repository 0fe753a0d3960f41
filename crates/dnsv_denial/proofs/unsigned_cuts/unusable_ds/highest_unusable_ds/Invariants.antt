-- the fewest labels by the RRsets so far are found
use Rattle.dnsv_chain.specs.Trust.{SecuredIn}
use Rattle.dnsv_denial.specs.unsigned_cuts.Findings.{IsFewestFound}
use Rattle.dnsv_denial.proofs.lemmas.unsigned_cuts.FindingLemmas.{IsCutUpTo}
use Rattle.dnsv_denial.proofs.unsigned_cuts.unusable_ds.highest_unusable_ds.Given as goal

abbrev pub invariant-loop-place : goal.invariant-loop-place
invariant-loop-place l =
    IsFewestFound (IsCutUpTo (SecuredIn l.trust) l.rrset-items l.name l.place) l.fewest
