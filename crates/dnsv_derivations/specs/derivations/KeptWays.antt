-- What is kept beside the evidence. No public clause cites this module.
use Rattle.std.specs.Prelude.{Bool, IsTrue, List}
use Rattle.dnsv_chain.specs.Trust.{IsTrustOf, KeptTrust}
use Rattle.dnsv_verifier.specs.Table.{table_answer}
use Rattle.dnsv_derivations.specs.Rising.{AreRising}
use Rattle.dnsv_derivations.specs.Explained.{Explained, setting_in}
use Rattle.dnsv_derivations.specs.derivations.WaySearch.{AreFirstWays}
use Rattle.dnsv_derivations.specs.declared.derivations.ways.kept.KeptWay.{KeptWay}

-- the trust is that of the evidence, and so are the first ways; and its entries rise, if that is known
pub record AreOfEvidence (explained : Explained) (kept : KeptTrust) (found : List KeptWay) (rises : Bool) : Type 0 where
  pub trust : IsTrustOf (table_answer explained.table) explained.table.moment explained.rrsets explained.anchors kept
  pub ways : AreFirstWays (setting_in explained) found
  pub rising : IsTrue rises → AreRising explained.todo
