-- What a view of the evidence is made of: its RRsets, their trust and the question's name.
use Rattle.std.specs.Prelude.{List}
use Rattle.dnsv_names.specs.Name.{Labels}
use Rattle.dnsv_canonical.specs.Rrsets.{ReceivedRrset}
use Rattle.dnsv_chain.specs.Trust.{KeptTrust}

pub record Viewed : Type 0 where
  pub rrsets : List ReceivedRrset
  pub trust : KeptTrust
  pub name : Labels
