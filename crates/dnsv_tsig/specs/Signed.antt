-- The octets that the RDATA of a signature is read from. No public clause cites this module.
use Rattle.std.specs.Prelude.{◌≡◌, ℕ, List, [], ◌∷◌, ◌++◌}
use Rattle.dnsv_message.specs.declared.record.Record.{Record}

-- where there is a last record, and it is a TSIG record, the octets are its RDATA
pub record IsLastRdata (records : List Record) (rdata : List ℕ) : Type 0 where
  pub is : (others : List Record) (last : Record) → records ≡ others ++ last ∷ [] → last.rtype.0 ≡ 250
      → rdata ≡ last.rdata

-- there is a last record, and it is a TSIG record
pub record EndsWithTsig (records : List Record) : Type 0 where
  pub others : List Record
  pub last : Record
  pub is : records ≡ others ++ last ∷ []
  pub rtype : last.rtype.0 ≡ 250
