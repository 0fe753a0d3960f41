-- The zone of `Example` with a chain of NSEC3 records that leaves out its delegation without DS, `s.e.`. It shows that
-- the premises of the laws can be met under Opt-Out.
use Rattle.std.specs.Prelude.{List, [], ◌∷◌}
use Rattle.std.proofs.Common.{ap}
use Rattle.dnsv_names.specs.Name.{lower_case, wire}
use Rattle.dnsv_zones.specs.examples.Example.{e_name, a_name, apex_types, address_types}
use Rattle.dnsv_zones.specs.chains.Nsec3Chain.{NameHash, Nsec3Record}

-- the laws hold of any hash: here of the wire form in lower case, which no two names share
abbrev pub wire_hash : NameHash
wire_hash = record {
  parameters = record { iterations = 0; salt = [] };
  of = λ name. wire (lower_case name);
  respects_case = λ a b same. ap wire same;
}

-- the records of `a.e.` and of the apex, behind which the chain begins again, with the Opt-Out flag
abbrev pub opt_out_records : List Nsec3Record
opt_out_records = record {
  hash = wire_hash.of a_name;
  next = wire_hash.of e_name;
  flags = 1;
  types = address_types;
  parameters = wire_hash.parameters;
} ∷ record {
  hash = wire_hash.of e_name;
  next = wire_hash.of a_name;
  flags = 1;
  types = apex_types;
  parameters = wire_hash.parameters;
} ∷ []
