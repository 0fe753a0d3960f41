-- The octets of a record up to the end of each field before its RDATA, and how many they are; and its head where it stands.
use Rattle.std.proofs.Common.{◌≡◌, ℕ, ◌+◌, ◌≤◌, List, ◌++◌, length, refl, arith, length-append}
use Rattle.std.specs.Int.{w16, w32, to_be_bytes}
use Rattle.dnsv_names.specs.Name.{Labels, wire}
use Rattle.dnsv_names.specs.Octets.{number_at}
use Rattle.dnsv_message.specs.declared.errors.DecodeError.{DecodeError}
use Rattle.dnsv_message.specs.declared.record.Record.{Record}
use Rattle.dnsv_message.specs.NameAt.{NameFrom}
use Rattle.dnsv_message.specs.Grammar.{RecordHeadAt, RdataFaultAt, FaultBehindHead}

module _ (resource : Record) where
  abbrev pub up_to_type : List ℕ
  up_to_type = wire resource.name ++ to_be_bytes w16 resource.rtype.0

  abbrev pub up_to_class : List ℕ
  up_to_class = up_to_type ++ to_be_bytes w16 resource.class.0

  abbrev pub up_to_ttl : List ℕ
  up_to_ttl = up_to_class ++ to_be_bytes w32 resource.ttl.0

  abbrev pub up_to_size : List ℕ
  up_to_size = up_to_ttl ++ to_be_bytes w16 (length resource.rdata)

  pub length-up_to_type : length up_to_type ≡ length (wire resource.name) + 2
  length-up_to_type = omega (arith, length-append (wire resource.name) (to_be_bytes w16 resource.rtype.0))

  pub length-up_to_class : length up_to_class ≡ length (wire resource.name) + 4
  length-up_to_class = omega (arith, length-append up_to_type (to_be_bytes w16 resource.class.0), length-up_to_type)

  pub length-up_to_ttl : length up_to_ttl ≡ length (wire resource.name) + 8
  length-up_to_ttl = omega (arith, length-append up_to_class (to_be_bytes w32 resource.ttl.0), length-up_to_class)

  pub length-up_to_size : length up_to_size ≡ length (wire resource.name) + 10
  length-up_to_size = omega (arith, length-append up_to_ttl (to_be_bytes w16 (length resource.rdata)), length-up_to_ttl)

-- behind a record's name its head ends with four numbers, where the octets are long enough
pub head_from : (octets : List ℕ) (place after_name : ℕ) {name : Labels} {rtype class ttl size : ℕ}
    → NameFrom octets place name after_name → after_name + 10 ≤ length octets
    → rtype ≡ number_at octets after_name 2 → class ≡ number_at octets (after_name + 2) 2
    → ttl ≡ number_at octets (after_name + 4) 4 → size ≡ number_at octets (after_name + 8) 2
    → RecordHeadAt octets place name rtype class ttl (after_name + 10) size
head_from octets place after_name named within typed classed timed sized = record {
  after_name = after_name;
  named = named;
  typed = (omega (arith, within), typed);
  classed = (omega (arith, within), classed);
  timed = (omega (arith, within), timed);
  sized = (omega (arith, within), sized);
  starts = refl;
}

-- what is wrong with its RDATA is then wrong with the record
pub fault_behind : {octets : List ℕ} {place rtype class ttl start size : ℕ} {name : Labels} (number : ℕ) (error : DecodeError)
    → RecordHeadAt octets place name rtype class ttl start size → RdataFaultAt octets number rtype class start size error → FaultBehindHead octets number place error
fault_behind {rtype = rtype} {class = class} {ttl = ttl} {start = start} {size = size} {name = name} number error head fault = record {
  name = name;
  rtype = rtype;
  class = class;
  ttl = ttl;
  start = start;
  size = size;
  head = head;
  fault = fault;
}
