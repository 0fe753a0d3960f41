-- What NSEC and NSEC3 records say of names, where `At Says index` is that the record with the index is such.
use Rattle.dnsv_names.specs.Name.{Labels, SameName}
use Rattle.dnsv_zones.specs.chains.Nsec3Chain.{Nsec3Record, NameHash}
use Rattle.dnsv_zones.specs.chains.NsecChain.{NsecRecord}
use Rattle.dnsv_zones.specs.forms.Nsec.{HasTypesBy, IsAbsentBy, IsEmptyNonTerminalBy, IsNodeBy}
use Rattle.dnsv_zones.specs.forms.Nsec3 as by_nsec3
use Rattle.dnsv_zones.specs.forms.RecordWords.{RecordWords}

-- NSEC records of the zone with this apex; that the apex is there they needn't say (RFC 4035 5.4)
abbrev pub nsec_records_say : {Index : Type 0} → Labels → ((NsecRecord → Type 0) → Index → Type 0) → RecordWords Index
nsec_records_say apex At = record {
  NeedsNone = λ name. SameName name apex;
  Encloser = λ name. At (λ nsec. IsNodeBy nsec name);
  Absent = λ name. At (λ nsec. IsAbsentBy nsec name);
  EmptyNonTerminal = λ name. At (λ nsec. IsEmptyNonTerminalBy nsec name);
  TypesAt = λ name Says. At (λ nsec. HasTypesBy nsec name Says);
  OptedOut = λ name index. ⊥;
}

-- NSEC3 records, by this hash (RFC 5155 8)
abbrev pub nsec3_records_say
    : {Index : Type 0} → NameHash → ((Nsec3Record → Type 0) → Index → Type 0) → RecordWords Index
nsec3_records_say hash At = record {
  NeedsNone = λ name. ⊥;
  Encloser = λ name. At (λ nsec3. by_nsec3.IsEncloserBy hash nsec3 name);
  Absent = λ name. At (λ nsec3. by_nsec3.IsAbsentBy hash nsec3 name);
  EmptyNonTerminal = λ name index. ⊥;
  TypesAt = λ name Says. At (λ nsec3. by_nsec3.HasTypesBy hash nsec3 name Says);
  OptedOut = λ name. At (λ nsec3. by_nsec3.IsOptedOutBy hash nsec3 name);
}
