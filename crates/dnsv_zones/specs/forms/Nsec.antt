-- What NSEC records say of names (RFC 4035 5.4, RFC 4592, RFC 6840 4.1 and 4.3).
use Rattle.std.specs.Prelude.{ℕ, ◌⊎◌, List}
use Rattle.dnsv_names.specs.Name.{Labels, SameName, IsAtOrBelow}
use Rattle.dnsv_names.specs.Order.{canonical_cmp, IsBelow}
use Rattle.dnsv_names.specs.Circle.{Gap}
use Rattle.dnsv_zones.specs.Any.{Any}
use Rattle.dnsv_zones.specs.zones.Types.{IsClosed}
use Rattle.dnsv_zones.specs.chains.NsecChain.{NsecRecord, IsInBitmap}
use Rattle.dnsv_zones.specs.forms.Forms.{Words}

-- the name lies between the owner and the next one (RFC 4035 5.4)
abbrev pub Covers : NsecRecord → Labels → Type 0
Covers nsec name = Gap canonical_cmp nsec.owner nsec.next name

-- The record of a delegation or a DNAME above the name says nothing of the name (RFC 6840 4.1).
abbrev pub IsNoCutAbove : NsecRecord → Labels → Type 0
IsNoCutAbove nsec name = IsBelow name nsec.owner → ¬ IsClosed (IsInBitmap nsec.types)

-- no owner is at or below the name, since the next one isn't
pub record IsAbsentBy (nsec : NsecRecord) (name : Labels) : Type 0 where
  pub covers : Covers nsec name
  pub no_cut_above : IsNoCutAbove nsec name
  pub nothing_below : ¬ IsAtOrBelow nsec.next name

-- the name has no owner, and one below it: an empty non-terminal (RFC 4592 2.2.2), which owns no NSEC record, so that the next
-- owner's name shows it (RFC 4034 4.1.1)
pub record IsEmptyNonTerminalBy (nsec : NsecRecord) (name : Labels) : Type 0 where
  pub covers : Covers nsec name
  pub no_cut_above : IsNoCutAbove nsec name
  pub some_below : IsAtOrBelow nsec.next name

-- the record's owner or the next one is at or below the name
abbrev pub IsNodeBy : NsecRecord → Labels → Type 0
IsNodeBy nsec name = IsAtOrBelow nsec.owner name ⊎ IsAtOrBelow nsec.next name

-- the name is the owner, and its types are such
abbrev pub HasTypesBy : NsecRecord → Labels → ((ℕ → Type 0) → Type 0) → Type 0
HasTypesBy nsec name Says = SameName nsec.owner name × Says (IsInBitmap nsec.types)

-- what NSEC records of the zone with this apex say; that the apex is there they needn't
abbrev pub nsec_words : Labels → List NsecRecord → Words
nsec_words apex records = record {
  Encloser = λ name. SameName name apex ⊎ Any (λ nsec. IsNodeBy nsec name) records;
  Absent = λ name. Any (λ nsec. IsAbsentBy nsec name) records;
  EmptyNonTerminal = λ name. Any (λ nsec. IsEmptyNonTerminalBy nsec name) records;
  TypesAt = λ name Says. Any (λ nsec. HasTypesBy nsec name Says) records;
}
