-- What NSEC3 records with the same parameters say of names (RFC 5155 8).
use Rattle.std.specs.Prelude.{◌≡◌, ◌≢◌, ℕ, List}
use Rattle.dnsv_names.specs.Name.{Labels}
use Rattle.dnsv_names.specs.Order.{label_cmp}
use Rattle.dnsv_names.specs.Circle.{Gap}
use Rattle.dnsv_zones.specs.Any.{Any}
use Rattle.dnsv_zones.specs.zones.Types.{IsClosed}
use Rattle.dnsv_zones.specs.chains.NsecChain.{IsInBitmap}
use Rattle.dnsv_zones.specs.chains.Nsec3Chain.{Nsec3Record, NameHash}
use Rattle.dnsv_zones.specs.forms.Forms.{OptedOutNextCloser, OptOut, Words}

-- the record has the name's hash (RFC 5155 1.3)
pub record Matches (hash : NameHash) (nsec3 : Nsec3Record) (name : Labels) : Type 0 where
  pub same_parameters : nsec3.parameters ≡ hash.parameters
  pub same_hash : nsec3.hash ≡ hash.of name

-- the name's hash lies between the record's and the next one (RFC 5155 1.3)
pub record Covers (hash : NameHash) (nsec3 : Nsec3Record) (name : Labels) : Type 0 where
  pub same_parameters : nsec3.parameters ≡ hash.parameters
  pub gap : Gap label_cmp nsec3.hash nsec3.next (hash.of name)

-- the name is a node below which the zone may go on: no delegation, and with no DNAME (RFC 5155 8.3)
abbrev pub IsEncloserBy : NameHash → Nsec3Record → Labels → Type 0
IsEncloserBy hash nsec3 name = Matches hash nsec3 name × ¬ IsClosed (IsInBitmap nsec3.types)

-- the name is no node: only a cover without the Opt-Out flag says so (RFC 5155 6)
abbrev pub IsAbsentBy : NameHash → Nsec3Record → Labels → Type 0
IsAbsentBy hash nsec3 name = Covers hash nsec3 name × (nsec3.flags ≡ 0)

-- the record is the name's, and its types are such
abbrev pub HasTypesBy : NameHash → Nsec3Record → Labels → ((ℕ → Type 0) → Type 0) → Type 0
HasTypesBy hash nsec3 name Says = Matches hash nsec3 name × Says (IsInBitmap nsec3.types)

-- a cover with the Opt-Out flag (RFC 5155 6)
abbrev pub IsOptedOutBy : NameHash → Nsec3Record → Labels → Type 0
IsOptedOutBy hash nsec3 name = Covers hash nsec3 name × (nsec3.flags ≢ 0)

-- what NSEC3 records with the hash's parameters say
abbrev pub nsec3_words : NameHash → List Nsec3Record → Words
nsec3_words hash records = record {
  Encloser = λ name. Any (λ nsec3. IsEncloserBy hash nsec3 name) records;
  Absent = λ name. Any (λ nsec3. IsAbsentBy hash nsec3 name) records;
  EmptyNonTerminal = λ name. ⊥;
  TypesAt = λ name Says. Any (λ nsec3. HasTypesBy hash nsec3 name Says) records;
}

-- some record covers the name
abbrev pub IsCovered : NameHash → List Nsec3Record → Labels → Type 0
IsCovered hash records name = Any (λ nsec3. Covers hash nsec3 name) records

-- some record with the Opt-Out flag covers the name
abbrev pub IsOptedOut : NameHash → List Nsec3Record → Labels → Type 0
IsOptedOut hash records name = Any (λ nsec3. IsOptedOutBy hash nsec3 name) records

-- these records leave open that an unsigned delegation lies at or below the next closer name, or at the wildcard beside
-- it
abbrev pub OptOutForm : NameHash → List Nsec3Record → Labels → Labels → ℕ → Type 0
OptOutForm hash records =
    OptOut (λ name. (nsec3_words hash records).Encloser name) (IsCovered hash records) (IsOptedOut hash records)

-- they leave open that one stands against an answer from the wildcard
abbrev pub OptedOutNextCloserForm : NameHash → List Nsec3Record → Labels → Labels → ℕ → Type 0
OptedOutNextCloserForm hash records = OptedOutNextCloser (IsOptedOut hash records)
