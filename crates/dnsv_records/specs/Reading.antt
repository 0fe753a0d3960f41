-- What a reader of RDATA refuses: the first field that is not there or is wrong.
use Rattle.std.specs.Prelude.{Result, Ok, Err, ⊤}
use Rattle.dnsv_records.specs.declared.error.Field.{Field}
use Rattle.dnsv_records.specs.declared.error.RecordError.{RecordError}
use Rattle.dnsv_records.specs.declared.error.RecordError.TheVariants.{BadRdata}

-- the error names a field at fault
abbrev pub NamesFault : RecordError → (Field → Type 0) → Type 0
NamesFault (BadRdata field) IsFault = IsFault field

-- where the answer names a field, that field is at fault
abbrev pub IsFirstFault : {T : Type 0} → Result T RecordError → (Field → Type 0) → Type 0
IsFirstFault (Ok value) IsFault = ⊤
IsFirstFault (Err error) IsFault = NamesFault error IsFault
