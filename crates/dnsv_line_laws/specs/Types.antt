-- What the types of Rust say of what a line says.
use Rattle.std.specs.Prelude.{◌<◌, ◌^◌}
use Rattle.std.specs.List.{AllByRecursion}
use Rattle.dnsv_names.specs.Name.{IsName}
use Rattle.dnsv_lines.specs.Sentence.{Said, Name, Number, Rrset, SaidSentence}

-- a name is one, and a number has at most 64 bits
abbrev pub IsOfItsType : Said → Type 0
IsOfItsType (Name name) = IsName name
IsOfItsType (Number number) = number < 2 ^ 64
IsOfItsType (Rrset number) = number < 2 ^ 64
IsOfItsType _ = Unit {0}

-- so of each field
abbrev pub AreOfTheirTypes : SaidSentence → Type 0
AreOfTheirTypes sentence = AllByRecursion (λ field. IsOfItsType field.said) sentence.fields
