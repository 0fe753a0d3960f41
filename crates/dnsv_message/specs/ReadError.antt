-- The numbers of what goes wrong in reading a file.
use Rattle.std.specs.Prelude.{ℕ}
use Rattle.dnsv_message.specs.declared.errors.ReadError.{ReadError}
use Rattle.dnsv_message.specs.declared.errors.ReadError.TheVariants.{OutOfMemory, Read, TooLong, ZeroLength, TornFrame}

-- the number of an error, by which programs tell it
abbrev pub read_error_code : ReadError → ℕ
read_error_code OutOfMemory = 90
read_error_code Read = 210
read_error_code TooLong = 211
read_error_code ZeroLength = 208
read_error_code TornFrame = 209

-- what goes wrong with a file of any octets
abbrev pub IsFileError : ReadError → Type 0
IsFileError OutOfMemory = Unit {0}
IsFileError Read = Unit {0}
IsFileError TooLong = Unit {0}
IsFileError _ = ⊥
