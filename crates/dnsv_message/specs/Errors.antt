-- The errors of a message, and their numbers.
use Rattle.std.specs.Prelude.{ℕ}
use Rattle.dnsv_message.specs.declared.errors.NameFault.{NameFault}
use Rattle.dnsv_message.specs.declared.errors.NameFault.TheVariants as name
use Rattle.dnsv_message.specs.declared.errors.DecodeError.{DecodeError}
use Rattle.dnsv_message.specs.declared.errors.DecodeError.TheVariants.{OutOfMemory, Short, BadLabel, BadPointer, TooManyPointers, LongName, BadRdata, TrailingBytes}

-- a name's fault as the message's
abbrev pub decode_error_of : NameFault → DecodeError
decode_error_of name.Short = Short
decode_error_of name.BadLabel = BadLabel
decode_error_of name.BadPointer = BadPointer
decode_error_of name.TooManyPointers = TooManyPointers
decode_error_of name.LongName = LongName

-- the number that a person is told
abbrev pub decode_error_code : DecodeError → ℕ
decode_error_code OutOfMemory = 90
decode_error_code Short = 201
decode_error_code BadLabel = 202
decode_error_code BadPointer = 203
decode_error_code TooManyPointers = 204
decode_error_code LongName = 205
decode_error_code (BadRdata number) = 206
decode_error_code TrailingBytes = 207
