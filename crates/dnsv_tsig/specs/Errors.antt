-- The errors of signed messages and key files, and their numbers.
use Rattle.std.specs.Prelude.{ℕ}
use Rattle.dnsv_message.specs.declared.errors.DecodeError.{DecodeError}
use Rattle.dnsv_message.specs.declared.errors.DecodeError.TheVariants as decode
use Rattle.dnsv_message.specs.Errors.{decode_error_code}
use Rattle.dnsv_tsig.specs.declared.error.TsigError.{TsigError}
use Rattle.dnsv_tsig.specs.declared.error.TsigError.TheVariants.{OutOfMemory, Unreadable, NoTsig, Form, BadKey, BadMac, BadTime, TruncatedMac, PeerError}
use Rattle.dnsv_tsig.specs.declared.error.KeyFileError.{KeyFileError}
use Rattle.dnsv_tsig.specs.declared.error.KeyFileError.TheVariants as key_file

-- what is told of octets that are not read as a message
abbrev pub unreadable_as : DecodeError → TsigError
unreadable_as decode.OutOfMemory = OutOfMemory
unreadable_as decode.Short = Unreadable decode.Short
unreadable_as decode.BadLabel = Unreadable decode.BadLabel
unreadable_as decode.BadPointer = Unreadable decode.BadPointer
unreadable_as decode.TooManyPointers = Unreadable decode.TooManyPointers
unreadable_as decode.LongName = Unreadable decode.LongName
unreadable_as (decode.BadRdata number) = Unreadable (decode.BadRdata number)
unreadable_as decode.TrailingBytes = Unreadable decode.TrailingBytes

-- the number that a person is told
abbrev pub tsig_error_code : TsigError → ℕ
tsig_error_code OutOfMemory = 90
tsig_error_code (Unreadable error) = decode_error_code error
tsig_error_code NoTsig = 310
tsig_error_code Form = 311
tsig_error_code BadKey = 312
tsig_error_code BadMac = 313
tsig_error_code BadTime = 314
tsig_error_code TruncatedMac = 315
tsig_error_code PeerError = 316

abbrev pub key_file_error_code : KeyFileError → ℕ
key_file_error_code key_file.OutOfMemory = 90
key_file_error_code (key_file.Syntax line) = 301
key_file_error_code (key_file.DuplicateKey line) = 302
