-- The numbers of the errors of a capture.
use Rattle.std.specs.Prelude.{ℕ}
use Rattle.dnsv_canonical.specs.declared.capture.CaptureError.{CaptureError}
use Rattle.dnsv_canonical.specs.declared.capture.CaptureError.TheVariants.{OutOfMemory, NotAResponse, Truncated, BadRdata, Limit}

-- the number of an error, by which programs tell it
abbrev pub capture_error_code : CaptureError → ℕ
capture_error_code OutOfMemory = 90
capture_error_code NotAResponse = 401
capture_error_code Truncated = 402
capture_error_code (BadRdata number) = 206
capture_error_code Limit = 403
