-- The numbers of what keeps a text from being a file of trust anchors.
use Rattle.std.specs.Prelude.{ℕ}
use Rattle.dnsv_anchors.specs.declared.anchors.AnchorsError.{AnchorsError}
use Rattle.dnsv_anchors.specs.declared.anchors.AnchorsError.TheVariants.{OutOfMemory, Syntax, TooMany}

abbrev pub anchors_error_code : AnchorsError → ℕ
anchors_error_code OutOfMemory = 90
anchors_error_code (Syntax line) = 601
anchors_error_code (TooMany line) = 602
