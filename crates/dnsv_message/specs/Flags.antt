-- The bits of a header's second number (RFC 1035 4.1.1), of which the highest is QR.
use Rattle.std.specs.Prelude.{◌≡◌, ℕ, bit_and}

-- QR, the first bit, is set
abbrev pub HasQR : ℕ → Type 0
HasQR flags = bit_and flags 0x8000 ≡ 0x8000

-- TC, the seventh bit, is set
abbrev pub HasTC : ℕ → Type 0
HasTC flags = bit_and flags 0x0200 ≡ 0x0200
