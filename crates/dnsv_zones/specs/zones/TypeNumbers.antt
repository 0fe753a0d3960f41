-- The numbers of the record types that denials speak of (RFC 1035 3.2.2, RFC 6672 2.1, RFC 4034).
use Rattle.std.specs.Prelude.{ℕ}

abbrev pub ns : ℕ
ns = 2

abbrev pub cname : ℕ
cname = 5

abbrev pub soa : ℕ
soa = 6

abbrev pub dname : ℕ
dname = 39

abbrev pub ds : ℕ
ds = 43

abbrev pub rrsig : ℕ
rrsig = 46

abbrev pub nsec : ℕ
nsec = 47
