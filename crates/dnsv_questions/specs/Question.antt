-- A question: which type is asked for at which name (RFC 1035 4.1.2).
use Rattle.std.specs.Prelude.{◌≡◌, ◌≢◌, ℕ, IsTrue, []}
use Rattle.dnsv_names.specs.Name.{Labels}
use Rattle.dnsv_canonical.specs.Rrsets.{forms_rrsets}

-- the name, as it is spelled, and the type
pub record Asked : Type 0 where
  pub name : Labels
  pub rtype : ℕ

-- The type can be asked at the name: it forms RRsets, is neither NSEC nor NSEC3, and is not DS at the root.
pub record IsQuestion (name : Labels) (rtype : ℕ) : Type 0 where
  pub forms : IsTrue (forms_rrsets rtype)
  pub not_nsec : rtype ≢ 47
  pub not_nsec3 : rtype ≢ 50
  pub below_root : rtype ≡ 43 → name ≢ []
