-- The RDATA of NSEC3 (RFC 5155 3.2).
use Rattle.std.specs.Prelude.{◌≡◌, ◌↔◌, ℕ, ◌<◌, ◌≤◌, IsTrue, List, length, drop}
use Rattle.dnsv_records.specs.declared.error.Field.{Field}
use Rattle.dnsv_records.specs.declared.error.Field.TheVariants.{Head, Salt, Hash, Bitmap as BitmapField}
use Rattle.dnsv_records.specs.declared.nsec3.Nsec3.{Nsec3}
use Rattle.dnsv_records.specs.declared.nsec3.UsableNsec3.{UsableNsec3}
use Rattle.dnsv_records.specs.Bitmap.{Bitmap, IsBitmap}
use Rattle.dnsv_names.specs.Octets.{number_at}
use Rattle.dnsv_records.specs.Layout.{IsCounted, BeginsWithCounted}

-- hash algorithm in 8 bits, flags in 8, iterations in 16, the salt and the next hash with their counts, and the type
-- bitmap
pub record IsNsec3 (rdata : List ℕ) (nsec3 : Nsec3) : Type 0 where
  pub head : 4 ≤ length rdata
  pub algorithm : nsec3.algorithm.0 ≡ number_at rdata 0 1
  pub flags : nsec3.flags.0 ≡ number_at rdata 1 1
  pub iterations : nsec3.parameters.iterations.0 ≡ number_at rdata 2 2
  pub behind_salt : List ℕ
  pub salt : IsCounted (drop 4 rdata) nsec3.parameters.salt behind_salt
  pub bits : List ℕ
  pub next_hash : IsCounted behind_salt nsec3.next_hash bits
  pub bitmap : Bitmap bits nsec3.types

-- the first field that isn't there or is wrong: the head, the salt, the hash, and the bitmap
abbrev pub Nsec3Fault : List ℕ → Field → Type 0
Nsec3Fault rdata Head = length rdata < 4
Nsec3Fault rdata Salt = (4 ≤ length rdata) × ¬ BeginsWithCounted (drop 4 rdata)
Nsec3Fault rdata Hash =
    (salt : List ℕ) × (rest : List ℕ) × IsCounted (drop 4 rdata) salt rest × ¬ BeginsWithCounted rest
Nsec3Fault rdata BitmapField =
    (salt : List ℕ) × (rest : List ℕ) × (hash : List ℕ) × (bits : List ℕ)
    × IsCounted (drop 4 rdata) salt rest × IsCounted rest hash bits × ¬ IsBitmap bits
Nsec3Fault rdata _ = ⊥

-- SHA-1, no flags but Opt-Out, a hash of 20 octets and few iterations
pub record IsUsable (nsec3 : Nsec3) : Type 0 where
  pub sha1 : nsec3.algorithm.0 ≡ 1
  pub flags : nsec3.flags.0 ≤ 1
  pub next_hash : length nsec3.next_hash ≡ 20
  pub iterations : nsec3.parameters.iterations.0 ≤ 500

-- the usable record by its parts: its flags are Opt-Out or none
pub record IsUsed (nsec3 : Nsec3) (used : UsableNsec3) : Type 0 where
  pub usable : IsUsable nsec3
  pub opt_out : IsTrue used.is_opt_out ↔ (nsec3.flags.0 ≡ 1)
  pub parameters : used.parameters.now ≡ nsec3.parameters
  pub next_hash : used.next_hash ≡ nsec3.next_hash
  pub types : used.types.now ≡ nsec3.types
