-- The heading of a file of answers: of which list they are.
use Rattle.std.specs.Prelude.{◌≡◌, ◌<◌, ℕ, List, [], ◌∷◌, Ok, codes, length}
use Rattle.std.specs.Fmt.{decimal}
use Rattle.hex.specs.Hex.{decode_of}
use Rattle.dnsv_names.specs.Lines.{AreFields}
use Rattle.dnsv_answers.specs.declared.heading.Heading.{Heading}
use Rattle.dnsv_answers.specs.declared.heading.Moments.{Moments}
use Rattle.dnsv_answers.specs.declared.heading.Moments.TheVariants.{At, Between}

-- the decimal digits of a moment, in seconds since 1970, up to 2^48 - 1
pub record SaysMoment (digits : List ℕ) (moment : ℕ) : Type 0 where
  pub is : digits ≡ decimal moment
  pub fits : moment < 281474976710656

-- the hex digits of a SHA-256, in either case
pub record SaysDigest (digits digest : List ℕ) : Type 0 where
  pub size : length digits ≡ 64
  pub decoded : decode_of digits ≡ Ok digest

-- the fields behind the digest: a moment, or the first and the last of a range
abbrev pub AreMoments : List (List ℕ) → Moments → Type 0
AreMoments fields (At moment) = (digits : List ℕ) × (fields ≡ digits ∷ []) × SaysMoment digits moment
AreMoments fields (Between first last) =
    (from : List ℕ) × (to : List ℕ) × (fields ≡ from ∷ to ∷ []) × SaysMoment from first × SaysMoment to last

-- the fields of a heading: `of`, the digest of a capture, and the moment or the range that the list was made for
pub record SaysHeading (fields : List (List ℕ)) (heading : Heading) : Type 0 where
  pub digest : List ℕ
  pub behind : List (List ℕ)
  pub are : fields ≡ codes "of" ∷ digest ∷ behind
  pub is_digest : SaysDigest digest heading.digest
  pub moments : AreMoments behind heading.moments

-- a line with these fields
abbrev pub IsHeading : List ℕ → Heading → Type 0
IsHeading line heading = (fields : List (List ℕ)) × AreFields line fields × SaysHeading fields heading
