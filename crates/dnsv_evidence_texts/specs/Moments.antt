-- The moments that a list is for, as JSON has them.
use Rattle.std.specs.Prelude.{ℕ, List, [], ◌∷◌, codes}
use Rattle.std.specs.Fmt.{decimal}
use Rattle.dnsv_answers.specs.declared.heading.Moments.{Moments}
use Rattle.dnsv_answers.specs.declared.heading.Moments.TheVariants.{At, Between}
use Rattle.dnsv_lines.specs.Json.{member}

-- one moment, or the first and the last of a range, in seconds since 1970
abbrev pub moments_members : Moments → List (List ℕ)
moments_members (At moment) = member (codes "moment") (decimal moment) ∷ []
moments_members (Between from to) = member (codes "from") (decimal from) ∷ member (codes "to") (decimal to) ∷ []
