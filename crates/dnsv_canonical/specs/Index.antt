-- The RRsets of a name and type, by their numbers.
pub mod Grouping
pub mod Merging
use Rattle.std.specs.Prelude.{ℕ, ◌==◌, ◌&&◌, Bool, List, filter, map}
use Rattle.std.specs.List.{enumerate_from}
use Rattle.dnsv_names.specs.Name.{Labels, same_name}
use Rattle.dnsv_canonical.specs.Rrsets.{ReceivedRrset}

-- whether the RRset is of the name, without regard to case, and of the type
abbrev pub is_at : Labels → ℕ → ReceivedRrset → Bool
is_at name rtype rrset = same_name rrset.owner name && (rrset.rtype == rtype)

-- the numbers of the RRsets of the name and type, rising, where RRsets are numbered from 1 on
abbrev pub numbers_at : List ReceivedRrset → Labels → ℕ → List ℕ
numbers_at rrsets name rtype =
    map (λ numbered. numbered.0) (filter (λ numbered. is_at name rtype numbered.1) (enumerate_from 1 rrsets))
