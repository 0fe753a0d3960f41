-- Where each alias has one target (RFC 2181 10.1), whatever signatures make it secure.
use Rattle.std.specs.Prelude.{◌≡◌, ◌⊎◌, ℕ, List, Contains}
use Rattle.dnsv_names.specs.Name.{Labels, SameName}
use Rattle.dnsv_zones.specs.zones.TypeNumbers.{cname}
use Rattle.dnsv_canonical.specs.Rrsets.{IsNumbered, ReceivedRrset}
use Rattle.dnsv_verdict.specs.Way.{IsTarget}
use Rattle.dnsv_verdict.specs.declared.link.Link.{Link}

-- RRset k is a CNAME RRset that the name owns
abbrev pub IsCnameOf : List ReceivedRrset → Labels → ℕ → Type 0
IsCnameOf rrsets name k =
    (rrset : ReceivedRrset) × IsNumbered rrsets k rrset × SameName rrset.owner name × (rrset.rtype ≡ cname)

-- Each CNAME RRset of the evidence that the name of a link owns has the target of the link. The last name owns none, or
-- CNAME is asked.
pub record HaveOneTarget (rrsets : List ReceivedRrset) (t : ℕ) (links : List Link) (last : Labels) : Type 0 where
  pub one : (link : Link) → Contains links link → (k : ℕ) → IsCnameOf rrsets link.name k
      → (target : Labels) → IsTarget rrsets link.rrset target → IsTarget rrsets k target
  pub ends : (t ≡ cname) ⊎ ((k : ℕ) → ¬ IsCnameOf rrsets last k)
