-- What the evidence can settle about a question, in five cases of which the first that holds counts.
pub mod NoLess
use Rattle.std.specs.Prelude.{◌≢◌, ◌⊎◌, ℕ, List}
use Rattle.dnsv_names.specs.Name.{Labels}
use Rattle.dnsv_zones.specs.zones.TypeNumbers.{cname}
use Rattle.dnsv_canonical.specs.Rrsets.{ReceivedRrset}
use Rattle.dnsv_denial.specs.proving.FirstProof.{CanProveNoData, CanProveNoName, IsFirstNoData, IsFirstNoName}
use Rattle.dnsv_verdict.specs.Insecure.{IsUnsigned, IsUnsignedFrom}
use Rattle.dnsv_verdict.specs.Secure.{IsSecureSet, IsFirstSuch}
use Rattle.dnsv_verdict.specs.declared.verdict.Verdict.{Verdict}
use Rattle.dnsv_verdict.specs.declared.verdict.Verdict.TheVariants.{SecureAnswer, SecureAlias, SecureNoName, SecureNoData, Insecure, Pending, Bogus, Indeterminate}

-- ---- the cases

-- 1: an RRset of the name and type is secure
abbrev pub HasAnswer : (ℕ → ℕ → Type 0) → List ReceivedRrset → Labels → ℕ → Type 0
HasAnswer Secured rrsets name t = (k : ℕ) × (s : ℕ) × IsSecureSet Secured rrsets name t k s

-- 2: another type than CNAME is asked, and a CNAME RRset of the name is secure
abbrev pub HasAlias : (ℕ → ℕ → Type 0) → List ReceivedRrset → Labels → ℕ → Type 0
HasAlias Secured rrsets name t = (t ≢ cname) × HasAnswer Secured rrsets name cname

-- 3 is `CanProveNoName`, 4 is `CanProveNoData`, and 5 is `IsUnsigned`. One of the five holds.
abbrev pub IsSettled : (ℕ → ℕ → Type 0) → List ReceivedRrset → Labels → ℕ → Type 0
IsSettled Secured rrsets name t =
    HasAnswer Secured rrsets name t ⊎ HasAlias Secured rrsets name t ⊎ CanProveNoName Secured rrsets name
    ⊎ CanProveNoData Secured rrsets name t ⊎ IsUnsigned Secured rrsets name t

-- ---- the first that holds

-- the verdict is that of the first of the five cases that holds
abbrev pub IsSettledAs : (ℕ → ℕ → Type 0) → List ReceivedRrset → Labels → ℕ → Verdict → Type 0
IsSettledAs Secured rrsets name t (SecureAnswer k s) = IsFirstSuch (IsSecureSet Secured rrsets name t) k s
IsSettledAs Secured rrsets name t (SecureAlias k s) =
    (¬ HasAnswer Secured rrsets name t) × (t ≢ cname) × IsFirstSuch (IsSecureSet Secured rrsets name cname) k s
IsSettledAs Secured rrsets name t (SecureNoName proof) =
    (¬ HasAnswer Secured rrsets name t) × (¬ HasAlias Secured rrsets name t) × IsFirstNoName Secured rrsets name proof
IsSettledAs Secured rrsets name t (SecureNoData proof) =
    (¬ HasAnswer Secured rrsets name t) × (¬ HasAlias Secured rrsets name t) × (¬ CanProveNoName Secured rrsets name)
    × IsFirstNoData Secured rrsets name t proof
IsSettledAs Secured rrsets name t (Insecure cut) =
    (¬ HasAnswer Secured rrsets name t) × (¬ HasAlias Secured rrsets name t) × (¬ CanProveNoName Secured rrsets name)
    × (¬ CanProveNoData Secured rrsets name t) × IsUnsignedFrom Secured rrsets name t cut
IsSettledAs Secured rrsets name t (Pending entries) = ⊥
IsSettledAs Secured rrsets name t Bogus = ⊥
IsSettledAs Secured rrsets name t Indeterminate = ⊥
