-- Which keys a DNSKEY RRset is the first of its owner to have. No public clause cites this module.
use Rattle.std.specs.Prelude.{◌≡◌, ◌⊎◌, ◌<◌, ◌≤◌, ℕ, List, Contains, get_or, length}
use Rattle.dnsv_names.specs.Name.{Labels, SameName}
use Rattle.dnsv_records.specs.Dnskey.KeyTag.{key_tag_of}
use Rattle.dnsv_canonical.specs.Rrsets.{IsNumbered, ReceivedRrset}
use Rattle.dnsv_chain.specs.Trusted.{IsTrusted}
use Rattle.dnsv_derivations.specs.Explained.{Setting}
use Rattle.dnsv_derivations.specs.declared.derivations.ways.kept.NewKey.{NewKey}

-- ---- what an RRset before has

-- RRset k is one of the first n, and a trusted DNSKEY RRset
pub record IsKeySetTo (setting : Setting) (n k : ℕ) : Type 0 where
  pub within : k ≤ n
  pub set : ReceivedRrset
  pub is_set : IsNumbered setting.rrsets k set
  pub rtype : set.rtype ≡ 48
  pub trusted : IsTrusted setting.meaning setting.moment setting.rrsets setting.anchors set

-- and has the RDATA
pub record IsHadBy (setting : Setting) (n k : ℕ) (rdata : List ℕ) : Type 0 where
  pub is : IsKeySetTo setting n k
  pub has : Contains is.set.rdata rdata

-- one of those whose owner is this has the RDATA
pub record IsHadAbove (setting : Setting) (n : ℕ) (owner : Labels) (rdata : List ℕ) : Type 0 where
  pub number : ℕ
  pub by : IsHadBy setting n number rdata
  pub same_owner : SameName by.is.set.owner owner

-- ---- what it has itself

-- the key of the RRset is that of the RDATA, by its place and its tag
pub record IsNewKey (set : ReceivedRrset) (rdata : List ℕ) (key : NewKey) : Type 0 where
  pub within : key.place < length set.rdata
  pub at : get_or set.rdata key.place rdata ≡ rdata
  pub tag : key.tag.0 ≡ key_tag_of rdata

-- one of the keys is
abbrev pub IsAmongNew : ReceivedRrset → List ℕ → List NewKey → Type 0
IsAmongNew set rdata keys = (key : NewKey) × Contains keys key × IsNewKey set rdata key

-- one of the keys is that of the RDATA, or a trusted DNSKEY RRset of the owner among the first n has it
abbrev pub IsThere : Setting → ℕ → ReceivedRrset → List NewKey → List ℕ → Type 0
IsThere setting n set keys rdata = IsAmongNew set rdata keys ⊎ IsHadAbove setting n set.owner rdata

-- so is each RDATA of the RRset
abbrev pub AreNewKeys : Setting → ℕ → ReceivedRrset → List NewKey → Type 0
AreNewKeys setting n set keys = (rdata : List ℕ) → Contains set.rdata rdata → IsThere setting n set keys rdata
