-- What matches a key: trust anchors, and records of DS RRsets, by their numbers.
use Rattle.std.proofs.Common.{◌≡◌, ◌≢◌, ◌≤◌, ◌+◌, ◌-◌, ℕ, List, Some, None, length, sym, ap, ◌∙◌, subst, arith}
use Rattle.std.proofs.lemmas.Bool.Decides.{nat_tests}
use Rattle.std.proofs.lemmas.Option.{slice_get_within}
use Rattle.std.specs.List.{AllZip, Contains}
use Rattle.dnsv_records.specs.Ds.{IsDs}
use Rattle.dnsv_records.specs.declared.ds.Ds.{Ds}
use Rattle.dnsv_canonical.specs.Rdata.{rdata_of_type}
use Rattle.dnsv_canonical.specs.Rrsets.{IsNumbered, ReceivedRrset}
use Rattle.dnsv_chain.proofs.ChainLemmas.{same_ds}
use Rattle.dnsv_chain.specs.Anchor.{IsAnchorMatch}
use Rattle.dnsv_chain.specs.Ds.{IsMatch}
use Rattle.dnsv_anchors.specs.declared.anchor.Anchor.{Anchor}
use Rattle.dnsv_canonical.specs.declared.number.RecordNumber.{RecordNumber}
use Rattle.dnsv_derivations.specs.Explained.{Setting}
use Rattle.dnsv_verifier.specs.Admissible.{DnskeyRecord}
use Rattle.dnsv_keys_in_question.specs.KeyLines.{IsLowestDs, IsLowestOf, IsMatchedByAnchor, IsMatchedByDs}
use Rattle.dnsv_derivations.specs.derivations.Ways.{record_at}
use Rattle.dnsv_canonical.proofs.NumberLemmas.{one_numbered}
use Rattle.dnsv_derivations.proofs.lemmas.derivations.WayLemmas.RankLemmas.{ds_read}

module _ (setting : Setting) (key : DnskeyRecord) where
  -- ---- anchors

  pub anchor_counted : (n : ℕ) → IsMatchedByAnchor setting key n → 1 ≤ n
  anchor_counted n is = is.1.0

  pub anchor_within : (n : ℕ) → IsMatchedByAnchor setting key n → n ≤ length setting.anchors
  anchor_within n is =
      let within = slice_get_within setting.anchors (n - 1) is.0 is.1.1 in
      let one = is.1.0 in omega (arith, within, one)

  pub anchor_never : (i : ℕ) (anchor : Anchor) → IsNumbered setting.anchors (i + 1) anchor → ¬ IsAnchorMatch anchor key
      → ¬ IsMatchedByAnchor setting key (i + 1)
  anchor_never i anchor numbered never = λ is.
      let Matches : Anchor → Type 0 = λ each. IsAnchorMatch each key in
      never (subst Matches (one_numbered setting.anchors (i + 1) is.0 anchor is.1 numbered) is.2)

  -- ---- DS records

  module _ (k : ℕ) (ds : ReceivedRrset) (is_ds : IsNumbered setting.rrsets k ds) where
    abbrev ByDs : ℕ → Type 0
    ByDs place = IsMatchedByDs setting key (record_at k place)

    its_rrset : (place : ℕ) (is : ByDs place) → is.1.rrset ≡ ds
    its_rrset place is = one_numbered setting.rrsets k is.1.rrset ds is.1.at.is_rrset is_ds

    pub ds_counted : (place : ℕ) → ByDs place → 1 ≤ place
    ds_counted place is = is.1.at.is_rdata.0

    -- none of an RRset of which no record matches
    pub unmatched : (values : List Ds) → AllZip IsDs (rdata_of_type 43 ds) values
        → ((each : Ds) → Contains values each → ¬ IsMatch ds.owner each key) → (place : ℕ) → ¬ ByDs place
    unmatched values read none place is =
        let rtype : ds.rtype ≡ 43 = sym (ap (λ (each : ReceivedRrset). each.rtype) (its_rrset place is)) ∙ is.1.rtype in
        let Read : ReceivedRrset → Type 0 = λ one. AllZip IsDs one.rdata is.1.records in
        let In : List Ds → Type 0 = λ all. Contains all is.1.ds in
        let Matches : ReceivedRrset → Type 0 = λ one. IsMatch one.owner is.1.ds key in
        let same : is.1.records ≡ values =
        same_ds ds.rdata is.1.records values (subst Read (its_rrset place is) is.1.are_read) (ds_read ds values rtype read) in
        none is.1.ds (subst In same is.1.among) (subst Matches (its_rrset place is) is.1.matching)

-- ---- the lowest record

module _ (setting : Setting) (key : DnskeyRecord) where
  -- no record of the RRsets up to the number matches
  abbrev NoneTo : ℕ → Type 0
  NoneTo n = (number : RecordNumber) → number.rrset ≤ n → ¬ IsMatchedByDs setting key number

  pub no_ds_first : NoneTo 0
  no_ds_first number below is = let one = is.1.at.is_rrset.0 in absurd (omega (arith, one, below))

  pub no_ds_next : (n : ℕ) → IsLowestOf (λ place. IsMatchedByDs setting key (record_at (n + 1) place)) None → NoneTo n → NoneTo (n + 1)
  no_ds_next n last none number below is =
      let By : ℕ → Type 0 = λ r. IsMatchedByDs setting key (record_at r number.place) in
      let earlier : ¬ (number.rrset ≤ n) = λ within. none number within is in
      let here : number.rrset ≢ n + 1 = λ same. last number.place (subst By same is) in grind (arith, nat_tests, below, earlier, here)

  pub ds_lowest : (n place : ℕ) → IsLowestOf (λ p. IsMatchedByDs setting key (record_at (n + 1) p)) (Some place) → NoneTo n
      → IsLowestDs setting key (Some (record_at (n + 1) place))
  ds_lowest n place lowest none = (
    lowest.0,
    λ other is less.
        let By : ℕ → Type 0 = λ r. IsMatchedByDs setting key (record_at r other.place) in
        let earlier : ¬ (other.rrset ≤ n) = λ within. none other within is in
        let here : other.rrset ≡ n + 1 → place ≤ other.place = λ same. lowest.1 other.place (subst By same is) in
        grind (arith, nat_tests, earlier, here, less),
  )

  pub no_ds_at_all : (n : ℕ) → length setting.rrsets ≤ n → NoneTo n → IsLowestDs setting key None
  no_ds_at_all n past none = λ number is.
      let within = slice_get_within setting.rrsets (number.rrset - 1) is.1.rrset is.1.at.is_rrset.1 in
      let one = is.1.at.is_rrset.0 in
      none number (omega (arith, within, one, past)) is
