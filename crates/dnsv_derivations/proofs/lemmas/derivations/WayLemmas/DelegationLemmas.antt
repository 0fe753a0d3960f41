-- How the first way into a DNSKEY RRset is found: the DS RRsets of its owner, by their numbers.
use Rattle.std.proofs.Common.{◌≡◌, ◌<◌, ◌≤◌, ◌+◌, ℕ, List, length, get_or, ap, ◌∙◌, subst, arith}
use Rattle.dnsv_names.specs.Name.{Labels, SameName}
use Rattle.dnsv_canonical.specs.Index.{numbers_at}
use Rattle.dnsv_canonical.specs.Rrsets.{IsNumbered, ReceivedRrset}
use Rattle.dnsv_canonical.proofs.NumberLemmas.{IsOneAt, one_numbered}
use Rattle.dnsv_derivations.specs.Explained.{Setting}
use Rattle.dnsv_derivations.specs.derivations.WaySearch.{IsNoWay, IsNoWayBefore, MayDelegate, number_or_end}
use Rattle.dnsv_derivations.specs.derivations.Ways.{HasSecured, IsWayInto, Way, voucher_rank}
use Rattle.dnsv_derivations.proofs.lemmas.IndexLemmas.{bound_past, bound_within, first_at_most, next_at_most, one_there}
use Rattle.dnsv_derivations.proofs.lemmas.derivations.WayLemmas.RankLemmas.{by_record, next_rrset, records_end, rrsets_passed}

module _ (setting : Setting) (k : ℕ) (set : ReceivedRrset) (is_set : IsNumbered setting.rrsets k set) where
  abbrev IsOneOf : ℕ → Type 0
  IsOneOf number = IsOneAt setting.rrsets set.owner 43 number

  -- the DS RRset of a way stands at the owner of the DNSKEY RRset, and is signed
  delegates : (way : Way) → IsWayInto setting k way → 1 ≤ (voucher_rank way.voucher).rrset
      → IsOneOf (voucher_rank way.voucher).rrset × HasSecured setting (voucher_rank way.voucher).rrset
  delegates way is counted =
      let by = by_record setting way.voucher way.key is.matched counted in
      let same : is.set ≡ set = one_numbered setting.rrsets k is.set set is.good.is_rrset is_set in
      let owner : way.key.owner ≡ set.owner = is.stands.owner ∙ ap (λ (each : ReceivedRrset). each.owner) same in
      let AtOwner : Labels → Type 0 = λ each. SameName by.1.rrset.owner each in (
        record {
          rrset = by.1.rrset;
          is_rrset = by.1.at.is_rrset;
          owner = subst AtOwner owner by.1.matching.same_owner;
          same_type = by.1.rtype;
        },
        by.2,
      )

  -- an RRset that isn't such a one is passed
  pub record_skipped : (ds : ReceivedRrset) (number : ℕ) → IsNumbered setting.rrsets number ds
      → ¬ MayDelegate setting number ds set.owner → IsNoWayBefore setting k number 0 → IsNoWayBefore setting k (number + 1) 0
  record_skipped ds number is_ds never = next_rrset setting k number 0 (λ way is here.
      let counted = is_ds.0 in
      let by = delegates way is (omega (arith, counted, here)) in
      let Numbered : ℕ → Type 0 = λ n. IsNumbered setting.rrsets n by.0.rrset in
      let same : by.0.rrset ≡ ds = one_numbered setting.rrsets number by.0.rrset ds (subst Numbered here by.0.is_rrset) is_ds in
      absurd (never (subst (λ (T : Type 0). T) (λ i. MayDelegate setting (here i) (same i) set.owner)
      (record { rtype = by.0.same_type; owner = by.0.owner; secured = by.1 }))))

  -- those are passed among which none is of the owner
  passed : (from to : ℕ) → 1 ≤ from → ((number : ℕ) → IsOneOf number → from ≤ number → to ≤ number)
      → IsNoWayBefore setting k from 0 → IsNoWayBefore setting k to 0
  passed from to counted behind = rrsets_passed setting k from to
      (λ way is later. behind (voucher_rank way.voucher).rrset (delegates way is (omega (arith, counted, later))).0 later)

  module _ (numbers : List ℕ) (are : numbers ≡ numbers_at setting.rrsets set.owner 43) where
    abbrev bound : ℕ → ℕ
    bound i = number_or_end setting.rrsets numbers i

    pub delegations_begin : IsNoWayBefore setting k 1 0 → IsNoWayBefore setting k (bound 0) 0
    delegations_begin = passed 1 (bound 0) (omega arith)
        (λ number one from. first_at_most setting.rrsets set.owner 43 numbers are number one)

    pub delegation_next : (i : ℕ) → i < length numbers → IsNoWayBefore setting k (bound i) 0
        → IsNoWayBefore setting k (get_or numbers i 0) 0
    delegation_next i within none =
        let Before : ℕ → Type 0 = λ n. IsNoWayBefore setting k n 0 in
        subst Before (bound_within setting.rrsets set.owner 43 numbers are i within) none

    pub delegations_more : (i : ℕ) → i < length numbers → IsNoWayBefore setting k (get_or numbers i 0 + 1) 0
        → IsNoWayBefore setting k (bound (i + 1)) 0
    delegations_more i within = passed (get_or numbers i 0 + 1) (bound (i + 1)) (omega arith)
        (λ number one from. next_at_most setting.rrsets set.owner 43 numbers are i number within (omega (arith, from)) one)

    pub delegations_end : (n : ℕ) → length numbers ≤ n → IsNoWayBefore setting k (bound n) 0 → IsNoWay setting k
    delegations_end n past =
        let last = bound_past setting.rrsets set.owner 43 numbers are n past in
        records_end setting k (bound n) (omega (arith, last))

    -- each of the numbers is that of an RRset
    pub delegation_there : (i : ℕ) → i < length numbers
        → ¬ ((each : ReceivedRrset) → ¬ IsNumbered setting.rrsets (get_or numbers i 0) each)
    delegation_there i within none =
        let one = one_there setting.rrsets set.owner 43 numbers are i within in none one.rrset one.is_rrset
