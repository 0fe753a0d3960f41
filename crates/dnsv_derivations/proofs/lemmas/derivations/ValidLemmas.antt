-- Which of the keys of an RRset a verifier calls a signature valid under.
use Rattle.std.proofs.Common.{◌≡◌, ◌≢◌, ◌⊎◌, inl, inr, ◌<◌, ◌≤◌, ◌+◌, ◌-◌, ℕ, List, Option, Some, None, length, sym, ap, ◌∙◌, subst, ⊎_elim, arith}
use Rattle.std.proofs.lemmas.Bool.{cases_lt}
use Rattle.std.proofs.lemmas.Cmp.{nat_list_cmp_total}
use Rattle.std.proofs.lemmas.Option.{slice_get-get_or}
use Rattle.std.specs.List.{Contains, slice_get}
use Rattle.std.specs.declared.cmp.Ordering.TheVariants.{Less}
use Rattle.dnsv_records.specs.declared.rrsig.Rrsig.{Rrsig}
use Rattle.dnsv_canonical.specs.Canonical.{rdata_cmp}
use Rattle.dnsv_canonical.specs.Rrsets.{IsNumbered, ReceivedRrset}
use Rattle.dnsv_canonical.specs.declared.number.SignatureNumber.{SignatureNumber}
use Rattle.dnsv_verifier.specs.Admissible.{DnskeyRecord, IsAdmissible, IsEntryOf, IsGood, MayHaveMade}
use Rattle.dnsv_verifier.specs.declared.answer.Answer.{Answer}
use Rattle.dnsv_verifier.specs.declared.entry.Entry.{Entry}
use Rattle.dnsv_chain.proofs.SigningLemmas.GoodLemmas.{good_if_valid}
use Rattle.dnsv_chain.specs.Signing.{IsValidBy}
use Rattle.dnsv_chain.specs.Trusted.{IsKeyOf}
use Rattle.dnsv_derivations.specs.Explained.{Setting}
use Rattle.dnsv_derivations.specs.derivations.NewKeys.{AreNewKeys, IsAmongNew, IsHadAbove}
use Rattle.dnsv_derivations.specs.derivations.SignerSearch.{IsFirstTo, IsKeyAt, IsLowestValid, IsSignatureAt, IsSignedOver, IsValidKey}
use Rattle.dnsv_derivations.specs.declared.derivations.ways.kept.NewKey.{NewKey}
use Rattle.dnsv_canonical.proofs.NumberLemmas.{one_numbered}
use Rattle.dnsv_derivations.proofs.lemmas.derivations.SignerLemmas.{as_known, itself_not_less, under_good}

-- where it is good under no key there is none
pub never_good : (setting : Setting) (number : SignatureNumber) (rrset : ReceivedRrset) (rrsig : Rrsig)
    → IsNumbered setting.rrsets number.rrset rrset → IsSignatureAt rrset number.signature rrsig
    → ((key : DnskeyRecord) → ¬ IsGood setting.meaning setting.moment rrset rrsig key) → (n : ℕ) → IsFirstTo setting number n None
never_good setting number rrset rrsig is_rrset its none n = λ k other below is.
    none other (under_good setting number rrset rrsig is_rrset its k is.set is.is_set is.rrset other is.good)

-- ---- one key more

module _ (meaning : Entry → Answer) (rrsig : Rrsig) (octets : List ℕ) (set : ReceivedRrset) (keys : List NewKey) (n : ℕ) (new : NewKey)
    (is_new : IsNumbered keys (n + 1) new) where
  abbrev Valid : DnskeyRecord → Type 0
  Valid key = IsValidBy meaning rrsig octets key

  -- of the first n + 1 keys one is among the first n, or is this one
  one_of : (P : NewKey → Type 0) (i : ℕ) (each : NewKey) → i ≤ n + 1 → IsNumbered keys i each → ((i ≤ n) → P each) → P new → P each
  one_of P i each below numbered earlier last = ⊎_elim
      (λ (behind : n < i).
      let place : i ≡ n + 1 = omega (arith, behind, below) in
      let At : ℕ → Type 0 = λ m. IsNumbered keys m each in
      subst P (one_numbered keys (n + 1) new each is_new (subst At place numbered)) last)
      (λ (within : i ≤ n). earlier within)
      (cases_lt n i)

  pub none_valid : (lowest : Option DnskeyRecord) → IsLowestValid meaning rrsig octets set keys n lowest
      → IsValidKey meaning rrsig octets set new None → IsLowestValid meaning rrsig octets set keys (n + 1) lowest
  none_valid None none never = λ i each key below numbered.
      one_of (λ x. IsKeyAt set x key → ¬ Valid key) i each below numbered (λ within at. none i each key within numbered at)
      (λ at. never key at)
  none_valid (Some low) lowest never = (
    lowest.0,
    lowest.1,
    λ i each key below numbered.
        one_of (λ x. IsKeyAt set x key → Valid key → rdata_cmp key.rdata low.rdata ≢ Less) i each below numbered
        (λ within at valid. lowest.2 i each key within numbered at valid) (λ at valid. absurd (never key at valid)),
  )

  pub first_valid : (found : DnskeyRecord) → IsLowestValid meaning rrsig octets set keys n None
      → IsValidKey meaning rrsig octets set new (Some found) → IsLowestValid meaning rrsig octets set keys (n + 1) (Some found)
  first_valid found none is = (
    is.0,
    is.1,
    λ i each key below numbered.
        one_of (λ x. IsKeyAt set x key → Valid key → rdata_cmp key.rdata found.rdata ≢ Less) i each below numbered
        (λ within at valid. absurd (none i each key within numbered at valid))
        (λ at valid. itself_not_less key.rdata found.rdata (is.2 key at)),
  )

  pub lower_valid : (low found : DnskeyRecord) → IsLowestValid meaning rrsig octets set keys n (Some low)
      → IsValidKey meaning rrsig octets set new (Some found) → rdata_cmp found.rdata low.rdata ≡ Less
      → IsLowestValid meaning rrsig octets set keys (n + 1) (Some found)
  lower_valid low found lowest is less = (
    is.0,
    is.1,
    λ i each key below numbered.
        one_of (λ x. IsKeyAt set x key → Valid key → rdata_cmp key.rdata found.rdata ≢ Less) i each below numbered
        (λ within at valid under. lowest.2 i each key within numbered at valid
        (nat_list_cmp_total.trans key.rdata found.rdata low.rdata under less))
        (λ at valid. itself_not_less key.rdata found.rdata (is.2 key at)),
  )

  pub not_lower_valid : (low found : DnskeyRecord) → IsLowestValid meaning rrsig octets set keys n (Some low)
      → IsValidKey meaning rrsig octets set new (Some found) → rdata_cmp found.rdata low.rdata ≢ Less
      → IsLowestValid meaning rrsig octets set keys (n + 1) (Some low)
  not_lower_valid low found lowest is never = (
    lowest.0,
    lowest.1,
    λ i each key below numbered.
        one_of (λ x. IsKeyAt set x key → Valid key → rdata_cmp key.rdata low.rdata ≢ Less) i each below numbered
        (λ within at valid. lowest.2 i each key within numbered at valid)
        (λ at valid. as_known found.rdata key.rdata low.rdata (sym (is.2 key at)) never),
  )

module _ (meaning : Entry → Answer) (rrsig : Rrsig) (octets : List ℕ) (set : ReceivedRrset) (keys : List NewKey) where
  pub none_yet : IsLowestValid meaning rrsig octets set keys 0 None
  none_yet = λ i new key below numbered. let from_one = numbered.0 in absurd (omega (arith, below, from_one))

  pub valid_to : (m n : ℕ) (lowest : Option DnskeyRecord) → m ≤ n → IsLowestValid meaning rrsig octets set keys n lowest
      → IsLowestValid meaning rrsig octets set keys m lowest
  valid_to m n None order none = λ i new key below. none i new key (omega (arith, order, below))
  valid_to m n (Some low) order lowest = (lowest.0, lowest.1, λ i new key below. lowest.2 i new key (omega (arith, order, below)))

-- ---- all of them

module _ (setting : Setting) (rrset : ReceivedRrset) (rrsig : Rrsig) (octets : List ℕ) (signed : IsSignedOver setting.moment rrset rrsig octets)
    (one : (key : DnskeyRecord) (a b : Entry) → IsEntryOf rrset rrsig key a → IsEntryOf rrset rrsig key b → a ≡ b) where
  abbrev Good : DnskeyRecord → Type 0
  Good key = IsGood setting.meaning setting.moment rrset rrsig key

  abbrev admissible : (key : DnskeyRecord) → MayHaveMade key rrsig → IsAdmissible setting.moment rrset rrsig key
  admissible key made = record {
    over = signed.verifiable.over;
    timely = signed.verifiable.timely;
    signer = signed.verifiable.signer;
    unexpanded = signed.verifiable.unexpanded;
    zone_key = made.zone_key;
    named = made.named;
  }

  pub valid_good : (key : DnskeyRecord) → IsValidBy setting.meaning rrsig octets key → Good key
  valid_good key valid =
      (good_if_valid setting.meaning setting.moment rrset rrsig key octets (admissible key valid.made) signed.signs (one key)).0 valid

  good_valid : (key : DnskeyRecord) → Good key → IsValidBy setting.meaning rrsig octets key
  good_valid key good =
      (good_if_valid setting.meaning setting.moment rrset rrsig key octets good.admissible signed.signs (one key)).1 good

  module _ (k : ℕ) (set : ReceivedRrset) (keys : List NewKey) (are : AreNewKeys setting (k - 1) set keys) where
    its_number : (new : NewKey) → (there : Contains keys new) → IsNumbered keys (there.0 + 1) new
    its_number new there =
        let place : there.0 + 1 - 1 ≡ there.0 = omega arith in (
          omega arith,
          ap (λ (p : ℕ). slice_get keys p) place ∙ slice_get-get_or keys there.0 new there.1 ∙ ap (λ x. Some x) there.2,
        )

    pub none_of_new : IsLowestValid setting.meaning rrsig octets set keys (length keys) None → (other : DnskeyRecord) → IsKeyOf set other
        → Good other → IsHadAbove setting (k - 1) set.owner other.rdata
    none_of_new none other stands good = ⊎_elim
        (λ (among : IsAmongNew set other.rdata keys).
        let within = among.1.1 in
        absurd (none (among.1.0 + 1) among.0 other (omega (arith, within)) (its_number among.0 among.1)
        (record { stands = stands; is = among.2 }) (good_valid other good)))
        (λ (above : IsHadAbove setting (k - 1) set.owner other.rdata). above)
        (are other.rdata stands.among)

    pub lowest_of_new : (lowest : DnskeyRecord) → IsLowestValid setting.meaning rrsig octets set keys (length keys) (Some lowest)
        → (other : DnskeyRecord) → IsKeyOf set other → Good other
        → (rdata_cmp other.rdata lowest.rdata ≢ Less) ⊎ IsHadAbove setting (k - 1) set.owner other.rdata
    lowest_of_new lowest is other stands good = ⊎_elim
        (λ (among : IsAmongNew set other.rdata keys).
        let within = among.1.1 in
        inl (is.2 (among.1.0 + 1) among.0 other (omega (arith, within)) (its_number among.0 among.1)
        (record { stands = stands; is = among.2 }) (good_valid other good)))
        (λ (above : IsHadAbove setting (k - 1) set.owner other.rdata). inr above)
        (are other.rdata stands.among)
