-- What is kept of trust says what trust is.
use Rattle.std.proofs.Common.{◌≡◌, ◌<◌, ◌≤◌, ◌-◌, ◌==◌, ℕ, Bool, true, false, cond, Some, Vec, List, [], ◌∷◌, ◌++◌, length, get_or, map, nat_eq, if◌then◌else◌, suc, zero, refl, sym, ap, ◌∙◌, subst, arith, ⊎_elim, append_assoc}
use Rattle.std.proofs.lemmas.Bool.{cases_lt}
use Rattle.std.proofs.lemmas.Bool.Decides.{nat_tests}
use Rattle.std.proofs.lemmas.List.{get_or-map, length-map, get_or_past}
use Rattle.std.proofs.lemmas.List.Elements.{Contains-get_or, Contains-append_left, Contains-append_right, Contains-push}
use Rattle.std.proofs.lemmas.List.Kept.{Contains-from_dedup}
use Rattle.std.proofs.lemmas.List.Sorted.{Contains-permutation, IsPermutation-sym}
use Rattle.std.proofs.lemmas.Option.{slice_get_within, slice_get-get_or, get_or_from_slice_get}
use Rattle.std.specs.Cmp.Lexicographic.{pointwise}
use Rattle.std.specs.List.{AllZip, Contains, dedup, slice_get}
use Rattle.std.specs.List.Sorted.{IsPermutation, IsSorted, IsStrictlySortedBy}
use Rattle.std.specs.Map.{lookup}
use Rattle.std.specs.Option.{option_map_or}
use Rattle.dnsv_names.specs.Name.{Labels, SameName, same_name}
use Rattle.dnsv_anchors.specs.declared.by_owner.key.OwnerKey.{OwnerKey}
use Rattle.dnsv_records.specs.Dnskey.{IsDnskey}
use Rattle.dnsv_records.specs.declared.dnskey.Dnskey.{Dnskey}
use Rattle.dnsv_message.specs.declared.record.Section.TheVariants as section
use Rattle.dnsv_canonical.proofs.CanonicalLemmas.{IsCanonical-sorted}
use Rattle.dnsv_canonical.specs.Canonical.{IsCanonical, rdata_cmp}
use Rattle.dnsv_canonical.specs.Rrsets.{IsNumbered, ReceivedRrset}
use Rattle.dnsv_verifier.specs.Admissible.{DnskeyRecord}
use Rattle.dnsv_verifier.specs.declared.answer.Answer.{Answer}
use Rattle.dnsv_verifier.specs.declared.entry.Entry.{Entry}
use Rattle.dnsv_chain.specs.Trust.{AreSecured, AreTrustedKeys, IsTrustOf, KeptTrust, keys_among, keys_of}
use Rattle.dnsv_chain.specs.Trusted.{IsSecured}
use Rattle.dnsv_chain.specs.Chain.{AreKeysByOwner}
use Rattle.dnsv_chain.specs.Kept.{AreDistinct, AreKeysOf, AreSigned, AreZonesBefore, IsKept, IsZoneOf}
use Rattle.dnsv_chain.specs.Signing.{AreGoodNumbers, IsGoodNumber}
use Rattle.dnsv_anchors.specs.declared.anchor.Anchor.{Anchor}
use Rattle.dnsv_chain.proofs.WalkLemmas.{same_rdata_good}
use Rattle.dnsv_chain.proofs.ZipLemmas.{zip_at, zip_length, zip_push}

-- ---- the keys of each zone

-- what a sort by RDATA and a `dedup` leave
pub are_distinct : (records : List DnskeyRecord) (received sorted kept : List (List ℕ × Dnskey)) → received ≡ map (λ key. (key.rdata, key.dnskey)) records
    → IsPermutation received sorted → IsSorted (λ a b. rdata_cmp a.0 b.0) sorted → kept ≡ dedup (λ a b. pointwise nat_eq a.0 b.0) sorted
    → AreDistinct records kept
are_distinct records received sorted kept is moved ordered left =
    let octets : List ℕ × Dnskey → List ℕ = λ each. each.0 in
    let canonical : IsCanonical (map octets received) (map octets kept) = IsCanonical-sorted octets received sorted kept moved ordered left in
    record {
      among = λ each among.
          let there : Contains sorted each =
          Contains-from_dedup (λ a b. pointwise nat_eq a.0 b.0) sorted each (subst (λ (list : List (List ℕ × Dnskey)). Contains list each) left among) in
          subst (λ (list : List (List ℕ × Dnskey)). Contains list each) is (Contains-permutation sorted received each (IsPermutation-sym received sorted moved) there);
      canonical = subst (λ (rdata : List (List ℕ)). IsCanonical rdata (map octets kept)) (ap (map octets) is ∙ firsts records) canonical;
    }
  where
    firsts : (records : List DnskeyRecord) → map (λ (each : List ℕ × Dnskey). each.0) (map (λ key. (key.rdata, key.dnskey)) records) ≡ map (λ key. key.rdata) records
    firsts [] = refl
    firsts (r ∷ records) = ap (λ rest. r.rdata ∷ rest) (firsts records)

no_keys : AreKeysOf [] []
unfolding IsStrictlySortedBy
no_keys = record {
  distinct = [];
  are = record { among = λ each among. among; canonical = record { rising = tt; members = λ x. (λ among. among, λ among. among) } };
  keys_are = refl;
}

module _ {Y : Type 0} where
  -- one owner more
  pub zone_more : (all rest : List (OwnerKey × Vec DnskeyRecord Y)) (kept : OwnerKey × Vec DnskeyRecord Y) (zones : List (Labels × List Dnskey)) (zone : Labels × List Dnskey)
      → IsZoneOf kept zone → AreZonesBefore all (kept ∷ rest) zones → AreZonesBefore all rest (zones ++ zone ∷ [])
  zone_more all rest kept zones zone is before = record {
    done = before.done ++ kept ∷ [];
    parted = append_assoc before.done (kept ∷ []) rest ∙ before.parted;
    each = zip_push IsZoneOf before.done zones kept zone before.each is;
  }

  pub zones_found : (entries : List (OwnerKey × Vec DnskeyRecord Y)) (zones : List (Labels × List Dnskey)) (name : Labels) → AllZip IsZoneOf entries zones
      → AreKeysOf (option_map_or (λ kept. kept.items) (lookup (λ key. same_name name key.0) entries) []) (keys_among zones name)
  zones_found [] [] name each = no_keys
  zones_found [] (z ∷ zones) name each = absurd each
  zones_found (e ∷ entries) [] name each = absurd each
  zones_found (e ∷ entries) (z ∷ zones) name each =
      subst (λ (owner : Labels). AreKeysOf (option_map_or (λ kept. kept.items) (cond (same_name name e.0.0) (Some e.1) (lookup (λ key. same_name name key.0) entries)) []) (option_map_or (λ keys. keys) (cond (same_name name owner) (Some z.1) (lookup (λ zone. same_name name zone) zones)) [])) (sym each.0.0)
      (elim (same_name name e.0.0) as (λ b. AreKeysOf (option_map_or (λ kept. kept.items) (cond b (Some e.1) (lookup (λ key. same_name name key.0) entries)) []) (option_map_or (λ keys. keys) (cond b (Some z.1) (lookup (λ zone. same_name name zone) zones)) [])) [
        | true ↦ each.0.1
        | false ↦ zones_found entries zones name each.1
      ])

-- ---- trust

key_with : (keys : List DnskeyRecord) (rdata : List ℕ) → Contains (map (λ key. key.rdata) keys) rdata → (key : DnskeyRecord) × Contains keys key × (key.rdata ≡ rdata)
key_with keys rdata among =
    let k : ℕ = among.0 in
    let size : length (map (λ (key : DnskeyRecord). key.rdata) keys) ≡ length keys = length-map keys (λ (key : DnskeyRecord). key.rdata) in
    let below : k < length (map (λ (key : DnskeyRecord). key.rdata) keys) = among.1 in
    let within : k < length keys = omega (arith, below, size) in
    let d : DnskeyRecord = record { owner = []; rdata = rdata; dnskey = record { flags = record { 0 = 0 }; protocol = 0; algorithm = record { 0 = 0 }; key = [] } } in
    (get_or keys k d, Contains-get_or keys k d within, sym (get_or-map (λ (key : DnskeyRecord). key.rdata) keys k d rdata within) ∙ among.2)

with_rdata : (keys : List DnskeyRecord) (key : DnskeyRecord) → Contains keys key → Contains (map (λ key. key.rdata) keys) key.rdata
with_rdata keys key among =
    let k : ℕ = among.0 in
    let size : length (map (λ (key : DnskeyRecord). key.rdata) keys) ≡ length keys = length-map keys (λ (key : DnskeyRecord). key.rdata) in
    let within : k < length keys = among.1 in
    (k, omega (arith, within, size), get_or-map (λ (key : DnskeyRecord). key.rdata) keys k key key.rdata within ∙ ap (λ (x : DnskeyRecord). x.rdata) among.2)

-- RDATA and what it is read as, from a record
key_said : (keys : List DnskeyRecord) (each : List ℕ × Dnskey) → Contains (map (λ key. (key.rdata, key.dnskey)) keys) each
    → (key : DnskeyRecord) × Contains keys key × ((key.rdata, key.dnskey) ≡ each)
key_said keys each among =
    let k : ℕ = among.0 in
    let said : DnskeyRecord → List ℕ × Dnskey = λ key. (key.rdata, key.dnskey) in
    let size : length (map said keys) ≡ length keys = length-map keys said in
    let below : k < length (map said keys) = among.1 in
    let within : k < length keys = omega (arith, below, size) in
    let d : DnskeyRecord = record { owner = []; rdata = each.0; dnskey = each.1 } in
    (get_or keys k d, Contains-get_or keys k d within, sym (get_or-map said keys k d each within) ∙ among.2)

each_read : (xs : List (List ℕ × Dnskey)) → ((each : List ℕ × Dnskey) → Contains xs each → IsDnskey each.0 each.1)
    → AllZip IsDnskey (map (λ each. each.0) xs) (map (λ each. each.1) xs)
each_read [] read = tt
each_read (x ∷ xs) read = (
  read x (Contains-append_left (x ∷ []) xs x (Contains-push [] x)),
  each_read xs (λ each among. read each (Contains-append_right (x ∷ []) xs each among)),
)

never_zero : (k : ℕ) → (suc k == 0) ≡ false
never_zero k = grind (arith, nat_tests)

module _ (m : Entry → Answer) (t : ℕ) (rs : List ReceivedRrset) (anchors : List Anchor) (keys : Labels → List DnskeyRecord) (are : AreKeysByOwner m t rs anchors keys) where
  trusted_keys_of : (zone : Labels) (list : List Dnskey) → AreKeysOf (keys zone) list → AreTrustedKeys m t rs anchors zone list
  trusted_keys_of zone list kept = record {
    rdata = map (λ each. each.0) kept.distinct;
    read = subst (λ (dnskeys : List Dnskey). AllZip IsDnskey (map (λ each. each.0) kept.distinct) dnskeys) (sym kept.keys_are)
        (each_read kept.distinct (λ each among.
        let key = key_said (keys zone) each (kept.are.among each among) in
        subst (λ (said : List ℕ × Dnskey). IsDnskey said.0 said.1) key.2 (are.are zone key.0 key.1).stands.is));
    rising = kept.are.canonical.rising;
    members = λ octets. (
      λ among.
          let key = key_with (keys zone) octets ((kept.are.canonical.members octets).0 among) in
          let trusted = are.are zone key.0 key.1 in
          record { set = trusted.set; trusted = trusted.trusted; owner = trusted.owner; among = subst (λ (rdata : List ℕ). Contains trusted.set.rdata rdata) key.2 trusted.stands.among },
      λ trusted.
          let has = are.all trusted.set trusted.trusted octets trusted.among in
          let there : Contains (keys zone) has.0 = subst (λ (records : List DnskeyRecord). Contains records has.0) (are.same trusted.set.owner zone trusted.owner) has.1 in
          (kept.are.canonical.members octets).1 (subst (λ (rdata : List ℕ). Contains (map (λ key. key.rdata) (keys zone)) rdata) has.2 (with_rdata (keys zone) has.0 there)),
    );
  }

  secured_of_number : (k s : ℕ) (rrset : ReceivedRrset) → IsNumbered rs k rrset → IsGoodNumber m t rrset keys s → IsSecured m t rs anchors k s
  secured_of_number k s rrset numbered number =
      let key = are.are number.rrsig.signer number.good.key number.good.among in
      record {
        rrset = rrset;
        numbered = numbered;
        rdata = number.rdata;
        signature = number.signature;
        rrsig = number.rrsig;
        is = number.is;
        good = record { set = key.set; trusted = key.trusted; key = number.good.key; stands = key.stands; good = number.good.good };
      }

  number_of_secured : (k s : ℕ) (rrset : ReceivedRrset) → IsNumbered rs k rrset → IsSecured m t rs anchors k s → IsGoodNumber m t rrset keys s
  number_of_secured k s rrset numbered secured =
      let first : get_or rs (k - 1) rrset ≡ rrset = get_or_from_slice_get rs (k - 1) rrset rrset numbered.1 in
      let second : get_or rs (k - 1) rrset ≡ secured.rrset = get_or_from_slice_get rs (k - 1) secured.rrset rrset secured.numbered.1 in
      let same : secured.rrset ≡ rrset = sym second ∙ first in
      subst (λ (r : ReceivedRrset). IsGoodNumber m t r keys s) same (number_of secured)
    where
      number_of : (secured : IsSecured m t rs anchors k s) → IsGoodNumber m t secured.rrset keys s
      number_of secured =
          let by = secured.good in
          let rrsig = secured.rrsig in
          let has = are.all by.set by.trusted by.key.rdata by.stands.among in
          let signer : SameName by.set.owner rrsig.signer =
          subst (λ (owner : Labels). SameName owner rrsig.signer) by.stands.owner by.good.admissible.zone_key.owner in
          let among : Contains (keys rrsig.signer) has.0 = subst (λ (list : List DnskeyRecord). Contains list has.0) (are.same by.set.owner rrsig.signer signer) has.1 in
          let key = are.are rrsig.signer has.0 among in
          let owner : SameName has.0.owner rrsig.signer = subst (λ (name : Labels). SameName name rrsig.signer) (sym key.stands.owner) key.owner in
          record {
            rdata = secured.rdata;
            signature = secured.signature;
            rrsig = rrsig;
            is = secured.is;
            good = record {
              key = has.0;
              among = among;
              good = same_rdata_good m t secured.rrset rrsig by.key has.0 by.stands.is key.stands.is has.2 owner by.good;
            };
          }

  none_secured : (k : ℕ) → ((rrset : ReceivedRrset) → IsNumbered rs k rrset → ⊥) → AreSecured m t rs anchors k []
  none_secured k none = record {
    rising = λ j below. absurd (omega (arith, below));
    members = λ s. (
      λ among. let below = among.1 in absurd (omega (arith, below)),
      λ secured. absurd (none secured.rrset secured.numbered),
    );
  }

  secured_at : (signed : List (List ℕ)) → AreSigned m t rs keys signed → (k : ℕ) → AreSecured m t rs anchors k (if k == 0 then [] else get_or signed (k - 1) [])
  secured_at signed each zero = none_secured zero (λ rrset numbered. let positive = numbered.0 in omega (arith, positive))
  secured_at signed each (suc k) =
      let sizes : length rs ≡ length signed = zip_length (λ (rrset : ReceivedRrset) (numbers : List ℕ). AreGoodNumbers m t rrset keys numbers) rs signed each in
      let place : suc k - 1 ≡ k = omega arith in
      let at_place : AreSecured m t rs anchors (suc k) (get_or signed k []) =
      ⊎_elim
      (λ (within : k < length rs).
      let d : ReceivedRrset = record { message = 0; section = section.Answer; owner = []; rtype = 0; rdata = []; signatures = [] } in
      let rrset : ReceivedRrset = get_or rs k d in
      let numbered : IsNumbered rs (suc k) rrset = (omega arith, ap (λ (j : ℕ). slice_get rs j) place ∙ slice_get-get_or rs k d within) in
      let good : AreGoodNumbers m t rrset keys (get_or signed k []) =
      zip_at (λ (r : ReceivedRrset) (numbers : List ℕ). AreGoodNumbers m t r keys numbers) rs signed k d [] each within in
      record {
        rising = good.rising;
        members = λ s. (
          λ among. secured_of_number (suc k) s rrset numbered ((good.members s).0 among),
          λ secured. (good.members s).1 (number_of_secured (suc k) s rrset numbered secured),
        );
      })
      (λ (past : length rs ≤ k).
      subst (λ (numbers : List ℕ). AreSecured m t rs anchors (suc k) numbers) (sym (get_or_past signed k [] (omega (arith, past, sizes))))
      (none_secured (suc k) (λ rrset numbered. let within = slice_get_within rs (suc k - 1) rrset numbered.1 in omega (arith, within, past))))
      (cases_lt k (length rs)) in
      subst (λ (numbers : List ℕ). AreSecured m t rs anchors (suc k) numbers) (ap (λ (j : ℕ). get_or signed j []) (sym place) ∙ not_zero k (get_or signed (suc k - 1) [])) at_place
    where
      not_zero : (k : ℕ) (numbers : List ℕ) → numbers ≡ (if suc k == 0 then [] else numbers)
      not_zero k numbers = ap (λ (b : Bool). if b then [] else numbers) (sym (never_zero k))

  pub is_trust_of : (trust : KeptTrust) → IsKept m t rs keys trust → IsTrustOf m t rs anchors trust
  is_trust_of trust kept = record {
    keys = λ zone. trusted_keys_of zone (keys_of trust zone) (kept.keys_are zone);
    signed = λ k. secured_at trust.signed kept.signed_are k;
  }
