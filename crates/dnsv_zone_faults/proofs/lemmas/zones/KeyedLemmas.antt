-- A zone with its keys by their RDATA.
use Rattle.std.proofs.Common.{◌≡◌, ◌+◌, ◌<◌, ℕ, List, [], ◌∷◌, ◌++◌, Some, length, get_or, map, take, refl, sym, ap, ◌∙◌, subst, arith}
use Rattle.std.proofs.lemmas.List.{length-map, map-append, take_more}
use Rattle.std.proofs.lemmas.List.FromFn.{length-enumerate_from}
use Rattle.std.proofs.lemmas.List.Sorted.{length_permutation}
use Rattle.std.specs.Prelude.{Contains, IsPermutation, IsSortedByKey}
use Rattle.dnsv_canonical.specs.Canonical.{rdata_cmp}
use Rattle.dnsv_names.specs.Name.{Labels, SameName}
use Rattle.dnsv_records.specs.Dnskey.{IsDnskey}
use Rattle.dnsv_canonical.specs.Rrsets.{ReceivedRrset}
use Rattle.dnsv_records.specs.declared.dnskey.Dnskey.{Dnskey}
use Rattle.dnsv_rrsets.specs.declared.canonical_order.ReadRecord.{ReadRecord}
use Rattle.dnsv_verifier.specs.Admissible.{DnskeyRecord}
use Rattle.dnsv_zone_faults.specs.Dnskeys.DnskeySearch.{AreKeyed, AreVouched, IsKeyIn, IsSetOf, basis_in, rdata_of}
use Rattle.dnsv_zone_keys.specs.Keys.{IsKeyPlaced}
use Rattle.dnsv_zone_keys.specs.Keys.Index.{Placed}
use Rattle.dnsv_zone_keys.specs.Keys.ZoneSearch.{AreKeysOf}
use Rattle.dnsv_zone_faults.specs.declared.zone.keyed.KeyedZone.{KeyedZone}
use Rattle.dnsv_zone_keys.proofs.lemmas.OnceLemmas.{pair}
use Rattle.dnsv_zone_faults.proofs.lemmas.zones.PlaceLemmas.{record_placed}
use Rattle.dnsv_zone_keys.proofs.lemmas.VoucherLemmas.{zone_keys_moved}

abbrev pub octets : ReadRecord Dnskey → List ℕ
octets each = each.rdata.now

-- one key more, as it is read
pub more_rdata : (records : List (ReadRecord Dnskey)) (i : ℕ) (each : ReadRecord Dnskey) (old : List Placed) (made : Placed) → i < length records
    → each ≡ get_or records i each → made.key.rdata ≡ each.rdata.now → map rdata_of old ≡ map octets (take i records)
    → map rdata_of (old ++ made ∷ []) ≡ map octets (take (i + 1) records)
more_rdata records i each old made within at is are =
    let value : rdata_of made ≡ octets (get_or records i each) = is ∙ ap octets at in
    map-append rdata_of old (made ∷ []) ∙ (λ j. are j ++ value j ∷ []) ∙ sym (map-append octets (take i records) (get_or records i each ∷ []))
    ∙ ap (map octets) (sym (take_more records i each within))

pub keyed_is : (keyed : KeyedZone) (placed : List Placed) → AreKeysOf keyed.facts.now.rrsets keyed.zone.now placed → IsPermutation placed keyed.keys.items
    → IsSortedByKey rdata_of rdata_cmp keyed.keys.items → AreVouched (basis_in keyed) keyed.zone.now keyed.vouched → AreKeyed keyed
keyed_is keyed placed are moved sorted vouched = record {
  keys = zone_keys_moved keyed.facts.now.rrsets keyed.zone.now placed placed keyed.keys.items are refl moved;
  all = are.keys;
  are = are.are;
  count =
      let long = length_permutation placed keyed.keys.items moved in
      let mapped = length-map placed pair in
      let listed = ap (λ (each : List (ℕ × List ℕ)). length each) are.order in
      let all = length-enumerate_from 0 are.keys in
      omega (arith, long, mapped, listed, all);
  sorted = sorted;
  vouched = vouched;
}

-- a key of the zone that is found by its RDATA
module _ (keyed : KeyedZone) (are : AreKeyed keyed) (k : ℕ) (set : ReceivedRrset) (is : IsSetOf keyed.facts.now.rrsets keyed.zone.now k set) (key : DnskeyRecord)
    (owner : key.owner ≡ set.owner) (read : IsDnskey key.rdata key.dnskey) (among : Contains set.rdata key.rdata) where
  pub found_in : (found : Placed) → Contains keyed.keys.items found → found.key.rdata ≡ key.rdata
      → IsKeyIn keyed.facts.now.rrsets keyed.zone.now set (record { place = found.place; key = key })
  found_in found there same =
      let at = are.keys.each found there in record {
        at = record {
          keys = at.keys;
          are = at.are;
          at = at.at ∙ ap (λ (r : List ℕ). Some r) same;
          read = read;
          owner = subst (λ (name : Labels). SameName name keyed.zone.now) (sym owner) is.owner;
        };
        stands = record { rtype = is.rtype; owner = owner; among = among; is = read };
      }

  pub found_some : ((placed : Placed) → Contains keyed.keys.items placed → placed.key.rdata ≡ key.rdata → ⊥) → ⊥
  found_some none =
      let place = record_placed keyed.facts.now.rrsets keyed.zone.now are.all k set key.rdata are.are is among in
      let placed : IsKeyPlaced keyed.facts.now.rrsets keyed.zone.now place.0 key = record {
        keys = are.all;
        are = are.are;
        at = place.1;
        read = read;
        owner = subst (λ (name : Labels). SameName name keyed.zone.now) (sym owner) is.owner;
      } in
      let has = are.keys.every place.0 key placed in
      none has.placed has.among has.rdata
