-- What a compact list says are the entries that it was made of.
use Rattle.std.proofs.Common.{◌≡◌, ◌+◌, ◌-◌, ◌==◌, ◌&&◌, ℕ, zero, suc, Bool, true, false, List, [], ◌∷◌, ◌++◌, Some, refl, sym, ap, subst, ◌∙◌, arith}
use Rattle.std.proofs.lemmas.Bool.Decides.{nat_tests}
use Rattle.std.proofs.lemmas.List.Elements.{Contains-append_left, Contains-append_right}
use Rattle.std.specs.List.{Contains, flat_map}
use Rattle.std.specs.Prelude.{slice_get}
use Rattle.dnsv_names.specs.Name.{Labels}
use Rattle.dnsv_records.specs.Rrsig.{IsRrsig}
use Rattle.dnsv_records.specs.declared.rrsig.Rrsig.{Rrsig}
use Rattle.dnsv_records.proofs.OneRecord.{one_rrsig}
use Rattle.dnsv_canonical.specs.Rrsets.{ReceivedRrset}
use Rattle.dnsv_canonical.specs.SignedData.{IsSignedData, signed_front, signed_owner, signed_record}
use Rattle.dnsv_canonical.proofs.CanonicalLemmas.{canonical_unique}
use Rattle.dnsv_verifier.specs.declared.entry.Entry.{Entry}
use Rattle.dnsv_compact.specs.CompactList.{AreInPlaces, Gives, IsCompactList, IsListedIf, IsListedRrset, IsPlaceOf, IsRrsetListedIf, ListContents, ListedRrset, ListedSignature, ListsRrsets, ListsSignatures, listed_signature, names_rrset, names_signature}
use Rattle.dnsv_compact.specs.ReadBack.{SayEach, Says, octets_behind}
use Rattle.dnsv_compact.specs.declared.place.Place.{Place}
use Rattle.dnsv_compact_laws.proofs.ListLemmas.{any_true, contains_here, contains_later}
use Rattle.dnsv_compact_laws.proofs.OwnerLemmas.{owner_lower}

-- ---- what is signed

-- the octets put together again are those that are signed
pub octets_again : (todo : List Place) (number : ℕ) (received : ReceivedRrset) (listed : ListedRrset) (rrsig : Rrsig) (octets : List ℕ)
    → IsListedRrset todo number received listed → IsSignedData received.owner received.rtype received.rdata rrsig (Some octets)
    → octets ≡ octets_behind listed (signed_front rrsig)
octets_again todo number received listed rrsig octets is signs =
    let put : Labels → ℕ → List (List ℕ) → List ℕ = λ owner rtype rdata.
    signed_front rrsig ++ flat_map (signed_record owner rtype rrsig.original_ttl.0) rdata in
    let owner : signed_owner received.owner rrsig.labels ≡ signed_owner listed.owner rrsig.labels =
    sym (owner_lower received.owner rrsig.labels) ∙ ap (λ (o : Labels). signed_owner o rrsig.labels) (sym is.owner) in
    signs.3 ∙ ap (put (signed_owner received.owner rrsig.labels) received.rtype) (canonical_unique _ signs.1 listed.rdata signs.2 is.rdata)
    ∙ ap (λ (o : Labels). put o received.rtype listed.rdata) owner
    ∙ ap (λ (t : ℕ). put (signed_owner listed.owner rrsig.labels) t listed.rdata) (sym is.rtype)

-- ---- what is listed of what is named

listed_if : (named : Bool) (number : ℕ) (rrsig : Rrsig) (front : List ListedSignature) → named ≡ true → IsListedIf named number rrsig front
    → Contains front (listed_signature number rrsig)
listed_if true number rrsig front is listed = subst (λ (each : List ListedSignature). Contains each (listed_signature number rrsig)) (sym listed) (contains_here _ [])
listed_if false number rrsig front is listed = absurd (cc)

pub signature_there : (todo : List Place) (rrset number place : ℕ) (signatures : List (List ℕ)) (listed : List ListedSignature) (rdata : List ℕ) (rrsig : Rrsig)
    → ListsSignatures todo rrset number signatures listed → slice_get signatures place ≡ Some rdata → IsRrsig rdata rrsig
    → names_signature todo rrset (number + place) ≡ true → Contains listed (listed_signature (number + place) rrsig)
signature_there todo rrset number place [] listed rdata rrsig lists at reads named = absurd (cc)
signature_there todo rrset number zero (first ∷ signatures) listed rdata rrsig lists at reads named =
    let here : number + zero ≡ number = omega arith in
    let same : first ≡ rdata = cc in
    let one : lists.0 ≡ rrsig = one_rrsig rdata lists.0 rrsig (subst (λ (each : List ℕ). IsRrsig each lists.0) same lists.3) reads in
    let front : Contains lists.1 (listed_signature number lists.0) =
    listed_if (names_signature todo rrset number) number lists.0 lists.1 (subst (λ (n : ℕ). names_signature todo rrset n ≡ true) here named) lists.4 in
    subst (λ (each : List ListedSignature). Contains each (listed_signature (number + zero) rrsig)) (sym lists.6)
    (Contains-append_left lists.1 lists.2 _
    (subst (λ (n : ℕ). Contains lists.1 (listed_signature n rrsig)) (sym here)
    (subst (λ (each : Rrsig). Contains lists.1 (listed_signature number each)) one front)))
signature_there todo rrset number (suc place) (first ∷ signatures) listed rdata rrsig lists at reads named =
    let next : suc number + place ≡ number + suc place = omega arith in
    let later : Contains lists.2 (listed_signature (suc number + place) rrsig) =
    signature_there todo rrset (suc number) place signatures lists.2 rdata rrsig lists.5 at reads
    (subst (λ (n : ℕ). names_signature todo rrset n ≡ true) (sym next) named) in
    subst (λ (each : List ListedSignature). Contains each (listed_signature (number + suc place) rrsig)) (sym lists.6)
    (Contains-append_right lists.1 lists.2 _ (subst (λ (n : ℕ). Contains lists.2 (listed_signature n rrsig)) next later))

-- an RRset that is listed
pub record IsThere (todo : List Place) (number : ℕ) (received : ReceivedRrset) (listed : List ListedRrset) : Type 0 where
  pub rrset : ListedRrset
  pub among : Contains listed rrset
  pub is : IsListedRrset todo number received rrset

rrset_if : (named : Bool) (todo : List Place) (number : ℕ) (received : ReceivedRrset) (front : List ListedRrset) → named ≡ true
    → IsRrsetListedIf named todo number received front → IsThere todo number received front
rrset_if true todo number received front is listed = record {
  rrset = listed.0;
  among = subst (λ (each : List ListedRrset). Contains each listed.0) (sym listed.2) (contains_here listed.0 []);
  is = listed.1;
}
rrset_if false todo number received front is listed = absurd (cc)

pub rrset_there : (todo : List Place) (number place : ℕ) (rrsets : List ReceivedRrset) (listed : List ListedRrset) (received : ReceivedRrset)
    → ListsRrsets todo number rrsets listed → slice_get rrsets place ≡ Some received → names_rrset todo (number + place) ≡ true
    → IsThere todo (number + place) received listed
rrset_there todo number place [] listed received lists at named = absurd (cc)
rrset_there todo number zero (first ∷ rrsets) listed received lists at named =
    let here : number + zero ≡ number = omega arith in
    let same : first ≡ received = cc in
    let there : IsThere todo number first lists.0 =
    rrset_if (names_rrset todo number) todo number first lists.0 (subst (λ (n : ℕ). names_rrset todo n ≡ true) here named) lists.2 in
    record {
      rrset = there.rrset;
      among = subst (λ (each : List ListedRrset). Contains each there.rrset) (sym lists.4) (Contains-append_left lists.0 lists.1 there.rrset there.among);
      is = subst (λ (n : ℕ). IsListedRrset todo n received there.rrset) (sym here)
          (subst (λ (each : ReceivedRrset). IsListedRrset todo number each there.rrset) same there.is);
    }
rrset_there todo number (suc place) (first ∷ rrsets) listed received lists at named =
    let next : suc number + place ≡ number + suc place = omega arith in
    let there : IsThere todo (suc number + place) received lists.1 =
    rrset_there todo (suc number) place rrsets lists.1 received lists.3 at (subst (λ (n : ℕ). names_rrset todo n ≡ true) (sym next) named) in
    record {
      rrset = there.rrset;
      among = subst (λ (each : List ListedRrset). Contains each there.rrset) (sym lists.4) (Contains-append_right lists.0 lists.1 there.rrset there.among);
      is = subst (λ (n : ℕ). IsListedRrset todo n received there.rrset) next there.is;
    }

-- ---- the entries

place_named : (todo : List Place) (place : Place) → Contains todo place → names_rrset todo place.rrset ≡ true
place_named todo place there =
    any_true (λ each. each.rrset == place.rrset) todo place there (let test : (place.rrset == place.rrset) ≡ true = grind (arith, nat_tests) in test)

place_signature : (todo : List Place) (place : Place) → Contains todo place → names_signature todo place.rrset place.signature ≡ true
place_signature todo place there =
    any_true (λ each. (each.rrset == place.rrset) && (each.signature == place.signature)) todo place there
    (let test : ((place.rrset == place.rrset) && (place.signature == place.signature)) ≡ true = grind (arith, nat_tests) in test)

place_says : (from to : ℕ) (rrsets : List ReceivedRrset) (contents : ListContents) (entry : Entry) (place : Place)
    → ListsRrsets contents.todo 1 rrsets contents.rrsets → IsPlaceOf from to rrsets contents.keys entry place → Contains contents.todo place
    → Says contents place entry
place_says from to rrsets contents entry place lists is there =
    let gives : Gives from to rrsets entry place.rrset place.signature = is.signature.gives in
    let number : 1 + (place.rrset - 1) ≡ place.rrset = omega (arith, gives.numbered.0) in
    let own : 1 + (place.signature - 1) ≡ place.signature = omega (arith, gives.its.0) in
    let found : IsThere contents.todo (1 + (place.rrset - 1)) gives.received contents.rrsets =
    rrset_there contents.todo 1 (place.rrset - 1) rrsets contents.rrsets gives.received lists gives.numbered.1
    (subst (λ (n : ℕ). names_rrset contents.todo n ≡ true) (sym number) (place_named contents.todo place there)) in
    let listed : IsListedRrset contents.todo place.rrset gives.received found.rrset =
    subst (λ (n : ℕ). IsListedRrset contents.todo n gives.received found.rrset) number found.is in
    let signature : Contains found.rrset.signatures (listed_signature (1 + (place.signature - 1)) gives.rrsig) =
    signature_there contents.todo place.rrset 1 (place.signature - 1) gives.received.signatures found.rrset.signatures gives.rdata gives.rrsig
    listed.signatures gives.its.1 gives.reads
    (subst (λ (n : ℕ). names_signature contents.todo place.rrset n ≡ true) (sym own) (place_signature contents.todo place there)) in
    record {
      key = record { algorithm = entry.algorithm; key = entry.key };
      its_key = is.key;
      algorithm = refl;
      octets = refl;
      rrset = found.rrset;
      among = found.among;
      its_number = listed.is_number;
      signature = listed_signature place.signature gives.rrsig;
      made = subst (λ (n : ℕ). Contains found.rrset.signatures (listed_signature n gives.rrsig)) own signature;
      its_own = refl;
      signed = octets_again contents.todo place.rrset gives.received found.rrset gives.rrsig entry.signed_data listed gives.signs;
      by = gives.is;
    }

say_each : (from to : ℕ) (rrsets : List ReceivedRrset) (contents : ListContents) (entries : List Entry) (places : List Place)
    → ListsRrsets contents.todo 1 rrsets contents.rrsets → AreInPlaces from to rrsets contents.keys entries places
    → ((place : Place) → Contains places place → Contains contents.todo place) → SayEach contents places entries
say_each from to rrsets contents [] [] lists are within = tt
say_each from to rrsets contents [] (place ∷ places) lists are within = absurd are
say_each from to rrsets contents (entry ∷ entries) [] lists are within = absurd are
say_each from to rrsets contents (entry ∷ entries) (place ∷ places) lists are within = (
  place_says from to rrsets contents entry place lists are.0 (within place (contains_here place places)),
  say_each from to rrsets contents entries places lists are.1 (λ other there. within other (contains_later place places other there)),
)

pub reads_back : (from to : ℕ) (rrsets : List ReceivedRrset) (entries : List Entry) (contents : ListContents)
    → IsCompactList from to rrsets entries contents → SayEach contents contents.todo entries
reads_back from to rrsets entries contents is =
    say_each from to rrsets contents entries contents.todo is.listed is.places.each (λ place there. there)
