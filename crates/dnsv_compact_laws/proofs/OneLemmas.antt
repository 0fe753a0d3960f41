-- A compact list says one list of entries.
use Rattle.std.proofs.Common.{◌≡◌, ◌≤◌, ⊎_elim, ℕ, suc, Bool, true, false, List, [], ◌∷◌, refl, sym, ap, ap₂, subst, ◌∙◌}
use Rattle.std.specs.List.{Contains}
use Rattle.dnsv_canonical.specs.Rrsets.{ReceivedRrset}
use Rattle.dnsv_records.specs.declared.rrsig.Rrsig.{Rrsig}
use Rattle.dnsv_verifier.specs.declared.entry.Entry.{Entry}
use Rattle.dnsv_compact.specs.CompactList.{IsCompactList, IsListedIf, IsListedRrset, IsRrsetListedIf, ListContents, ListedRrset, ListedSignature, ListsRrsets, ListsSignatures, listed_signature, names_rrset, names_signature}
use Rattle.dnsv_compact.specs.ReadBack.{SayEach, Says, octets_behind}
use Rattle.dnsv_compact.specs.declared.key.ListedKey.{ListedKey}
use Rattle.dnsv_compact.specs.declared.place.Place.{Place}
use Rattle.dnsv_compact_laws.proofs.ListLemmas.{contains_none, contains_only, in_part, number_from, one_of_number}
use Rattle.dnsv_canonical.proofs.NumberLemmas.{one_numbered}
use Rattle.dnsv_compact_laws.proofs.ReadLemmas.{reads_back}

-- ---- signatures of one number

own_if : (named : Bool) (number : ℕ) (rrsig : Rrsig) (front : List ListedSignature) (x : ListedSignature) → IsListedIf named number rrsig front → Contains front x
    → x ≡ listed_signature number rrsig
own_if true number rrsig front x is there = contains_only front (listed_signature number rrsig) x is there
own_if false number rrsig front x is there = absurd (contains_none front x is there)

-- those that are listed have numbers from that of the first on
signature_from : (todo : List Place) (rrset number : ℕ) (signatures : List (List ℕ)) (listed : List ListedSignature) (x : ListedSignature)
    → ListsSignatures todo rrset number signatures listed → Contains listed x → number ≤ x.number
signature_from todo rrset number [] listed x lists there = absurd (contains_none listed x lists there)
signature_from todo rrset number (rdata ∷ signatures) listed x lists there =
    number_from (λ (each : ListedSignature). each.number) lists.1 lists.2 number x
    (λ front. ap (λ (each : ListedSignature). each.number) (own_if (names_signature todo rrset number) number lists.0 lists.1 x lists.4 front))
    (λ later. signature_from todo rrset (suc number) signatures lists.2 x lists.5 later)
    (in_part listed lists.1 lists.2 x lists.6 there)

one_signature : (todo : List Place) (rrset number : ℕ) (signatures : List (List ℕ)) (listed : List ListedSignature) (x y : ListedSignature)
    → ListsSignatures todo rrset number signatures listed → Contains listed x → Contains listed y → x.number ≡ y.number → x ≡ y
one_signature todo rrset number [] listed x y lists there_x there_y same = absurd (contains_none listed x lists there_x)
one_signature todo rrset number (rdata ∷ signatures) listed x y lists there_x there_y same =
    let own : (z : ListedSignature) → Contains lists.1 z → z ≡ listed_signature number lists.0 =
    λ z front. own_if (names_signature todo rrset number) number lists.0 lists.1 z lists.4 front in
    one_of_number (λ (each : ListedSignature). each.number) lists.1 lists.2 number x y same
    (λ z front. ap (λ (each : ListedSignature). each.number) (own z front))
    (λ z later. signature_from todo rrset (suc number) signatures lists.2 z lists.5 later)
    (λ front_x front_y. own x front_x ∙ sym (own y front_y))
    (λ later_x later_y. one_signature todo rrset (suc number) signatures lists.2 x y lists.5 later_x later_y same)
    (in_part listed lists.1 lists.2 x lists.6 there_x) (in_part listed lists.1 lists.2 y lists.6 there_y)

-- ---- RRsets of one number

-- what a listed RRset is listed of
record IsOf (todo : List Place) (x : ListedRrset) : Type 0 where
  pub number : ℕ
  pub received : ReceivedRrset
  pub is : IsListedRrset todo number received x

rrset_if : (named : Bool) (todo : List Place) (number : ℕ) (received : ReceivedRrset) (front : List ListedRrset) (x y : ListedRrset)
    → IsRrsetListedIf named todo number received front → Contains front x → Contains front y → x ≡ y
rrset_if true todo number received front x y is there_x there_y = contains_only front is.0 x is.2 there_x ∙ sym (contains_only front is.0 y is.2 there_y)
rrset_if false todo number received front x y is there_x there_y = absurd (contains_none front x is there_x)

rrset_of : (named : Bool) (todo : List Place) (number : ℕ) (received : ReceivedRrset) (front : List ListedRrset) (x : ListedRrset)
    → IsRrsetListedIf named todo number received front → Contains front x → IsListedRrset todo number received x
rrset_of true todo number received front x is there =
    subst (λ (each : ListedRrset). IsListedRrset todo number received each) (sym (contains_only front is.0 x is.2 there)) is.1
rrset_of false todo number received front x is there = absurd (contains_none front x is there)

rrset_source : (todo : List Place) (number : ℕ) (rrsets : List ReceivedRrset) (listed : List ListedRrset) (x : ListedRrset)
    → ListsRrsets todo number rrsets listed → Contains listed x → IsOf todo x
rrset_source todo number [] listed x lists there = absurd (contains_none listed x lists there)
rrset_source todo number (received ∷ rrsets) listed x lists there =
    ⊎_elim
    (λ (front : Contains lists.0 x). record {
      number = number;
      received = received;
      is = rrset_of (names_rrset todo number) todo number received lists.0 x lists.2 front;
    })
    (λ (later : Contains lists.1 x). rrset_source todo (suc number) rrsets lists.1 x lists.3 later)
    (in_part listed lists.0 lists.1 x lists.4 there)

rrset_from : (todo : List Place) (number : ℕ) (rrsets : List ReceivedRrset) (listed : List ListedRrset) (x : ListedRrset)
    → ListsRrsets todo number rrsets listed → Contains listed x → number ≤ x.number
rrset_from todo number [] listed x lists there = absurd (contains_none listed x lists there)
rrset_from todo number (received ∷ rrsets) listed x lists there =
    number_from (λ (each : ListedRrset). each.number) lists.0 lists.1 number x
    (λ front. (rrset_of (names_rrset todo number) todo number received lists.0 x lists.2 front).is_number)
    (λ later. rrset_from todo (suc number) rrsets lists.1 x lists.3 later)
    (in_part listed lists.0 lists.1 x lists.4 there)

one_rrset : (todo : List Place) (number : ℕ) (rrsets : List ReceivedRrset) (listed : List ListedRrset) (x y : ListedRrset)
    → ListsRrsets todo number rrsets listed → Contains listed x → Contains listed y → x.number ≡ y.number → x ≡ y
one_rrset todo number [] listed x y lists there_x there_y same = absurd (contains_none listed x lists there_x)
one_rrset todo number (received ∷ rrsets) listed x y lists there_x there_y same =
    one_of_number (λ (each : ListedRrset). each.number) lists.0 lists.1 number x y same
    (λ z front. (rrset_of (names_rrset todo number) todo number received lists.0 z lists.2 front).is_number)
    (λ z later. rrset_from todo (suc number) rrsets lists.1 z lists.3 later)
    (λ front_x front_y. rrset_if (names_rrset todo number) todo number received lists.0 x y lists.2 front_x front_y)
    (λ later_x later_y. one_rrset todo (suc number) rrsets lists.1 x y lists.3 later_x later_y same)
    (in_part listed lists.0 lists.1 x lists.4 there_x) (in_part listed lists.0 lists.1 y lists.4 there_y)

-- ---- entries

same_entry : (a b : Entry) → a.algorithm ≡ b.algorithm → a.key ≡ b.key → a.signed_data ≡ b.signed_data → a.signature ≡ b.signature → a ≡ b
same_entry a b algorithm key signed_data signature =
    λ i. record { algorithm = algorithm i; key = key i; signed_data = signed_data i; signature = signature i }

one_entry : (rrsets : List ReceivedRrset) (contents : ListContents) (place : Place) (a b : Entry)
    → ListsRrsets contents.todo 1 rrsets contents.rrsets → Says contents place a → Says contents place b → a ≡ b
one_entry rrsets contents place a b lists x y =
    let key : x.key ≡ y.key = one_numbered contents.keys place.key x.key y.key x.its_key y.its_key in
    let rrset : x.rrset ≡ y.rrset = one_rrset contents.todo 1 rrsets contents.rrsets x.rrset y.rrset lists x.among y.among (x.its_number ∙ sym y.its_number) in
    let of = rrset_source contents.todo 1 rrsets contents.rrsets x.rrset lists x.among in
    let signature : x.signature ≡ y.signature =
    one_signature contents.todo of.number 1 of.received.signatures x.rrset.signatures x.signature y.signature of.is.signatures x.made
    (subst (λ (each : ListedRrset). Contains each.signatures y.signature) (sym rrset) y.made) (x.its_own ∙ sym y.its_own) in
    same_entry a b
    (x.algorithm ∙ ap (λ (each : ListedKey). each.algorithm) key ∙ sym y.algorithm)
    (x.octets ∙ ap (λ (each : ListedKey). each.key) key ∙ sym y.octets)
    (x.signed ∙ ap₂ (λ (each : ListedRrset) (own : ListedSignature). octets_behind each own.front) rrset signature ∙ sym y.signed)
    (x.by ∙ ap (λ (each : ListedSignature). each.octets) signature ∙ sym y.by)

one_list : (rrsets : List ReceivedRrset) (contents : ListContents) (places : List Place) (x y : List Entry)
    → ListsRrsets contents.todo 1 rrsets contents.rrsets → SayEach contents places x → SayEach contents places y → x ≡ y
one_list rrsets contents [] [] [] lists says_x says_y = refl
one_list rrsets contents [] [] (b ∷ y) lists says_x says_y = absurd says_y
one_list rrsets contents [] (a ∷ x) y lists says_x says_y = absurd says_x
one_list rrsets contents (place ∷ places) [] y lists says_x says_y = absurd says_x
one_list rrsets contents (place ∷ places) (a ∷ x) [] lists says_x says_y = absurd says_y
one_list rrsets contents (place ∷ places) (a ∷ x) (b ∷ y) lists says_x says_y =
    ap₂ (λ (each : Entry) (rest : List Entry). each ∷ rest) (one_entry rrsets contents place a b lists says_x.0 says_y.0)
    (one_list rrsets contents places x y lists says_x.1 says_y.1)

pub one_reading : (from to other another : ℕ) (a b : List ReceivedRrset) (x y : List Entry) (contents : ListContents)
    → IsCompactList from to a x contents → IsCompactList other another b y contents → x ≡ y
one_reading from to other another a b x y contents is_x is_y =
    one_list a contents contents.todo x y is_x.listed (reads_back from to a x contents is_x) (reads_back other another b y contents is_y)
