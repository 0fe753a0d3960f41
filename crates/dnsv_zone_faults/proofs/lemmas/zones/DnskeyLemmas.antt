-- What is so of DNSKEY RRsets one after another, and of the keys in one.
use Rattle.std.proofs.Common.{◌≡◌, ◌+◌, ◌<◌, ℕ, List, [], ◌∷◌, ◌++◌, length, get_or, map, take, sym, ap, ◌∙◌, subst, arith}
use Rattle.std.proofs.lemmas.List.{length-map, length-take, map-append, take_more}
use Rattle.std.proofs.lemmas.List.Elements.{Contains-get_or}
use Rattle.std.specs.Prelude.{Contains}
use Rattle.std.specs.List.{AllZip}
use Rattle.dnsv_names.specs.Name.{Labels}
use Rattle.dnsv_canonical.specs.Index.{numbers_at}
use Rattle.dnsv_canonical.specs.Rrsets.{ReceivedRrset}
use Rattle.dnsv_canonical.proofs.OrderLemmas.{each_of}
use Rattle.dnsv_chain.proofs.ZipLemmas.{zip_push}
use Rattle.dnsv_chain.specs.Basis.{Basis}
use Rattle.dnsv_canonical.proofs.NumberLemmas.{IsOneAt, each_number}
use Rattle.dnsv_mending.specs.declared.facts.keys.DnskeyFacts.{DnskeyFacts}
use Rattle.dnsv_mending.specs.declared.facts.keys.HeldKey.{HeldKey}
use Rattle.dnsv_zone_faults.specs.Dnskeys.{AreDnskeyFacts, AreHeldKeys, IsHeldKey}
use Rattle.dnsv_zone_faults.specs.Dnskeys.DnskeySearch.{AddsDnskey, IsSetNumber, rdata_of}
use Rattle.dnsv_zone_keys.specs.Keys.Index.{Placed}

pub set_number_at : (rrsets : List ReceivedRrset) (zone : Labels) (numbers : List ℕ) (i d : ℕ) → numbers ≡ numbers_at rrsets zone 48 → i < length numbers
    → IsSetNumber rrsets zone (get_or numbers i d)
set_number_at rrsets zone numbers i d are within =
    let n : ℕ = get_or numbers i d in
    let there : Contains numbers n = Contains-get_or numbers i d within in
    let one = each_of (IsOneAt rrsets zone 48) (numbers_at rrsets zone 48) n (each_number rrsets zone 48) (subst (λ (all : List ℕ). Contains all n) are there) in
    (one.rrset, record { numbered = one.is_rrset; owner = one.owner; rtype = one.same_type })

pub dnskey_next : (basis : Basis) (zone : Labels) (numbers : List ℕ) (i d : ℕ) (old new : List DnskeyFacts) → i < length numbers
    → AllZip (AreDnskeyFacts basis zone) (take i numbers) old → AddsDnskey basis zone (get_or numbers i d) old new
    → AllZip (AreDnskeyFacts basis zone) (take (i + 1) numbers) new
dnskey_next basis zone numbers i d old new within so_far adds =
    let longer = take_more numbers i d within in
    subst (λ (ns : List ℕ). AllZip (AreDnskeyFacts basis zone) ns new) (sym longer)
    (subst (λ (all : List DnskeyFacts). AllZip (AreDnskeyFacts basis zone) (take i numbers ++ get_or numbers i d ∷ []) all) (sym adds.added)
    (zip_push (AreDnskeyFacts basis zone) (take i numbers) old (get_or numbers i d) adds.known so_far adds.is))

held_more : (basis : Basis) (zone : Labels) (k : ℕ) (set : ReceivedRrset) (n : ℕ) (xs : List (List ℕ)) (ys : List HeldKey) (x : List ℕ) (y : HeldKey)
    → AreHeldKeys basis zone k set n xs ys → IsHeldKey basis zone k set (n + length xs) x y → AreHeldKeys basis zone k set n (xs ++ x ∷ []) (ys ++ y ∷ [])
held_more basis zone k set n [] [] x y so_far one =
    let number : n + 0 ≡ n = omega arith in
    (subst (λ (m : ℕ). IsHeldKey basis zone k set m x y) number one, tt)
held_more basis zone k set n [] (b ∷ ys) x y so_far one = absurd so_far
held_more basis zone k set n (a ∷ xs) [] x y so_far one = absurd so_far
held_more basis zone k set n (a ∷ xs) (b ∷ ys) x y so_far one =
    let number : n + length (a ∷ xs) ≡ n + 1 + length xs = omega arith in
    (so_far.0, held_more basis zone k set (n + 1) xs ys x y so_far.1 (subst (λ (m : ℕ). IsHeldKey basis zone k set m x y) number one))

pub held_next : (basis : Basis) (zone : Labels) (k : ℕ) (set : ReceivedRrset) (keys : List Placed) (i : ℕ) (key : Placed) (old : List HeldKey) (held : HeldKey)
    → i < length keys → key ≡ get_or keys i key → AreHeldKeys basis zone k set 1 (map rdata_of (take i keys)) old
    → IsHeldKey basis zone k set (i + 1) (rdata_of key) held → AreHeldKeys basis zone k set 1 (map rdata_of (take (i + 1) keys)) (old ++ held ∷ [])
held_next basis zone k set keys i key old held within at so_far one =
    let count = length-take i keys in
    let mapped = length-map (take i keys) rdata_of in
    let number : i + 1 ≡ 1 + length (map rdata_of (take i keys)) = omega (arith, count, mapped, within) in
    let longer : map rdata_of (take (i + 1) keys) ≡ map rdata_of (take i keys) ++ rdata_of key ∷ [] =
    ap (map rdata_of) (take_more keys i key within) ∙ map-append rdata_of (take i keys) (get_or keys i key ∷ [])
    ∙ (λ j. map rdata_of (take i keys) ++ rdata_of (sym at j) ∷ []) in
    subst (λ (rdata : List (List ℕ)). AreHeldKeys basis zone k set 1 rdata (old ++ held ∷ [])) (sym longer)
    (held_more basis zone k set 1 (map rdata_of (take i keys)) old (rdata_of key) held so_far
    (subst (λ (m : ℕ). IsHeldKey basis zone k set m (rdata_of key) held) number one))
