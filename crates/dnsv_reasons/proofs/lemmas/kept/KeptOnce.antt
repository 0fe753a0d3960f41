-- Of the keys of one DNSKEY RRset one at most is told that doesn't sign it.
use Rattle.std.proofs.Common.{◌≡◌, inl, inr, ℕ, zero, suc, ◌+◌, ◌<◌, ◌≤◌, ◌++◌, Bool, true, false, cond, List, [], ◌∷◌, Some, length, map, refl, sym, ap, ◌∙◌, subst, slice_get, arith}
use Rattle.std.proofs.lemmas.List.{length-map}
use Rattle.std.specs.Char.{to_ascii_lowercase}
use Rattle.std.specs.List.{AllByRecursion, enumerate_from}
use Rattle.std.specs.Prelude.{filter}
use Rattle.dnsv_names.specs.Name.{Labels, lower_case, rightmost}
use Rattle.dnsv_names.specs.Tree.AncestorLaws.{rightmost_length}
use Rattle.dnsv_canonical.specs.Index.{is_at, numbers_at}
use Rattle.dnsv_canonical.specs.Index.Grouping.{Numbered}
use Rattle.dnsv_canonical.specs.Rrsets.{ReceivedRrset}
use Rattle.dnsv_canonical.specs.declared.number.RecordNumber.{RecordNumber}
use Rattle.dnsv_canonical.proofs.IndexLemmas.InOrder.{each_get}
use Rattle.dnsv_canonical.proofs.OrderLemmas.{each_kept, zip_at}
use Rattle.dnsv_canonical.proofs.NumberLemmas.{each_number, IsOneAt, one_numbered}
use Rattle.dnsv_chain.specs.Basis.{Basis}
use Rattle.dnsv_zone_faults.specs.Dnskeys.{AreDnskeyFacts, AreHeldKeys}
use Rattle.dnsv_zone_faults.specs.Zones.{AreFactsOfZone, AreZoneFacts}
use Rattle.dnsv_mending.specs.Mend.{Mended}
use Rattle.dnsv_mending.specs.Ways.{IsAmong}
use Rattle.dnsv_mending.specs.Zone.{dnskey_mend, levels_of, standing_of}
use Rattle.dnsv_mending.specs.declared.facts.keys.DnskeyFacts.{DnskeyFacts}
use Rattle.dnsv_mending.specs.declared.facts.keys.HeldKey.{HeldKey}
use Rattle.dnsv_mending.specs.declared.facts.zone.ZoneFacts.{ZoneFacts}
use Rattle.dnsv_mending.specs.declared.told.Told.{Told}
use Rattle.dnsv_mending.specs.declared.told.Told.TheVariants as told
use Rattle.dnsv_mending.proofs.AllWays.{at_seam}
use Rattle.dnsv_reasons.proofs.lemmas.kept.KeptKeys.{KeyOf}
use Rattle.dnsv_reasons.proofs.lemmas.kept.KeptZones.{IsChosen}

-- ---- numbers of RRsets, each once

module _ (test : Numbered → Bool) where
  abbrev passing : ℕ → List ReceivedRrset → List ℕ
  passing n rrsets = map (λ (x : Numbered). x.0) (filter test (enumerate_from n rrsets))

  low_case : (answer : Bool) (n : ℕ) (r : ReceivedRrset) (rest : List Numbered)
      → AllByRecursion (λ j. n + 1 ≤ j) (map (λ (x : Numbered). x.0) rest)
      → AllByRecursion (λ j. n ≤ j) (map (λ (x : Numbered). x.0) (cond answer ((n, r) ∷ rest) rest))
  low_case true n r rest all =
      (omega arith, each_kept (λ j. n + 1 ≤ j) (λ j. n ≤ j) (map (λ (x : Numbered). x.0) rest) (λ j more. omega (arith, more)) all)
  low_case false n r rest all =
      each_kept (λ j. n + 1 ≤ j) (λ j. n ≤ j) (map (λ (x : Numbered). x.0) rest) (λ j more. omega (arith, more)) all

  low : (n : ℕ) (rrsets : List ReceivedRrset) → AllByRecursion (λ j. n ≤ j) (passing n rrsets)
  low n [] = tt
  low n (r ∷ rs) = low_case (test (n, r)) n r (filter test (enumerate_from (n + 1) rs)) (low (n + 1) rs)

  once_case : (answer : Bool) (n : ℕ) (r : ReceivedRrset) (rest : List Numbered)
      → AllByRecursion (λ j. n + 1 ≤ j) (map (λ (x : Numbered). x.0) rest)
      → ((i j k : ℕ) → slice_get (map (λ (x : Numbered). x.0) rest) i ≡ Some k
      → slice_get (map (λ (x : Numbered). x.0) rest) j ≡ Some k → i ≡ j)
      → (i j k : ℕ) → slice_get (map (λ (x : Numbered). x.0) (cond answer ((n, r) ∷ rest) rest)) i ≡ Some k
      → slice_get (map (λ (x : Numbered). x.0) (cond answer ((n, r) ∷ rest) rest)) j ≡ Some k → i ≡ j
  once_case false n r rest all each i j k at there = each i j k at there
  once_case true n r rest all each zero zero k at there = refl
  once_case true n r rest all each zero (suc j) k at there =
      let is : n ≡ k = cc in
      let more : n + 1 ≤ k = each_get (λ j. n + 1 ≤ j) (map (λ (x : Numbered). x.0) rest) j k all there in
      absurd (omega (arith, is, more))
  once_case true n r rest all each (suc i) zero k at there =
      let is : n ≡ k = cc in
      let more : n + 1 ≤ k = each_get (λ j. n + 1 ≤ j) (map (λ (x : Numbered). x.0) rest) i k all at in
      absurd (omega (arith, is, more))
  once_case true n r rest all each (suc i) (suc j) k at there = ap suc (each i j k at there)

  pub passing_once : (n : ℕ) (rrsets : List ReceivedRrset) (i j k : ℕ) → slice_get (passing n rrsets) i ≡ Some k
      → slice_get (passing n rrsets) j ≡ Some k → i ≡ j
  passing_once n [] i j k at there = cc
  passing_once n (r ∷ rs) i j k at there =
      once_case (test (n, r)) n r (filter test (enumerate_from (n + 1) rs)) (low (n + 1) rs) (passing_once (n + 1) rs) i j k at there

numbers_once : (rrsets : List ReceivedRrset) (zone : Labels) (i j k : ℕ) → slice_get (numbers_at rrsets zone 48) i ≡ Some k
    → slice_get (numbers_at rrsets zone 48) j ≡ Some k → i ≡ j
numbers_once rrsets zone i j k at there = passing_once (λ (x : Numbered). is_at zone 48 x.1) 1 rrsets i j k at there

-- ---- lists

pub place_of : {X : Type 0} (xs : List X) (x : X) → IsAmong x xs → (j : ℕ) × (slice_get xs j ≡ Some x)
place_of {X} [] x among = absurd among
place_of {X} (y ∷ ys) x (inl is) = (0, ap (λ (z : X). Some z) (sym is))
place_of {X} (y ∷ ys) x (inr among) = let found = place_of ys x among in (suc found.0, found.1)

inside : {X : Type 0} (xs : List X) (n : ℕ) (x : X) → slice_get xs n ≡ Some x → n < length xs
inside {X} [] n x at = cc
inside {X} (y ∷ ys) zero x at = omega arith
inside {X} (y ∷ ys) (suc n) x at = let less = inside ys n x at in omega (arith, less)

same_seam : {X : Type 0} (xs ys : List X) (x y : X) (rest others : List X) → xs ++ x ∷ rest ≡ ys ++ y ∷ others → length xs ≡ length ys
    → (xs ≡ ys) × (x ≡ y)
same_seam {X} [] [] x y rest others is size = let first : x ≡ y = cc in (refl, first)
same_seam {X} [] (z ∷ ys) x y rest others is size = absurd (omega (arith, size))
same_seam {X} (z ∷ xs) [] x y rest others is size = absurd (omega (arith, size))
same_seam {X} (z ∷ xs) (w ∷ ys) x y rest others is size =
    let first : z ≡ w = cc in
    let behind : xs ++ x ∷ rest ≡ ys ++ y ∷ others = cc in
    let found = same_seam xs ys x y rest others behind (omega (arith, size)) in
    ((λ i. first i ∷ found.0 i), found.1)

-- ---- a key and its RRset

own_key : (r : DnskeyFacts) (number : RecordNumber) (lines : List Told) (n : RecordNumber) → AllByRecursion (KeyOf r number) lines
    → IsAmong (told.NotSelfSigned n) lines → KeyOf r number (told.NotSelfSigned n)
own_key r number [] n all among = absurd among
own_key r number (line ∷ lines) n all (inl is) = subst (KeyOf r number) (sym is) all.0
own_key r number (line ∷ lines) n all (inr among) = own_key r number lines n all.1 among

held_rrset : (basis : Basis) (zone : Labels) (k : ℕ) (set : ReceivedRrset) (place : ℕ) (rdata : List (List ℕ)) (keys : List HeldKey)
    (key : HeldKey)
    → AreHeldKeys basis zone k set place rdata keys → IsAmong key keys → key.number.rrset ≡ k
held_rrset basis zone k set place [] [] key are among = absurd among
held_rrset basis zone k set place [] (held ∷ others) key are among = absurd are
held_rrset basis zone k set place (one ∷ rest) [] key are among = absurd are
held_rrset basis zone k set place (one ∷ rest) (held ∷ others) key are (inl is) =
    ap (λ (each : HeldKey). each.number.rrset) is ∙ ap (λ (each : RecordNumber). each.rrset) are.0.number
held_rrset basis zone k set place (one ∷ rest) (held ∷ others) key are (inr among) =
    held_rrset basis zone k set (place + 1) rest others key are.1 among

each_one : (rrsets : List ReceivedRrset) (zone : Labels) (j k : ℕ) → slice_get (numbers_at rrsets zone 48) j ≡ Some k
    → IsOneAt rrsets zone 48 k
each_one rrsets zone j k at = each_get (IsOneAt rrsets zone 48) (numbers_at rrsets zone 48) j k (each_number rrsets zone 48) at

-- where the key's RRset stands
record Stands (basis : Basis) (name : Labels) (labels : ℕ) (z : ZoneFacts) (r : DnskeyFacts) (k : ℕ) : Type 0 where
  within : labels ≤ length name
  j : ℕ
  at : slice_get z.dnskeys.items j ≡ Some r
  number : slice_get (numbers_at basis.rrsets (rightmost name labels) 48) j ≡ Some k

module _ (basis : Basis) (name : Labels) (t : ℕ) (b : Bool) (zones : List ZoneFacts) (facts : AreZoneFacts basis name t zones) where
  stands_there : (n : RecordNumber) (c : IsChosen b zones n) → Stands basis name (length c.front) c.z c.r n.rrset
  stands_there n c =
      let zone = rightmost name (length c.front) in
      let at : slice_get zones (length c.front) ≡ Some c.z =
      ap (λ (all : List ZoneFacts). slice_get all (length c.front)) c.stands ∙ at_seam c.front c.z c.rest in
      let less = inside zones (length c.front) c.z at in
      let count = facts.count in
      let of_zone : AreFactsOfZone basis name t zone c.z = facts.each (length c.front) c.z at in
      let place = place_of c.z.dnskeys.items c.r c.among in
      let found =
      zip_at (AreDnskeyFacts basis zone) (numbers_at basis.rrsets zone 48) c.z.dnskeys.items place.0 c.r of_zone.dnskeys place.1 in
      let key = own_key c.r c.number c.m.own n c.only c.says in
      let its : key.1.number.rrset ≡ found.0 =
      held_rrset basis zone found.0 found.2.set 1 found.2.canonical c.r.keys.items key.1 found.2.keys key.2 in
      let rrset : n.rrset ≡ found.0 = sym (ap (λ (each : RecordNumber). each.rrset) key.3) ∙ its in
      record {
        within = omega (arith, less, count);
        j = place.0;
        at = place.1;
        number = found.1 ∙ ap (λ (k : ℕ). Some k) (sym rrset);
      }

  same_labels : (i j p q k : ℕ) → i ≤ length name → j ≤ length name → slice_get (numbers_at basis.rrsets (rightmost name i) 48) p ≡ Some k
      → slice_get (numbers_at basis.rrsets (rightmost name j) 48) q ≡ Some k → i ≡ j
  same_labels i j p q k within inside_too at there =
      let first = each_one basis.rrsets (rightmost name i) p k at in
      let second = each_one basis.rrsets (rightmost name j) q k there in
      let rrset : first.rrset ≡ second.rrset = one_numbered basis.rrsets k first.rrset second.rrset first.is_rrset second.is_rrset in
      let names : lower_case (rightmost name i) ≡ lower_case (rightmost name j) =
      sym first.owner ∙ ap (λ (each : ReceivedRrset). lower_case each.owner) rrset ∙ second.owner in
      sym (rightmost_length name i within)
      ∙ sym (length-map (rightmost name i) (λ label. map to_ascii_lowercase label))
      ∙ ap length names
      ∙ length-map (rightmost name j) (λ label. map to_ascii_lowercase label)
      ∙ rightmost_length name j inside_too

  pub one_chosen : (m n : RecordNumber) → IsChosen b zones m → IsChosen b zones n → m.rrset ≡ n.rrset → m ≡ n
  one_chosen m n c d same =
      let first = stands_there m c in
      let second = stands_there n d in
      let there : slice_get (numbers_at basis.rrsets (rightmost name (length d.front)) 48) second.j ≡ Some m.rrset =
      second.number ∙ ap (λ (k : ℕ). Some k) (sym same) in
      let labels : length c.front ≡ length d.front =
      same_labels (length c.front) (length d.front) first.j second.j m.rrset first.within second.within first.number there in
      let seam = same_seam c.front d.front c.z d.z c.rest d.rest (sym c.stands ∙ d.stands) labels in
      let here : slice_get (numbers_at basis.rrsets (rightmost name (length d.front)) 48) first.j ≡ Some m.rrset =
      subst (λ (k : ℕ). slice_get (numbers_at basis.rrsets (rightmost name k) 48) first.j ≡ Some m.rrset) labels first.number in
      let place : first.j ≡ second.j = numbers_once basis.rrsets (rightmost name (length d.front)) first.j second.j m.rrset here there in
      let at : slice_get d.z.dnskeys.items second.j ≡ Some c.r =
      subst (λ (k : ℕ). slice_get d.z.dnskeys.items k ≡ Some c.r) place
      (subst (λ (z : ZoneFacts). slice_get z.dnskeys.items first.j ≡ Some c.r) seam.1 first.at) in
      let at_too : slice_get d.z.dnskeys.items second.j ≡ Some d.r = second.at in
      let rrset : c.r ≡ d.r = cc in
      let found : Some c.m ≡ Some d.m =
      sym c.is ∙ (λ i. dnskey_mend (standing_of b (levels_of b (seam.0 i)) (seam.1 i)) (seam.1 i) (rrset i)) ∙ d.is in
      let mends : d.m ≡ c.m = cc in
      let mine = own_key c.r c.number c.m.own m c.only c.says in
      let other = own_key c.r c.number c.m.own n c.only (subst (λ (each : Mended). IsAmong (told.NotSelfSigned n) each.own) mends d.says) in
      mine.0 ∙ sym other.0
