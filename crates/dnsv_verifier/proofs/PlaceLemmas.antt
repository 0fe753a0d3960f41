-- Signatures by their numbers in the evidence, and where their parts stand.
use Rattle.std.proofs.Common.{◌≡◌, ℕ, ◌+◌, ◌-◌, ◌<◌, ◌≤◌, ⊎_elim, List, [], ◌∷◌, ◌++◌, Some, length, get_or, take, refl, sym, ap, ◌∙◌, subst, arith}
use Rattle.std.proofs.lemmas.List.{take_all, take_more}
use Rattle.std.proofs.lemmas.List.Elements.{Contains-push_cases}
use Rattle.std.proofs.lemmas.Option.{get_or_from_slice_get, slice_get-get_or, slice_get_within}
use Rattle.std.specs.List.{AllZip, slice_get}
use Rattle.std.specs.Ordering.{nat_cmp}
use Rattle.std.specs.declared.cmp.Ordering.TheVariants.{Equal}
use Rattle.dnsv_records.proofs.OneRecord.{one_rrsig}
use Rattle.dnsv_records.specs.Rrsig.{IsRrsig}
use Rattle.dnsv_records.specs.declared.rrsig.Rrsig.{Rrsig}
use Rattle.dnsv_canonical.specs.Rrsets.{IsNumbered, ReceivedRrset}
use Rattle.dnsv_canonical.specs.SignedData.{IsSignedData, signed_label_count}
use Rattle.dnsv_canonical.specs.declared.number.SignatureNumber.{SignatureNumber}
use Rattle.dnsv_canonical.proofs.NumberLemmas.{one_numbered}
use Rattle.dnsv_canonical.proofs.OrderLemmas.{zip_length}
use Rattle.dnsv_verifier.specs.Admissible.{DnskeyRecord, entry_over}
use Rattle.dnsv_verifier.specs.Asking.{AreMadeAt, IsMadeAt, IsPartOf, MadeSignature}
use Rattle.dnsv_verifier.specs.EntryLaws.{octet_Equal, then_Equal}
use Rattle.dnsv_verifier.specs.Numbers.{ArePlaces, IsPartNumber, IsPlaceOf, PartLists, signature_number_cmp}
use Rattle.dnsv_verifier.specs.Table.{HasNumber, IsAnswerAt, SignsNothing, TableContents, table_answer}
use Rattle.dnsv_verifier.specs.declared.answer.Answer.{Answer}
use Rattle.dnsv_verifier.specs.declared.entry.parts.SignaturePart.{SignaturePart}
use Rattle.dnsv_verifier.specs.declared.table.place.SignaturePlace.{SignaturePlace}
use Rattle.dnsv_verifier.proofs.AskLemmas.{zip_at}

pub signature_number_Equal : (a b : SignatureNumber) → signature_number_cmp a b ≡ Equal → a ≡ b
signature_number_Equal a b e =
    let both = then_Equal (nat_cmp a.rrset b.rrset) (nat_cmp a.signature b.signature) e in
    λ i. record { rrset = octet_Equal a.rrset b.rrset both.0 i; signature = octet_Equal a.signature b.signature both.1 i }

-- ---- numbers

pub numbered_here : {X : Type 0} (xs : List X) (i : ℕ) (x : X) → i < length xs → x ≡ get_or xs i x → IsNumbered xs (i + 1) x
numbered_here xs i x within at =
    let place : i + 1 - 1 ≡ i = omega arith in
    (omega arith, ap (λ (j : ℕ). slice_get xs j) place ∙ slice_get-get_or xs i x within ∙ ap Some (sym at))

-- the signature at the place
pub has_number_here : (rrsets : List ReceivedRrset) (number : ℕ) (rrset : ReceivedRrset) (signatures : List Rrsig) (i : ℕ) (rrsig : Rrsig)
    → AllZip IsRrsig rrset.signatures signatures → i < length signatures → rrsig ≡ get_or signatures i rrsig
    → IsNumbered rrsets number rrset → HasNumber rrsets (record { rrset = number; signature = i + 1 }) rrset rrsig
has_number_here rrsets number rrset signatures i rrsig are within at numbered =
    let count = zip_length IsRrsig rrset.signatures signatures are in
    let inside : i < length rrset.signatures = omega (arith, count, within) in
    let rdata = get_or rrset.signatures i [] in
    let there : slice_get rrset.signatures i ≡ Some rdata = slice_get-get_or rrset.signatures i [] inside in
    let place : i + 1 - 1 ≡ i = omega arith in
    record {
      numbered = numbered;
      rdata = rdata;
      signature = (omega arith, ap (λ (j : ℕ). slice_get rrset.signatures j) place ∙ there);
      is = subst (λ (r : Rrsig). IsRrsig rdata r) (sym at) (zip_at IsRrsig rrset.signatures signatures i [] rrsig are inside);
    }

-- ---- what is asked of numbers

-- no RRset has its number
pub unnumbered_rrset : (rrsets : List ReceivedRrset) (number : SignatureNumber)
    → ((each : ReceivedRrset) → IsNumbered rrsets number.rrset each → ⊥) → SignsNothing rrsets number
unnumbered_rrset rrsets number none = λ rrset rrsig has. absurd (none rrset has.numbered)

module _ (rrsets : List ReceivedRrset) (number : SignatureNumber) (rrset : ReceivedRrset) (rrsigs : List Rrsig)
    (numbered : IsNumbered rrsets number.rrset rrset) (each : AllZip IsRrsig rrset.signatures rrsigs) where
  abbrev place : ℕ
  place = number.signature - 1

  -- the RRset with the number is this one
  own_rdata : (other : ReceivedRrset) (rrsig : Rrsig) (has : HasNumber rrsets number other rrsig) → IsNumbered rrset.signatures number.signature has.rdata
  own_rdata other rrsig has =
      subst (λ (r : ReceivedRrset). IsNumbered r.signatures number.signature has.rdata)
      (one_numbered rrsets number.rrset other rrset has.numbered numbered) has.signature

  -- none of its signatures has the number
  pub unnumbered_signature : ((r : Rrsig) → IsNumbered rrsigs number.signature r → ⊥) → SignsNothing rrsets number
  unnumbered_signature none = λ other rrsig has.
      let its = own_rdata other rrsig has in
      let within = slice_get_within rrset.signatures place has.rdata its.1 in
      let sizes = zip_length IsRrsig rrset.signatures rrsigs each in
      absurd (none (get_or rrsigs place rrsig) (its.0, slice_get-get_or rrsigs place rrsig (omega (arith, within, sizes))))

  -- one has it
  pub signature_numbered : (rrsig : Rrsig) → IsNumbered rrsigs number.signature rrsig → HasNumber rrsets number rrset rrsig
  signature_numbered rrsig at =
      let within = slice_get_within rrsigs place rrsig at.1 in
      let sizes = zip_length IsRrsig rrset.signatures rrsigs each in
      let inside : place < length rrset.signatures = omega (arith, within, sizes) in
      record {
        numbered = numbered;
        rdata = get_or rrset.signatures place [];
        signature = (at.0, slice_get-get_or rrset.signatures place [] inside);
        is = subst (λ (r : Rrsig). IsRrsig (get_or rrset.signatures place []) r) (get_or_from_slice_get rrsigs place rrsig rrsig at.1)
            (zip_at IsRrsig rrset.signatures rrsigs place [] rrsig each inside);
      }

  -- it signs nothing
  pub unsigned : (rrsig : Rrsig) → IsNumbered rrsigs number.signature rrsig → signed_label_count rrset.owner < rrsig.labels
      → SignsNothing rrsets number
  unsigned rrsig at more = λ other its has.
      let here = signature_numbered rrsig at in
      let same : rrset ≡ other = one_numbered rrsets number.rrset rrset other numbered has.numbered in
      let rdata : has.rdata ≡ here.rdata = one_numbered rrset.signatures number.signature has.rdata here.rdata (own_rdata other its has) here.signature in
      let read : rrsig ≡ its = one_rrsig here.rdata rrsig its here.is (subst (λ (octets : List ℕ). IsRrsig octets its) rdata has.is) in
      subst (λ (r : ReceivedRrset). signed_label_count r.owner < its.labels) same (subst (λ (s : Rrsig). signed_label_count rrset.owner < s.labels) read more)

-- what is said of the signature's entry
pub says_over : (contents : TableContents) (number : SignatureNumber) (rrset : ReceivedRrset) (rrsig : Rrsig) (key : DnskeyRecord)
    (octets : List ℕ) (answer : Answer) → HasNumber contents.rrsets number rrset rrsig
    → IsSignedData rrset.owner rrset.rtype rrset.rdata rrsig (Some octets)
    → answer ≡ table_answer contents (entry_over rrsig octets key) → IsAnswerAt contents number key answer
says_over contents number rrset rrsig key octets answer has signed says = record {
  rrset = rrset;
  rrsig = rrsig;
  has_number = has;
  entry = entry_over rrsig octets key;
  asked = record { algorithm = refl; key_field = refl; signed_data = signed; signature = refl };
  says = says;
}

-- ---- two lists, one more in each

module _ {A B : Type 0} (R : A → B → Type 0) where
  pub zip_pushed : (xs : List A) (ys : List B) (x : A) (y : B) → AllZip R xs ys → R x y → AllZip R (xs ++ x ∷ []) (ys ++ y ∷ [])
  zip_pushed [] [] x y each one = (one, tt)
  zip_pushed [] (b ∷ ys) x y each one = absurd each
  zip_pushed (a ∷ xs) [] x y each one = absurd each
  zip_pushed (a ∷ xs) (b ∷ ys) x y each one = (each.0, zip_pushed xs ys x y each.1 one)

  -- one of the first list more has its partner
  pub zip_next : (xs : List A) (ys : List B) (i : ℕ) (x : A) (y : B) → i < length xs → x ≡ get_or xs i x → AllZip R (take i xs) ys → R x y
      → AllZip R (take (i + 1) xs) (ys ++ y ∷ [])
  zip_next xs ys i x y within at each one =
      subst (λ (front : List A). AllZip R front (ys ++ y ∷ [])) (sym (take_more xs i x within))
      (zip_pushed (take i xs) ys (get_or xs i x) y each (subst (λ (z : A). R z y) at one))

  pub zip_whole : (xs : List A) (ys : List B) (i : ℕ) → length xs ≤ i → AllZip R (take i xs) ys → AllZip R xs ys
  zip_whole xs ys i past each = subst (λ (front : List A). AllZip R front ys) (take_all i xs past) each

-- ---- the signatures that were made

-- a signature more, with its number
pub made_at : (rrsets : List ReceivedRrset) (number : SignatureNumber) (rrset : ReceivedRrset) (made : MadeSignature)
    (numbers : List SignatureNumber) (all : List MadeSignature) → HasNumber rrsets number rrset made.rrsig
    → IsPartOf rrset made.rrsig made.part → AreMadeAt rrsets numbers all
    → AreMadeAt rrsets (numbers ++ number ∷ []) (all ++ made ∷ [])
made_at rrsets number rrset made numbers all has part so_far =
    zip_pushed (IsMadeAt rrsets) numbers all number made so_far (record { rrset = rrset; has_number = has; part_of = part })

-- ---- where the parts stand

module _ (rrsets : List ReceivedRrset) (parts : PartLists) (numbers : List SignatureNumber) (made : List MadeSignature) (found : List ℕ)
    (are : AreMadeAt rrsets numbers made) (its : AllZip (IsPartNumber parts) made found) where
  place_here : (i : ℕ) (place : SignaturePlace) (m : MadeSignature) (d : SignatureNumber) (e : ℕ) → i < length numbers → place.number ≡ get_or numbers i d
      → get_or made i m ≡ m → place.algorithm ≡ m.rrsig.algorithm → place.part ≡ get_or found i e → IsPlaceOf rrsets parts place
  place_here i place m d e within number there algorithm part =
      let sizes : length numbers ≡ length made = zip_length (IsMadeAt rrsets) numbers made are in
      let one : IsMadeAt rrsets place.number m =
      subst (λ (k : SignatureNumber). IsMadeAt rrsets k m) (sym number)
      (subst (λ (z : MadeSignature). IsMadeAt rrsets (get_or numbers i d) z) there (zip_at (IsMadeAt rrsets) numbers made i d m are within)) in
      let its_part : IsPartNumber parts m place.part =
      subst (λ (k : ℕ). IsPartNumber parts m k) (sym part)
      (subst (λ (z : MadeSignature). IsPartNumber parts z (get_or found i e)) there
      (zip_at (IsPartNumber parts) made found i m e its (omega (arith, sizes, within)))) in
      record {
        rrset = one.rrset;
        rrsig = m.rrsig;
        has_number = one.has_number;
        algorithm = algorithm;
        part_of = subst (λ (p : SignaturePart). IsPartOf one.rrset m.rrsig p) (sym its_part.value) one.part_of;
        within = its_part.within;
      }

  -- a place more
  pub place_more : (i : ℕ) (places : List SignaturePlace) (place : SignaturePlace) (m : MadeSignature) (d : SignatureNumber) (e : ℕ) → i < length numbers
      → place.number ≡ get_or numbers i d → get_or made i m ≡ m → place.algorithm ≡ m.rrsig.algorithm → place.part ≡ get_or found i e
      → ArePlaces rrsets parts places → ArePlaces rrsets parts (places ++ place ∷ [])
  place_more i places place m d e within number there algorithm part so_far each among =
      ⊎_elim (λ before. so_far each before)
      (λ last. subst (λ (p : SignaturePlace). IsPlaceOf rrsets parts p) last (place_here i place m d e within number there algorithm part))
      (Contains-push_cases places place each among)
