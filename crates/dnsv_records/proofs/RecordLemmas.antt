-- What readers of RDATA share.
use Rattle.std.proofs.Common.{◌≡◌, ℕ, ◌+◌, ◌<◌, ◌≤◌, List, ◌∷◌, ◌++◌, length, get_or, take, drop, refl, sym, ap, ◌∙◌, arith, Ok, Err, Result, Option, Some, subst}
use Rattle.std.proofs.lemmas.List.{take_at, drop_at, drop-drop, drop_more, take-append-drop}
use Rattle.std.specs.Int.Digits.{AllBelowBase}
use Rattle.dnsv_names.specs.Name.{Labels, IsName, wire}
use Rattle.dnsv_records.proofs.Base32Lemmas.{same_digits}
use Rattle.dnsv_names.specs.PartLaws.{recursion-take, recursion-drop}
use Rattle.dnsv_records.specs.OctetLaws.{take_part, length_part}
use Rattle.dnsv_records.specs.declared.error.Field.{Field}
use Rattle.dnsv_records.specs.declared.error.Field.TheVariants.{Head, Name, Salt, Hash, Bitmap as BitmapField}
use Rattle.dnsv_records.specs.declared.error.RecordError.{RecordError}
use Rattle.dnsv_records.specs.declared.error.RecordError.TheVariants.{BadRdata}
use Rattle.dnsv_records.specs.Bitmap.{IsBitmap, BitmapFault}
use Rattle.dnsv_names.specs.Octets.{number_at}
use Rattle.dnsv_records.specs.Layout.{BeginsWithName, IsCounted, BeginsWithCounted}
use Rattle.dnsv_records.specs.Rrsig.{RrsigFault}
use Rattle.dnsv_records.specs.Nsec.{NsecFault}
use Rattle.dnsv_records.specs.Nsec3.{Nsec3Fault}
use Rattle.dnsv_records.specs.Reading.{NamesFault}

-- a number of one octet
pub number_at-one : (octets : List ℕ) (place : ℕ) → place < length octets → get_or octets place 0 ≡ number_at octets place 1
number_at-one octets place within = rw (drop_more octets place 0 within) (omega arith)

-- what is at fault in a part is at fault in the whole
pub bitmap_fault : (error : RecordError) (bits : List ℕ) (IsFault : Field → Type 0) → ((IsBitmap bits → ⊥) → IsFault BitmapField) → NamesFault error (BitmapFault bits) → NamesFault error IsFault
bitmap_fault (BadRdata Head) bits IsFault bad fault = absurd fault
bitmap_fault (BadRdata Name) bits IsFault bad fault = absurd fault
bitmap_fault (BadRdata Salt) bits IsFault bad fault = absurd fault
bitmap_fault (BadRdata Hash) bits IsFault bad fault = absurd fault
bitmap_fault (BadRdata BitmapField) bits IsFault bad fault = bad fault

-- the name at the front, and what is behind it
pub behind_name : (octets rest : List ℕ) (found name : Labels) (n : ℕ) → ◌≡◌ {A = Option (Labels × ℕ)} (Some (found, n)) (Some (name, length (wire name))) → octets ≡ wire name ++ rest → (found ≡ name) × (drop n octets ≡ rest)
behind_name octets rest found name n same form =
    let pair : ◌≡◌ {A = Labels × ℕ} (found, n) (name, length (wire name)) = cc in
    (ap (λ p. p.0) pair, ap (drop n) form ∙ drop_at (wire name) rest n (sym (ap (λ p. p.1) pair)))

-- counted octets are read in one way
pub same_counted : (octets a b rest behind : List ℕ) → IsCounted octets a rest → IsCounted octets b behind → (a ≡ b) × (rest ≡ behind)
same_counted octets a b rest behind p q =
    let both : length a ∷ (a ++ rest) ≡ length b ∷ (b ++ behind) = sym p ∙ q in
    let size : length a ≡ length b = ap (λ xs. get_or xs 0 0) both in
    let parts : a ++ rest ≡ b ++ behind = ap (drop 1) both in (
      sym (take_at a rest (length a) refl) ∙ ap (take (length a)) parts ∙ take_at b behind (length a) (sym size),
      sym (drop_at a rest (length a) refl) ∙ ap (drop (length a)) parts ∙ drop_at b behind (length a) (sym size),
    )

-- an error is the same in answers of two types
pub same_error : {T U : Type 0} (a b : RecordError) → ◌≡◌ {A = Result T RecordError} (Err a) (Err b) → ◌≡◌ {A = Result U RecordError} (Err a) (Err b)
same_error a b same = let told : a ≡ b = cc in ap Err told

pub no_bitmap_fault : (octets : List ℕ) → IsBitmap octets → (field : Field) → BitmapFault octets field → ⊥
no_bitmap_fault octets is BitmapField bad = bad is
no_bitmap_fault octets is field bad = bad

pub no_rrsig_fault : (rdata : List ℕ) → 18 ≤ length rdata → BeginsWithName (drop 18 rdata) → (field : Field) → RrsigFault rdata field → ⊥
no_rrsig_fault rdata head name Head bad = omega (arith, head, bad)
no_rrsig_fault rdata head name Name bad = bad.1 name
no_rrsig_fault rdata head name field bad = bad

-- behind a name that was read, the bitmap alone can be at fault
pub nsec_fault_behind : (rdata : List ℕ) (found : Labels) (n : ℕ) → IsName found → take n rdata ≡ wire found → ((name : Labels) (rest : List ℕ) → IsName name → rdata ≡ wire name ++ rest → ◌≡◌ {A = Option (Labels × ℕ)} (Some (found, n)) (Some (name, length (wire name)))) → (field : Field) → NsecFault rdata field → BitmapFault (drop n rdata) field
nsec_fault_behind rdata found n is spelled every Name bad =
    absurd (bad (found, drop n rdata, is, sym (take-append-drop n rdata) ∙ ap (λ xs. xs ++ drop n rdata) spelled))
nsec_fault_behind rdata found n is spelled every BitmapField (next, bits, is_name, form, bad) =
    subst (λ xs. IsBitmap xs → ⊥) (sym (behind_name rdata bits found next n (every next bits is_name form) form).1) bad
nsec_fault_behind rdata found n is spelled every field bad = bad

-- where the salt is there and the hash is not, the hash is at fault
pub nsec3_fault_at_hash : (rdata salt rest : List ℕ) → 4 ≤ length rdata → IsCounted (drop 4 rdata) salt rest → (BeginsWithCounted rest → ⊥) → (field : Field) → Nsec3Fault rdata field → Hash ≡ field
nsec3_fault_at_hash rdata salt rest head is none Head bad = absurd (omega (arith, head, bad))
nsec3_fault_at_hash rdata salt rest head is none Name bad = absurd bad
nsec3_fault_at_hash rdata salt rest head is none Salt bad = absurd (bad.1 (salt, rest, is))
nsec3_fault_at_hash rdata salt rest head is none Hash bad = refl
nsec3_fault_at_hash rdata salt rest head is none BitmapField (other, behind, hash, bits, first, second, bad) =
    absurd (none (hash, bits, (same_counted (drop 4 rdata) salt other rest behind is first).1 ∙ second))

-- behind the hash, the bitmap alone can be at fault
pub nsec3_fault_behind : (rdata salt rest hash bits : List ℕ) → 4 ≤ length rdata → IsCounted (drop 4 rdata) salt rest → IsCounted rest hash bits → (field : Field) → Nsec3Fault rdata field → BitmapFault bits field
nsec3_fault_behind rdata salt rest hash bits head is_salt is_hash Head bad = absurd (omega (arith, head, bad))
nsec3_fault_behind rdata salt rest hash bits head is_salt is_hash Name bad = bad
nsec3_fault_behind rdata salt rest hash bits head is_salt is_hash Salt bad = absurd (bad.1 (salt, rest, is_salt))
nsec3_fault_behind rdata salt rest hash bits head is_salt is_hash Hash (other, behind, first, bad) =
    absurd (bad (hash, bits, sym (same_counted (drop 4 rdata) salt other rest behind is_salt first).1 ∙ is_hash))
nsec3_fault_behind rdata salt rest hash bits head is_salt is_hash BitmapField (other, behind, last, ending, first, second, bad) =
    let same = (same_counted (drop 4 rdata) salt other rest behind is_salt first).1 in
    subst (λ xs. IsBitmap xs → ⊥) (sym (same_counted rest hash last bits ending is_hash (same ∙ second)).1) bad

-- a name read at a place, and what stands behind it
pub name_and_rest : (octets : List ℕ) (place n : ℕ) (name : Labels) → take n (drop place octets) ≡ wire name → drop place octets ≡ wire name ++ drop (place + n) octets
name_and_rest octets place n name spelled =
    sym (take-append-drop n (drop place octets)) ∙ ap (λ xs. xs ++ drop n (drop place octets)) spelled ∙ ap (λ xs. wire name ++ xs) (drop-drop n place octets)

-- fields that are the same number are the same octets
pub same_field : (place width : ℕ) (a b : List ℕ) → AllBelowBase 256 a → AllBelowBase 256 b → place + width ≤ length a → place + width ≤ length b → number_at a place width ≡ number_at b place width → take width (drop place a) ≡ take width (drop place b)
same_field place width a b low_a low_b in_a in_b same =
    same_digits 256 (take width (drop place a)) (take width (drop place b))
    (recursion-take (λ octet. octet < 256) width (drop place a) (recursion-drop (λ octet. octet < 256) place a low_a))
    (recursion-take (λ octet. octet < 256) width (drop place b) (recursion-drop (λ octet. octet < 256) place b low_b))
    (length_part place width a in_a ∙ sym (length_part place width b in_b)) same

pub same_front : (place width next : ℕ) (a b : List ℕ) → next ≡ place + width → take place a ≡ take place b → take width (drop place a) ≡ take width (drop place b) → take next a ≡ take next b
same_front place width next a b sum front field =
    take_part place width next a sum ∙ ap (λ xs. xs ++ take width (drop place a)) front ∙ ap (λ xs. take place b ++ xs) field ∙ sym (take_part place width next b sum)

pub same_whole : (place : ℕ) (a b : List ℕ) → take place a ≡ take place b → drop place a ≡ drop place b → a ≡ b
same_whole place a b front rest =
    sym (take-append-drop place a) ∙ ap (λ xs. xs ++ drop place a) front ∙ ap (λ xs. take place b ++ xs) rest ∙ take-append-drop place b
