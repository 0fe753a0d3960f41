-- Members of lists, and the records that are gathered for a zone.
use Rattle.std.proofs.Common.{◌≡◌, ℕ, suc, ◌-◌, ◌<◌, ◌≤◌, Bool, true, false, length, get_or, List, [], ◌∷◌, refl, sym, ◌∙◌, subst, inl, inr, ⊎_elim, arith}
use Rattle.std.proofs.lemmas.List.Elements.{Contains-get_or}
use Rattle.dnsv_zones.specs.Any.{Any}
use Rattle.std.specs.Prelude.{Contains, IsTrue, not, Some, None, slice_get}
use Rattle.std.specs.List.{AllZip}
use Rattle.dnsv_names.specs.Name.{Labels, SameName}
use Rattle.dnsv_records.specs.Rrsig.{IsRrsig}
use Rattle.dnsv_records.specs.declared.rrsig.Rrsig.{Rrsig}
use Rattle.dnsv_records.proofs.OneRecord.{one_rrsig}
use Rattle.dnsv_canonical.specs.Rrsets.{ReceivedRrset}
use Rattle.dnsv_canonical.specs.SignedData.{IsExpanded}
use Rattle.dnsv_canonical.proofs.CanonicalLemmas.{IsMember, IsMember-from_contains}
use Rattle.dnsv_canonical.proofs.OrderLemmas.{zip_at, zip_from}
use Rattle.dnsv_denial.specs.gathering.Evidence.{HasZoneSignature}

-- ---- signatures

pub zone_signature : (rrset : ReceivedRrset) (zone : Labels) (number : ℕ) (signatures : List Rrsig) (rrsig : Rrsig)
    → AllZip IsRrsig rrset.signatures signatures → 1 ≤ number → slice_get signatures (number - 1) ≡ Some rrsig
    → SameName rrsig.signer zone → ¬ IsExpanded rrset.owner rrsig → HasZoneSignature (λ s. s ≡ number) rrset zone
zone_signature rrset zone number signatures rrsig all within at same plain =
    let found = zip_at IsRrsig rrset.signatures signatures (number - 1) rrsig all at in
    record {
      signature = number;
      secured = refl;
      rdata = found.0;
      is_signature = (within, found.1);
      rrsig = rrsig;
      read = found.2;
      signer = same;
      unexpanded = plain;
    }

pub its_zone_signature : (rrset : ReceivedRrset) (zone : Labels) (number : ℕ) (signatures : List Rrsig) (rrsig : Rrsig)
    → AllZip IsRrsig rrset.signatures signatures → slice_get signatures (number - 1) ≡ Some rrsig
    → HasZoneSignature (λ s. s ≡ number) rrset zone → SameName rrsig.signer zone × ¬ IsExpanded rrset.owner rrsig
its_zone_signature rrset zone number signatures rrsig all at has =
    let found = zip_at IsRrsig rrset.signatures signatures (number - 1) rrsig all at in
    let there : slice_get rrset.signatures (number - 1) ≡ Some has.rdata =
    subst (λ s. slice_get rrset.signatures (s - 1) ≡ Some has.rdata) has.secured has.is_signature.1 in
    let rdata : has.rdata ≡ found.0 = cc in
    let one : has.rrsig ≡ rrsig = one_rrsig has.rdata has.rrsig rrsig has.read (subst (λ d. IsRrsig d rrsig) (sym rdata) found.2) in
    (subst (λ r. SameName r.signer zone) one has.signer, subst (λ r. ¬ IsExpanded rrset.owner r) one has.unexpanded)

pub no_zone_signature : (rrset : ReceivedRrset) (zone : Labels) (number : ℕ) (signatures : List Rrsig)
    → AllZip IsRrsig rrset.signatures signatures → slice_get signatures (number - 1) ≡ None
    → HasZoneSignature (λ s. s ≡ number) rrset zone → ⊥
no_zone_signature rrset zone number signatures all at has =
    let there : slice_get rrset.signatures (number - 1) ≡ Some has.rdata =
    subst (λ s. slice_get rrset.signatures (s - 1) ≡ Some has.rdata) has.secured has.is_signature.1 in
    let found = zip_from IsRrsig rrset.signatures signatures (number - 1) has.rdata all there in
    let both : Some found.0 ≡ None = sym found.1 ∙ at in cc

-- the signature is one of those with other numbers
numbered_too : {P : ℕ → Type 0} (Q : ℕ → Type 0) (rrset : ReceivedRrset) (zone : Labels) (has : HasZoneSignature P rrset zone)
    → Q has.signature → HasZoneSignature Q rrset zone
numbered_too Q rrset zone has secured = record {
  signature = has.signature;
  secured = secured;
  rdata = has.rdata;
  is_signature = has.is_signature;
  rrsig = has.rrsig;
  read = has.read;
  signer = has.signer;
  unexpanded = has.unexpanded;
}

-- a signature with one of the numbers
pub signature_among : {P Q : ℕ → Type 0} (rrset : ReceivedRrset) (zone : Labels) → ((s : ℕ) → P s → Q s)
    → HasZoneSignature P rrset zone → HasZoneSignature Q rrset zone
signature_among {P} {Q} rrset zone more has = numbered_too Q rrset zone has (more has.signature has.secured)

pub with_number : {P : ℕ → Type 0} (rrset : ReceivedRrset) (zone : Labels) (has : HasZoneSignature P rrset zone)
    → HasZoneSignature (λ s. s ≡ has.signature) rrset zone
with_number rrset zone has = numbered_too (λ s. s ≡ has.signature) rrset zone has refl

pub unnumbered : (rrset : ReceivedRrset) (zone : Labels) (number : ℕ) → number ≡ 0 → HasZoneSignature (λ s. s ≡ number) rrset zone → ⊥
unnumbered rrset zone number none has = let from_one = has.is_signature.0 in let is = has.secured in omega (arith, from_one, is, none)

any_of_member : {X : Type 0} (P : X → Type 0) (xs : List X) (x : X) → IsMember x xs → P x → Any P xs
any_of_member P [] x there holds = absurd there
any_of_member P (y ∷ ys) x there holds =
    ⊎_elim (λ (same : x ≡ y). inl (subst P same holds)) (λ (later : IsMember x ys). inr (any_of_member P ys x later holds)) there

pub any_of_contains : {X : Type 0} (P : X → Type 0) (xs : List X) (x : X) → Contains xs x → P x → Any P xs
any_of_contains P xs x there holds = any_of_member P xs x (IsMember-from_contains xs x there) holds

pub is_not_false : (b : Bool) → IsTrue (not b) → IsTrue b → ⊥
is_not_false true isnt is = cc
is_not_false false isnt is = cc

pub not_true : (b : Bool) → ¬ IsTrue b → IsTrue (not b)
not_true true isnt = absurd (isnt refl)
not_true false isnt = refl

pub contained : (xs : List ℕ) (i d s : ℕ) → s ≡ get_or xs i d → i < length xs → Contains xs s
contained xs i d s is within = subst (Contains xs) (sym is) (Contains-get_or xs i d within)

pub none_at_all : {X : Type 0} (P : X → Type 0) (xs : List X) (n : ℕ) → n ≡ length xs
    → ((k : ℕ) (x : X) → k < n → slice_get xs k ≡ Some x → ¬ P x) → ¬ Any P xs
none_at_all P [] n whole not_such some = absurd some
none_at_all P (x ∷ xs) n whole not_such some =
    ⊎_elim (λ (here : P x). not_such 0 x (omega arith) refl here)
    (λ (rest : Any P xs). none_at_all P xs (length xs) refl (λ k y small there. not_such (suc k) y (omega arith) there) rest) some
