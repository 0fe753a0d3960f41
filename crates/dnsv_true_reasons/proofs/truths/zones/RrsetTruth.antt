-- What is told of RRsets is so.
use Rattle.std.proofs.Common.{◌≡◌, ℕ, true, false, List, [], ◌∷◌, refl, sym, subst, arith}
use Rattle.std.proofs.lemmas.Bool.{false≢true}
use Rattle.std.proofs.lemmas.List.Sorted.{Contains-permutation}
use Rattle.std.specs.List.{AllByRecursion, AllZip, enumerate_from}
use Rattle.std.specs.Prelude.{Contains}
use Rattle.dnsv_names.specs.Name.{Labels, IsAtOrBelow}
use Rattle.dnsv_names.specs.Tree.TreeLaws.{at_or_below_trans}
use Rattle.dnsv_records.specs.Rrsig.{IsRrsig}
use Rattle.dnsv_records.specs.declared.rrsig.Rrsig.{Rrsig}
use Rattle.dnsv_canonical.specs.Rdata.{IsWellFormed}
use Rattle.dnsv_canonical.specs.Rrsets.{IsNumbered, ReceivedRrset}
use Rattle.dnsv_canonical.proofs.OrderLemmas.{each_of}
use Rattle.dnsv_faults.specs.Rrsets.{AreRrsetFacts}
use Rattle.dnsv_faults.specs.Signatures.{AreSignatureFacts}
use Rattle.dnsv_zone_faults.specs.Zones.{AreZoneFacts}
use Rattle.dnsv_zone_faults.proofs.lemmas.zones.ClosedLemmas.{contains_of}
use Rattle.dnsv_zone_faults.proofs.lemmas.zones.InPlaceLemmas.{at_or_above}
use Rattle.dnsv_zone_faults.proofs.lemmas.zones.TrustLemmas.{numbered_among, zip_left}
use Rattle.dnsv_mending.specs.Mend.{is_none}
use Rattle.dnsv_mending.specs.Ways.{IsAmong}
use Rattle.dnsv_mending.specs.declared.facts.signature.RrsetFacts.{RrsetFacts}
use Rattle.dnsv_mending.specs.declared.facts.signature.SignatureFacts.{SignatureFacts}
use Rattle.dnsv_mending.specs.declared.facts.zone.ZoneFacts.{ZoneFacts}
use Rattle.dnsv_mending.specs.declared.told.Told.{Told}
use Rattle.dnsv_chain.specs.Basis.{Basis}
use Rattle.dnsv_true_reasons.proofs.truths.zones.SignatureTruth.{signature_true}
use Rattle.dnsv_true_reasons.proofs.truths.ways.Told.{IsOfRrset, IsOfSignature}
use Rattle.dnsv_true_reasons.proofs.truths.ways.Told.IsOfRrset.{by_signature, unsigned}
use Rattle.dnsv_true_reasons.proofs.truths.zones.TrueTold.{IsTold, IsUnsignedTold}

-- ---- lists

pub nothing_in : {X : Type 0} (x : X) → Contains [] x → ⊥
nothing_in x there = let within = there.1 in omega (arith, within)

none_zipped : {A B : Type 0} (R : A → B → Type 0) (xs : List A) (ys : List B) → AllZip R xs ys → is_none ys ≡ true → xs ≡ []
none_zipped R [] ys each none = refl
none_zipped R (x ∷ xs) [] each none = absurd each
none_zipped R (x ∷ xs) (y ∷ ys) each none = absurd (false≢true none)

none_before : {A B : Type 0} (R : A → B → Type 0) (xs : List A) → AllZip R xs [] → xs ≡ []
none_before R [] each = refl
none_before R (x ∷ xs) each = absurd each

none_numbered : {X : Type 0} (n : ℕ) (xs : List X) → ((p : ℕ × X) → Contains (enumerate_from n xs) p → ⊥) → xs ≡ []
none_numbered n [] never = refl
none_numbered n (x ∷ xs) never = absurd (never (n, x) (0, omega arith, refl))

-- an RRset whose facts have no signatures has none
pub no_signatures : (basis : Basis) (k : ℕ) (r : RrsetFacts) (its : AreRrsetFacts basis k r) → is_none r.signatures.items ≡ true
    → its.rrset.signatures ≡ []
no_signatures basis k r its none =
    let order : its.order ≡ [] =
    none_zipped (λ (signature : ℕ × Rrsig) known. AreSignatureFacts basis k its.rrset signature.0 known) its.order r.signatures.items
    its.each none in
    let signatures : its.in_order.signatures ≡ [] =
    none_numbered 1 its.in_order.signatures (λ p there. nothing_in p (subst (λ (each : List (ℕ × Rrsig)). Contains each p) order
    (Contains-permutation (enumerate_from 1 its.in_order.signatures) its.order p its.in_order.moved there))) in
    none_before IsRrsig its.rrset.signatures (subst (λ (each : List Rrsig). AllZip IsRrsig its.rrset.signatures each) signatures
    its.in_order.read)

pub formed_at : (rrsets : List ReceivedRrset) (k : ℕ) (rrset : ReceivedRrset) → AllByRecursion IsWellFormed rrsets
    → IsNumbered rrsets k rrset → IsWellFormed rrset
formed_at rrsets k rrset formed numbered = each_of IsWellFormed rrsets rrset formed (numbered_among rrsets k rrset numbered)

-- ---- an RRset at or above the name that is asked for

module _ (basis : Basis) (name : Labels) (t : ℕ) (zones : List ZoneFacts) (are : AreZoneFacts basis name t zones)
    (formed : AllByRecursion IsWellFormed basis.rrsets) where
  -- one of its signatures, whose signer is at or above the name where it may be the zone
  pub one_true : (k : ℕ) (r : RrsetFacts) (its : AreRrsetFacts basis k r) → (s : SignatureFacts) → IsAmong s r.signatures.items
      → ((sn : ℕ) (one : AreSignatureFacts basis k its.rrset sn s) → s.faults.signer ≡ false → IsAtOrBelow name one.rrsig.signer)
      → (line : Told) → IsOfSignature zones s line → IsTold basis name line
  one_true k r its s among above line of =
      let one = zip_left (λ (signature : ℕ × Rrsig) known. AreSignatureFacts basis k its.rrset signature.0 known) its.order
      r.signatures.items s its.each
      (contains_of s r.signatures.items among) in
      signature_true basis name t zones are k its.rrset its.numbered (formed_at basis.rrsets k its.rrset formed its.numbered) one.0.0 s
      one.2
      (above one.0.0 one.2) line of

  pub unsigned_true : (k : ℕ) (r : RrsetFacts) → AreRrsetFacts basis k r → is_none r.signatures.items ≡ true → IsUnsignedTold basis r.number
  unsigned_true k r its none = subst (IsUnsignedTold basis) (sym its.number)
      (record { rrset = its.rrset; numbered = its.numbered; none = no_signatures basis k r its none })

  pub rrset_true : (k : ℕ) (r : RrsetFacts) (its : AreRrsetFacts basis k r) → IsAtOrBelow name its.rrset.owner → (line : Told)
      → IsOfRrset zones r line → IsTold basis name line
  rrset_true k r its below line (unsigned none) = unsigned_true k r its none
  rrset_true k r its below line (by_signature s x among of) =
      one_true k r its s among (λ sn one may. at_or_below_trans name its.rrset.owner one.rrsig.signer below
      (at_or_above basis name t zones are k its.rrset sn s one may)) line of
