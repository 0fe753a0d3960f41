-- The RRsets of denials of a zone are its own, and one that it signed is secured by it.
use Rattle.std.proofs.Common.{◌≡◌, ◌⊎◌, ◌&&◌, inl, inr, ⊎_elim, ◌≤◌, ℕ, Bool, true, false, not, List, [], ◌∷◌, map, length, refl, sym, ap, ◌∙◌, subst, arith, IsTrue}
use Rattle.std.proofs.lemmas.Bool.{eqb-true, false≢true}
use Rattle.std.proofs.lemmas.Bool.Decides.{nat_tests}
use Rattle.std.specs.Prelude.{Contains, nat_eq}
use Rattle.std.specs.List.{list_any}
use Rattle.dnsv_names.specs.Name.{Labels, IsAtOrBelow, SameName, rightmost}
use Rattle.dnsv_names.specs.Tree.AncestorLaws.{rightmost_length, rightmost_same}
use Rattle.dnsv_names.specs.Tree.TreeLaws.{at_or_below_or_not, at_or_below_respects, same_labels}
use Rattle.dnsv_records.specs.Rrsig.{IsRrsig}
use Rattle.dnsv_records.specs.declared.rrsig.Rrsig.{Rrsig}
use Rattle.dnsv_records.proofs.OneRecord.{one_rrsig}
use Rattle.dnsv_canonical.specs.Rrsets.{IsNumbered, ReceivedRrset}
use Rattle.dnsv_canonical.specs.declared.number.RecordNumber.{RecordNumber}
use Rattle.dnsv_chain.specs.Trusted.{IsGoodByTrust, IsSecured}
use Rattle.dnsv_verifier.specs.Admissible.{IsSignatureOf, MaySign, is_unexpanded}
use Rattle.dnsv_chain.specs.Basis.{Basis}
use Rattle.dnsv_denial.specs.gathering.Evidence.{IsSecuredBy}
use Rattle.dnsv_mending.specs.Ways.{IsAmong}
use Rattle.dnsv_mending.specs.Within.{is_by}
use Rattle.dnsv_mending.specs.declared.facts.signature.RrsetFacts.{RrsetFacts}
use Rattle.dnsv_mending.specs.declared.facts.signature.SignatureFacts.{SignatureFacts}
use Rattle.dnsv_mending.proofs.DearLines.{or_true, or_true_second}
use Rattle.dnsv_mending.proofs.Reasons.{both_true}
use Rattle.dnsv_remedies.specs.Reasons.{AreOf, IsOf, IsPart}
use Rattle.dnsv_remedies.proofs.Once.{not_false}
use Rattle.dnsv_faults.specs.Rrsets.{AreRrsetFacts}
use Rattle.dnsv_faults.specs.Signatures.{AreSignatureFacts, IsSignatureAt}
use Rattle.dnsv_zone_faults.proofs.lemmas.zones.ClosedLemmas.{among_of, contains_of, not_true, off_by}
use Rattle.dnsv_zone_faults.proofs.lemmas.zones.TrustLemmas.{number_of, numbered_among, or_cases, signature_known, zip_left}
use Rattle.dnsv_canonical.proofs.NumberLemmas.{one_numbered}
use Rattle.dnsv_gaps.specs.Asking.{Asking}
use Rattle.dnsv_gaps.specs.Denials.{HasSigner, IsDenialNumber, IsDenialOf, IsStrayOf}
use Rattle.dnsv_gaps.specs.Parts.{AreFactsOf}
use Rattle.dnsv_true_reasons.proofs.Members.{mapped_among}
use Rattle.dnsv_true_reasons.proofs.telling.Says.{all_among}

-- ---- tests

pub any_among : {X : Type 0} (test : X → Bool) (xs : List X) (x : X) → IsAmong x xs → test x ≡ true → list_any test xs ≡ true
any_among test [] x among h = absurd among
any_among test (y ∷ ys) x among h = ⊎_elim
    (λ (e : x ≡ y). or_true (test y) (list_any test ys) (ap test (sym e) ∙ h))
    (λ (e : IsAmong x ys). or_true_second (test y) (list_any test ys) (any_among test ys x e h)) among

pub some_passing : {X : Type 0} (test : X → Bool) (xs : List X) → list_any test xs ≡ true → (x : X) × IsAmong x xs × (test x ≡ true)
some_passing test [] h = absurd (false≢true h)
some_passing test (x ∷ xs) h = ⊎_elim
    (λ (here : test x ≡ true). (x, inl refl, here))
    (λ (later : list_any test xs ≡ true). let rest = some_passing test xs later in (rest.0, inr rest.1, rest.2))
    (or_cases (test x) (list_any test xs) h)

by_test : (b : Bool) (m n : ℕ) → b ≡ false → m ≡ n → (not b && nat_eq m n) ≡ true
by_test true m n off same = absurd (false≢true (sym off))
by_test false m n off same = grind (arith, nat_tests, same)

-- ---- one signature

-- a signature with a number is one
pub one_signature : (rrset : ReceivedRrset) (s : ℕ) (x y : Rrsig) → IsSignatureAt rrset s x → IsSignatureAt rrset s y → x ≡ y
one_signature rrset s x y first second =
    let same = one_numbered rrset.signatures s first.rdata second.rdata first.numbered second.numbered in
    one_rrsig second.rdata x y (subst (λ (rdata : List ℕ). IsRrsig rdata x) same first.is) second.is

-- one that is secured, as it is read here
pub secured_as : (basis : Basis) (k s : ℕ) (rrset : ReceivedRrset) (rrsig : Rrsig) → IsNumbered basis.rrsets k rrset → IsSignatureAt rrset s rrsig
    → IsSecured basis.meaning basis.moment basis.rrsets basis.anchors k s
    → IsGoodByTrust basis.meaning basis.moment basis.rrsets basis.anchors rrset rrsig
secured_as basis k s rrset rrsig numbered its is =
    let Good = IsGoodByTrust basis.meaning basis.moment basis.rrsets basis.anchors in
    let same = one_numbered basis.rrsets k is.rrset rrset is.numbered numbered in
    let at : IsSignatureAt is.rrset s is.rrsig = record { rdata = is.rdata; numbered = is.signature; is = is.is } in
    let here = subst (λ (r : ReceivedRrset). IsSignatureAt r s is.rrsig) same at in
    let one = one_signature rrset s is.rrsig rrsig here its in
    subst (λ (x : Rrsig). Good rrset x) one (subst (λ (r : ReceivedRrset). Good r is.rrsig) same is.good)

-- two zones at or above an owner with as many labels are one
pub same_above : (owner a b : Labels) → IsAtOrBelow owner a → IsAtOrBelow owner b → length a ≡ length b → SameName a b
same_above owner a b first second same =
    sym (rightmost_same owner a first) ∙ subst (λ (n : ℕ). SameName (rightmost owner n) b) (sym same) (rightmost_same owner b second)

unexpanded_type : (t : ℕ) → (t ≡ 47) ⊎ (t ≡ 50) → IsTrue (is_unexpanded t)
unexpanded_type t (inl is) = subst (λ (n : ℕ). IsTrue (is_unexpanded n)) (sym is) refl
unexpanded_type t (inr is) = subst (λ (n : ℕ). IsTrue (is_unexpanded n)) (sym is) refl

module _ (a : Asking) where
  -- the owner of a denial is at or below the zone
  pub denial_below : (zone : Labels) (rrset : ReceivedRrset) → IsDenialOf a zone rrset → IsAtOrBelow rrset.owner zone
  denial_below zone rrset is = is.below

  -- ---- what is found of an RRset of a denial

  module _ (n : ℕ) (within : n ≤ length a.name) (r : RrsetFacts) (facts : AreRrsetFacts a.basis r.number r)
      (denial : IsDenialNumber a (rightmost a.name n) r.number) where
    same_rrset : denial.rrset ≡ facts.rrset
    same_rrset = one_numbered a.basis.rrsets r.number denial.rrset facts.rrset denial.numbered facts.numbered

    is_denial : IsDenialOf a (rightmost a.name n) facts.rrset
    is_denial = subst (λ (x : ReceivedRrset). IsDenialOf a (rightmost a.name n) x) same_rrset denial.denial

    its_type : (facts.rrset.rtype ≡ 47) ⊎ (facts.rrset.rtype ≡ 50)
    its_type = is_denial.denial.its_type

    may_sign : (signer : Labels) → IsAtOrBelow facts.rrset.owner signer → MaySign signer facts.rrset.rtype facts.rrset.owner
    may_sign signer above = record {
      above = above;
      ds = λ other. absurd (⊎_elim (λ (is : facts.rrset.rtype ≡ 47). let e = sym is ∙ other in omega (arith, e))
          (λ (is : facts.rrset.rtype ≡ 50). let e = sym is ∙ other in omega (arith, e)) its_type);
      dnskey = λ other. absurd (⊎_elim (λ (is : facts.rrset.rtype ≡ 47). let e = sym is ∙ other in omega (arith, e))
          (λ (is : facts.rrset.rtype ≡ 50). let e = sym is ∙ other in omega (arith, e)) its_type);
    }

    by_signer : HasSigner facts.rrset (rightmost a.name n) → IsOf n r
    by_signer has =
        let zone : Labels = rightmost a.name n in
        let numbered = number_of facts.rrset.signatures has.its.0 has.its.1 in
        let at : IsSignatureAt facts.rrset numbered.0 has.rrsig = record { rdata = has.its.0; numbered = numbered.1; is = has.its.2 } in
        let known = signature_known a.basis r.number r facts numbered.0 has.rrsig at in
        let one = one_signature facts.rrset numbered.0 known.are.rrsig has.rrsig known.are.its at in
        let signer : SameName known.are.rrsig.signer zone = subst (λ (x : Rrsig). SameName x.signer zone) (sym one) has.signer in
        let owner_below = denial_below zone facts.rrset is_denial in
        let may = may_sign known.are.rrsig.signer (at_or_below_respects facts.rrset.owner facts.rrset.owner zone known.are.rrsig.signer refl (sym signer) owner_below) in
        let off = off_by known.known.faults.signer (λ yes. known.are.faults.signer.0 yes may) in
        let size = rightmost_length a.name n within in
        let as_many = same_labels known.are.rrsig.signer zone signer in
        let number = known.are.signer in
        let labels : known.known.signer ≡ n = omega (arith, size, as_many, number) in
        inl (any_among (is_by n) r.signatures.items known.known (among_of known.known r.signatures.items known.among)
        (by_test known.known.faults.signer known.known.signer n off labels))

    by_stray : IsStrayOf a (rightmost a.name n) facts.rrset → IsOf n r
    by_stray stray = inr (λ s among.
        let one = zip_left (λ (signature : ℕ × Rrsig) known. AreSignatureFacts a.basis r.number facts.rrset signature.0 known) facts.order r.signatures.items s facts.each
        (contains_of s r.signatures.items among) in
        let its = one.2 in
        let of : IsSignatureOf facts.rrset its.rrsig =
        (its.its.rdata, numbered_among facts.rrset.signatures one.0.0 its.its.rdata its.its.numbered, its.its.is) in
        its.faults.signer.1 (λ may. stray.stray its.rrsig of may.above))

    -- a signature of it is by the zone, or none may be by any zone
    pub rrset_of : IsOf n r
    rrset_of = ⊎_elim (λ (has : HasSigner facts.rrset (rightmost a.name n)). by_signer has)
        (λ (stray : IsStrayOf a (rightmost a.name n) facts.rrset). by_stray stray) is_denial.its

    -- where one by the zone is good, the zone has secured it
    pub rrset_secured : (s : SignatureFacts) → IsAmong s r.signatures.items → (is_by n s && s.is_signed) ≡ true
        → IsSecuredBy (IsSecured a.basis.meaning a.basis.moment a.basis.rrsets a.basis.anchors) a.basis.rrsets (rightmost a.name n) r.number
    rrset_secured s among h =
        let zone : Labels = rightmost a.name n in
        let parts = both_true (is_by n s) s.is_signed h in
        let by = both_true (not s.faults.signer) (nat_eq s.signer n) parts.0 in
        let off = not_false s.faults.signer by.0 in
        let labels : s.signer ≡ n = eqb-true s.signer n by.1 in
        let one = zip_left (λ (signature : ℕ × Rrsig) known. AreSignatureFacts a.basis r.number facts.rrset signature.0 known) facts.order r.signatures.items s facts.each
        (contains_of s r.signatures.items among) in
        let its = one.2 in
        let secured = its.signed.0 parts.1 in
        let good = secured_as a.basis r.number one.0.0 facts.rrset its.rrsig facts.numbered its.its secured in
        let admissible = good.good.admissible in
        let number = its.signer in
        let size = rightmost_length a.name n within in
        record {
          rrset = facts.rrset;
          is_rrset = facts.numbered;
          signed = record {
            signature = one.0.0;
            secured = secured;
            rdata = its.its.rdata;
            is_signature = its.its.numbered;
            rrsig = its.rrsig;
            read = its.its.is;
            signer = same_above facts.rrset.owner its.rrsig.signer zone admissible.signer.above (denial_below zone facts.rrset is_denial)
                (omega (arith, number, size, labels));
            unexpanded = admissible.unexpanded (unexpanded_type facts.rrset.rtype its_type);
          };
        }

    -- a signature by the zone has its name as signer
    pub by_zone : (s : SignatureFacts) → IsAmong s r.signatures.items → is_by n s ≡ true
        → (number : ℕ) × ((its : AreSignatureFacts a.basis r.number facts.rrset number s) × SameName its.rrsig.signer (rightmost a.name n))
    by_zone s among h =
        let zone : Labels = rightmost a.name n in
        let by = both_true (not s.faults.signer) (nat_eq s.signer n) h in
        let off = not_false s.faults.signer by.0 in
        let labels : s.signer ≡ n = eqb-true s.signer n by.1 in
        let one = zip_left (λ (signature : ℕ × Rrsig) known. AreSignatureFacts a.basis r.number facts.rrset signature.0 known) facts.order r.signatures.items s facts.each
        (contains_of s r.signatures.items among) in
        let its = one.2 in
        let signer : Labels = its.rrsig.signer in
        let above : IsAtOrBelow facts.rrset.owner signer = ⊎_elim
        (λ (yes : IsAtOrBelow facts.rrset.owner signer). yes)
        (λ (no : ¬ IsAtOrBelow facts.rrset.owner signer). absurd (not_true s.faults.signer off (its.faults.signer.1 (λ may. no may.above))))
        (at_or_below_or_not facts.rrset.owner signer) in
        let number = its.signer in
        let size = rightmost_length a.name n within in
        (one.0.0, (its, same_above facts.rrset.owner signer zone above (denial_below zone facts.rrset is_denial) (omega (arith, number, size, labels))))

  -- ---- the RRsets of some records of denials of the zone

  module _ (n : ℕ) (within : n ≤ length a.name) (Such : RecordNumber → Type 0) (facts : List RrsetFacts) (are : AreFactsOf a.basis Such facts)
      (denials : (number : RecordNumber) → Such number → IsDenialNumber a (rightmost a.name n) number.rrset) where
    such_of : (r : RrsetFacts) → IsAmong r facts → (number : RecordNumber) × (number.rrset ≡ r.number) × Such number
    such_of r among = (are.members r.number).0 (mapped facts r among)
      where
        mapped : (xs : List RrsetFacts) (x : RrsetFacts) → IsAmong x xs → Contains (map (λ (each : RrsetFacts). each.number) xs) x.number
        mapped xs x there = contains_of x.number (map (λ (each : RrsetFacts). each.number) xs) (mapped_among (λ (each : RrsetFacts). each.number) xs x there)

    pub facts_at : (r : RrsetFacts) → IsAmong r facts → AreRrsetFacts a.basis r.number r
    facts_at r among = all_among (λ (each : RrsetFacts). AreRrsetFacts a.basis each.number each) facts r are.each among

    denial_at : (r : RrsetFacts) → IsAmong r facts → IsDenialNumber a (rightmost a.name n) r.number
    denial_at r among =
        let such = such_of r among in
        subst (λ (k : ℕ). IsDenialNumber a (rightmost a.name n) k) such.1 (denials such.0 such.2)

    pub facts_of : AreOf n facts
    facts_of r among = rrset_of n within r (facts_at r among) (denial_at r among)

    pub facts_by : (r : RrsetFacts) (among : IsAmong r facts) (s : SignatureFacts) → IsAmong s r.signatures.items → is_by n s ≡ true
        → (number : ℕ) × ((its : AreSignatureFacts a.basis r.number (facts_at r among).rrset number s) × SameName its.rrsig.signer (rightmost a.name n))
    facts_by r among s in_rrset h = by_zone n within r (facts_at r among) (denial_at r among) s in_rrset h

    -- a record of one that the zone has secured
    pub part_secured : IsPart n facts → (number : RecordNumber) × Such number
        × IsSecuredBy (IsSecured a.basis.meaning a.basis.moment a.basis.rrsets a.basis.anchors) a.basis.rrsets (rightmost a.name n) number.rrset
    part_secured part =
        let s = some_passing (λ (s : SignatureFacts). is_by n s && s.is_signed) part.r.signatures.items part.signed in
        let such = such_of part.r part.among in
        let by = rrset_secured n within part.r (facts_at part.r part.among) (denial_at part.r part.among) s.0 s.1 s.2 in (
          such.0,
          such.2,
          subst (λ (k : ℕ). IsSecuredBy (IsSecured a.basis.meaning a.basis.moment a.basis.rrsets a.basis.anchors) a.basis.rrsets (rightmost a.name n) k)
              (sym such.1) by,
        )
