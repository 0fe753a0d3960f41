-- What is told of signatures is so.
use Rattle.std.proofs.Common.{◌≡◌, ◌≤◌, ◌^◌, ℕ, Bool, true, false, inl, inr, List, [], ◌∷◌, ◌++◌, Option, Some, None, if◌then◌else◌, nat_le, refl, sym, ◌∙◌, subst, slice_get}
use Rattle.std.proofs.lemmas.Bool.{false≢true, leb-true}
use Rattle.std.specs.List.{AllByRecursion}
use Rattle.dnsv_names.specs.Name.{Labels, SameName, IsAtOrBelow, rightmost}
use Rattle.dnsv_names.specs.Tree.AncestorLaws.{rightmost_same}
use Rattle.dnsv_records.specs.Rrsig.Time.{seconds_on}
use Rattle.dnsv_records.specs.declared.rrsig.Rrsig.{Rrsig}
use Rattle.dnsv_canonical.specs.Index.{numbers_at}
use Rattle.dnsv_canonical.specs.Rdata.{IsWellFormed}
use Rattle.dnsv_canonical.specs.Rrsets.{IsNumbered, ReceivedRrset}
use Rattle.dnsv_canonical.specs.declared.number.SignatureNumber.{SignatureNumber}
use Rattle.dnsv_canonical.proofs.OrderLemmas.{each_of}
use Rattle.dnsv_chain.specs.Trusted.{IsGoodByTrust, IsSecured}
use Rattle.dnsv_zone_keys.specs.Answers.{IsKeyAnswer}
use Rattle.dnsv_zone_faults.specs.Dnskeys.{AreDnskeyFacts}
use Rattle.dnsv_faults.specs.Signatures.{AreSignatureFacts, AreSignatureFaults, IsNamedKey, times_of}
use Rattle.dnsv_zone_faults.specs.Zones.{AreZoneFacts}
use Rattle.dnsv_zone_faults.proofs.lemmas.zones.ClosedLemmas.{closed_signature, contains_of}
use Rattle.dnsv_zone_faults.proofs.lemmas.zones.TrustLemmas.{zip_left}
use Rattle.dnsv_canonical.proofs.NumberLemmas.{each_number, IsOneAt, one_numbered}
use Rattle.dnsv_lines.specs.declared.line.fault.signature.SignatureTimes.{SignatureTimes}
use Rattle.dnsv_lines.specs.declared.line.fault.signature.WhySignature.{WhySignature}
use Rattle.dnsv_lines.specs.declared.line.fault.signature.WhySignature.TheVariants as why
use Rattle.dnsv_mending.specs.Faults.{answer_lines, expired_lines, fault_lines, not_yet_lines, signature_lines, when}
use Rattle.dnsv_mending.specs.Ways.{IsAmong}
use Rattle.dnsv_mending.specs.Zone.{is_zone_trusted}
use Rattle.dnsv_mending.specs.declared.facts.keys.DnskeyFacts.{DnskeyFacts}
use Rattle.dnsv_mending.specs.declared.facts.signature.KeyAnswer.{KeyAnswer}
use Rattle.dnsv_mending.specs.declared.facts.signature.KeyAnswer.TheVariants as said
use Rattle.dnsv_mending.specs.declared.facts.signature.NamedKey.{NamedKey}
use Rattle.dnsv_mending.specs.declared.facts.signature.SignatureFacts.{SignatureFacts}
use Rattle.dnsv_mending.specs.declared.facts.signature.SignatureFaults.{SignatureFaults}
use Rattle.dnsv_mending.specs.declared.facts.zone.ZoneFacts.{ZoneFacts}
use Rattle.dnsv_mending.specs.declared.told.Told.{Told}
use Rattle.dnsv_mending.specs.declared.told.Told.TheVariants as told
use Rattle.dnsv_mending.proofs.AllWays.{all_append}
use Rattle.dnsv_mending.proofs.SomeWays.{passing}
use Rattle.dnsv_chain.specs.Basis.{Basis}
use Rattle.dnsv_verifier.specs.declared.answer.Answer.TheVariants.{Valid, Invalid, Unknown}
use Rattle.dnsv_true_reasons.specs.Ends.{IsTrustedZone}
use Rattle.dnsv_true_reasons.specs.truth.Signatures.{IsSignatureTrue}
use Rattle.dnsv_true_reasons.proofs.truths.zones.Answered.{IsClean, covers, has_answer, unknown}
use Rattle.dnsv_true_reasons.proofs.truths.ways.MendLines.{all_when}
use Rattle.dnsv_true_reasons.proofs.truths.ways.Told.{IsOfSignature}
use Rattle.dnsv_true_reasons.proofs.truths.ways.Told.IsOfSignature.{answered, follows, unnamed, untrusted, wrong}
use Rattle.dnsv_true_reasons.proofs.truths.zones.TrueTold.{IsSignatureTold, IsTold}
use Rattle.dnsv_true_reasons.proofs.truths.ways.KeyWays.{empty_left, empty_right}

-- ---- lists

pub among_all : {X : Type 0} (P : X → Type 0) (xs : List X) (x : X) → AllByRecursion P xs → IsAmong x xs → P x
among_all P [] x all among = absurd among
among_all P (y ∷ xs) x all (inl same) = subst P (sym same) all.0
among_all P (y ∷ xs) x all (inr later) = among_all P xs x all.1 later

not_when : (b : Bool) (t : Told) → when b t ≡ [] → b ≡ false
not_when false t none = refl
not_when true t none = absurd (cc none)

none_not_yet : (n : SignatureNumber) (o : Option SignatureTimes) → not_yet_lines n o ≡ [] → o ≡ None
none_not_yet n None none = refl
none_not_yet n (Some times) none = absurd (cc none)

none_expired : (n : SignatureNumber) (o : Option SignatureTimes) → expired_lines n o ≡ [] → o ≡ None
none_expired n None none = refl
none_expired n (Some times) none = absurd (cc none)

pub clean_of : (n : SignatureNumber) (f : SignatureFaults) → fault_lines n f ≡ [] → IsClean f
clean_of n f none =
    let a = when f.labels (told.Signature why.Labels n) in
    let b = when f.signer (told.Signature why.Signer n) in
    let c = when f.expanded (told.Signature why.Expanded n) in
    let d = when f.algorithm (told.Signature why.Algorithm n) in
    let e = not_yet_lines n f.not_yet in
    let g = expired_lines n f.expired in
    let to_e = empty_left (a ++ b ++ c ++ d ++ e) g none in
    let to_d = empty_left (a ++ b ++ c ++ d) e to_e in
    let to_c = empty_left (a ++ b ++ c) d to_d in
    let to_b = empty_left (a ++ b) c to_c in record {
      labels = not_when f.labels _ (empty_left a b to_b);
      signer = not_when f.signer _ (empty_right a b to_b);
      expanded = not_when f.expanded _ (empty_right (a ++ b) c to_c);
      algorithm = not_when f.algorithm _ (empty_right (a ++ b ++ c) d to_d);
      not_yet = none_not_yet n f.not_yet (empty_right (a ++ b ++ c ++ d) e to_e);
      expired = none_expired n f.expired (empty_right (a ++ b ++ c ++ d ++ e) g none);
    }

-- ---- what is wrong with it

module _ (P : Told → Type 0) (n : SignatureNumber) where
  not_yet_all : (limit x : ℕ) (times : SignatureTimes) (o : Option SignatureTimes) → o ≡ (if nat_le limit x then Some times else None)
      → (limit ≤ x → P (told.Signature (why.NotYet times) n)) → AllByRecursion P (not_yet_lines n o)
  not_yet_all limit x times o is each = by (nat_le limit x) refl is
    where
      by : (b : Bool) → nat_le limit x ≡ b → o ≡ (if b then Some times else None) → AllByRecursion P (not_yet_lines n o)
      by true e same = subst (λ (each_o : Option SignatureTimes). AllByRecursion P (not_yet_lines n each_o)) (sym same)
          (each (leb-true limit x e), tt)
      by false e same = subst (λ (each_o : Option SignatureTimes). AllByRecursion P (not_yet_lines n each_o)) (sym same) tt

  expired_all : (limit x : ℕ) (times : SignatureTimes) (o : Option SignatureTimes) → o ≡ (if nat_le limit x then Some times else None)
      → (limit ≤ x → P (told.Signature (why.Expired times) n)) → AllByRecursion P (expired_lines n o)
  expired_all limit x times o is each = by (nat_le limit x) refl is
    where
      by : (b : Bool) → nat_le limit x ≡ b → o ≡ (if b then Some times else None) → AllByRecursion P (expired_lines n o)
      by true e same = subst (λ (each_o : Option SignatureTimes). AllByRecursion P (expired_lines n each_o)) (sym same)
          (each (leb-true limit x e), tt)
      by false e same = subst (λ (each_o : Option SignatureTimes). AllByRecursion P (expired_lines n each_o)) (sym same) tt

  module _ (basis : Basis) (rrset : ReceivedRrset) (rrsig : Rrsig) (f : SignatureFaults)
      (are : AreSignatureFaults basis.moment rrset rrsig f)
      (each : (w : WhySignature) → IsSignatureTrue basis rrset rrsig w → P (told.Signature w n)) where
    pub faults_all : AllByRecursion P (fault_lines n f)
    faults_all =
        let a = when f.labels (told.Signature why.Labels n) in
        let b = when f.signer (told.Signature why.Signer n) in
        let c = when f.expanded (told.Signature why.Expanded n) in
        let d = when f.algorithm (told.Signature why.Algorithm n) in
        let e = not_yet_lines n f.not_yet in
        let g = expired_lines n f.expired in
        let early = times_of rrsig (seconds_on basis.moment rrsig.inception.0) in
        let late = times_of rrsig (seconds_on rrsig.expiration.0 basis.moment) in
        all_append P (a ++ b ++ c ++ d ++ e) g
        (all_append P (a ++ b ++ c ++ d) e
        (all_append P (a ++ b ++ c) d
        (all_append P (a ++ b) c
        (all_append P a b
        (all_when P f.labels _ (λ on. each why.Labels (are.labels.0 on)))
        (all_when P f.signer _ (λ on. each why.Signer (are.signer.0 on))))
        (all_when P f.expanded _ (λ on. each why.Expanded (are.expanded.0 on))))
        (all_when P f.algorithm _ (λ on. each why.Algorithm (are.algorithm.0 on))))
        (not_yet_all (2 ^ 31) (seconds_on rrsig.inception.0 basis.moment) early f.not_yet are.not_yet
        (λ past. each (why.NotYet early) (past, refl))))
        (expired_all (2 ^ 31) (seconds_on basis.moment rrsig.expiration.0) late f.expired are.expired
        (λ past. each (why.Expired late) (past, refl)))

-- ---- a signature

module _ (basis : Basis) (name : Labels) (t : ℕ) (zones : List ZoneFacts) (are : AreZoneFacts basis name t zones) (k : ℕ)
    (rrset : ReceivedRrset)
    (numbered : IsNumbered basis.rrsets k rrset) (formed : IsWellFormed rrset) (sn : ℕ) (s : SignatureFacts)
    (its : AreSignatureFacts basis k rrset sn s)
    (above : s.faults.signer ≡ false → IsAtOrBelow name its.rrsig.signer) where
  it_is : (w : WhySignature) → IsSignatureTrue basis rrset its.rrsig w → IsTold basis name (told.Signature w s.number)
  it_is w is = subst (λ (n : SignatureNumber). IsSignatureTold basis w n) (sym its.number)
      (record { rrset = rrset; numbered = numbered; rrsig = its.rrsig; its = its.its; is = is })

  wrong_all : AllByRecursion (IsTold basis name) (signature_lines s)
  wrong_all =
      let P = IsTold basis name in
      let faults = fault_lines s.number s.faults in
      let missing = when s.key_missing (told.Signature why.KeyMissing s.number) in
      let other = when s.not_zone_key (told.Signature why.NotZoneKey s.number) in
      all_append P (faults ++ missing) other
      (all_append P faults missing (faults_all P s.number basis rrset its.rrsig s.faults its.faults it_is)
      (all_when P s.key_missing _ (λ on. it_is why.KeyMissing (its.key_missing.0 on))))
      (all_when P s.not_zone_key _ (λ on. it_is why.NotZoneKey (inl (its.not_zone_key.0 on))))

  faults_clean : signature_lines s ≡ [] → IsClean s.faults
  faults_clean clean =
      let faults = fault_lines s.number s.faults in
      let missing = when s.key_missing (told.Signature why.KeyMissing s.number) in
      let other = when s.not_zone_key (told.Signature why.NotZoneKey s.number) in
      clean_of s.number s.faults (empty_left faults missing (empty_left (faults ++ missing) other clean))

  named_key : (n : NamedKey) → IsAmong n s.keys.items → IsNamedKey basis rrset its.rrsig n
  named_key n among = each_of (IsNamedKey basis rrset its.rrsig) s.keys.items n its.keys.each (contains_of n s.keys.items among)

  answer_told : (n : NamedKey) (key : IsNamedKey basis rrset its.rrsig n) → signature_lines s ≡ [] → (a : KeyAnswer)
      → IsKeyAnswer basis.meaning basis.moment rrset its.rrsig key.key a → (line : Told) → IsAmong line (answer_lines s.number a)
      → IsTold basis name line
  answer_told n key clean said.Good is line among = absurd among
  answer_told n key clean said.Bad is line (inl same) =
      subst (IsTold basis name) (sym same) (it_is why.Bad (has_answer basis rrset its.rrsig n.key key.key Invalid key.placed is))
  answer_told n key clean said.Unanswered is line (inl same) =
      let asked = unknown basis rrset its.rrsig s.faults its.faults (faults_clean clean) (covers rrset sn its.rrsig formed its.its)
      key.key key.meant key.placed.owner is in
      subst (IsTold basis name) (sym same) (it_is why.Unanswered (has_answer basis rrset its.rrsig n.key key.key Unknown key.placed asked))
  answer_told n key clean a is line (inr never) = absurd never

  trusted_signer : (z : ZoneFacts) → slice_get zones s.signer ≡ Some z → is_zone_trusted z ≡ true → s.faults.signer ≡ false
      → IsTrustedZone basis its.rrsig.signer
  trusted_signer z at trusted may =
      let zone = rightmost name s.signer in
      let signer : SameName its.rrsig.signer zone =
      subst (λ (n : ℕ). SameName its.rrsig.signer (rightmost name n)) (sym its.signer)
      (sym (rightmost_same name its.rrsig.signer (above may))) in
      let one = passing (λ (r : DnskeyFacts). r.is_trusted) z.dnskeys.items trusted in
      let of = zip_left (AreDnskeyFacts basis zone) (numbers_at basis.rrsets zone 48) z.dnskeys.items one.x (are.each s.signer z at).dnskeys
      (contains_of one.x z.dnskeys.items one.among) in
      let listed = each_of (IsOneAt basis.rrsets zone 48) (numbers_at basis.rrsets zone 48) of.0 (each_number basis.rrsets zone 48) of.1 in
      let same = one_numbered basis.rrsets of.0 listed.rrset of.2.set listed.is_rrset of.2.numbered in
      let owner : SameName of.2.set.owner zone = subst (λ (r : ReceivedRrset). SameName r.owner zone) same listed.owner in
      (of.2.set, of.2.trusted.0 one.passes, owner ∙ sym signer)

  not_by_trust : s.is_signed ≡ false → IsGoodByTrust basis.meaning basis.moment basis.rrsets basis.anchors rrset its.rrsig → ⊥
  not_by_trust loose good =
      let secured : IsSecured basis.meaning basis.moment basis.rrsets basis.anchors k sn = record {
        rrset = rrset;
        numbered = numbered;
        rdata = its.its.rdata;
        signature = its.its.numbered;
        rrsig = its.rrsig;
        is = its.its.is;
        good = good;
      } in
      false≢true (sym loose ∙ its.signed.1 secured)

  untrusted_told : (z : ZoneFacts) (n : NamedKey) → slice_get zones s.signer ≡ Some z → is_zone_trusted z ≡ true → s.is_signed ≡ false
      → s.faults.signer ≡ false → IsAmong n s.keys.items → n.answer ≡ said.Good
      → IsTold basis name (told.Signature why.KeyUntrusted s.number)
  untrusted_told z n at trusted loose may among good =
      let key = named_key n among in
      let answered = subst (λ (a : KeyAnswer). IsKeyAnswer basis.meaning basis.moment rrset its.rrsig key.key a) good key.answered in
      let has = has_answer basis rrset its.rrsig n.key key.key Valid key.placed answered in
      it_is why.KeyUntrusted (
        (
          has.key,
          has.among,
          record {
            admissible = has.answered.admissible;
            entry = has.answered.entry;
            is = has.answered.is;
            valid = has.answered.says;
          },
        ),
        trusted_signer z at trusted may,
        not_by_trust loose,
      )

  pub signature_true : (line : Told) → IsOfSignature zones s line → IsTold basis name line
  signature_true line (wrong x among) = among_all (IsTold basis name) (signature_lines s) line wrong_all among
  signature_true line (answered n x among clean there) =
      let key = named_key n among in answer_told n key clean n.answer key.answered line there
  signature_true line (untrusted z n at trusted loose may clean among good) = untrusted_told z n at trusted loose may among good
  signature_true line (unnamed z at trusted may clean none) =
      let closed = closed_signature basis name t zones are k rrset numbered sn s its above in
      absurd (false≢true (sym (closed.unnamed z at none clean) ∙ trusted))
  signature_true line follows = tt
