-- What is told of a key in a DNSKEY RRset is so.
use Rattle.std.proofs.Common.{◌≡◌, ◌≢◌, ◌+◌, ◌-◌, ℕ, suc, true, false, inl, inr, List, [], ◌∷◌, Some, map, refl, sym, ◌∙◌, subst, slice_get, arith}
use Rattle.std.proofs.lemmas.Bool.{false≢true}
use Rattle.std.specs.Prelude.{Contains}
use Rattle.dnsv_names.specs.Name.{Labels, SameName}
use Rattle.dnsv_canonical.specs.Rdata.{IsWellFormed}
use Rattle.dnsv_canonical.specs.Rrsets.{IsNumbered, ReceivedRrset}
use Rattle.dnsv_canonical.proofs.OrderLemmas.{each_of}
use Rattle.dnsv_zone_keys.specs.Answers.{IsAnswered, IsKeyAnswer}
use Rattle.dnsv_zone_faults.specs.Dnskeys.{AreDnskeyFacts, AreHeldKeys, IsHeldKey, IsOwnSignature, signature_number}
use Rattle.dnsv_zone_faults.proofs.lemmas.zones.ClosedLemmas.{contains_of}
use Rattle.dnsv_zone_faults.proofs.lemmas.zones.TrustLemmas.{number_of, numbered_among}
use Rattle.dnsv_lines.specs.declared.line.fault.signature.WhySignature.{WhySignature}
use Rattle.dnsv_lines.specs.declared.line.fault.signature.WhySignature.TheVariants as why
use Rattle.dnsv_mending.specs.Faults.{answer_lines, fault_lines}
use Rattle.dnsv_mending.specs.Mend.{is_none}
use Rattle.dnsv_mending.specs.Ways.{IsAmong}
use Rattle.dnsv_mending.specs.declared.facts.keys.DnskeyFacts.{DnskeyFacts}
use Rattle.dnsv_mending.specs.declared.facts.keys.HeldKey.{HeldKey}
use Rattle.dnsv_mending.specs.declared.facts.keys.SelfSignature.{SelfSignature}
use Rattle.dnsv_mending.specs.declared.facts.signature.KeyAnswer.{KeyAnswer}
use Rattle.dnsv_mending.specs.declared.facts.signature.KeyAnswer.TheVariants as said
use Rattle.dnsv_mending.specs.declared.told.Told.{Told}
use Rattle.dnsv_mending.specs.declared.told.Told.TheVariants as told
use Rattle.dnsv_chain.specs.Basis.{Basis}
use Rattle.dnsv_verifier.specs.Admissible.{DnskeyRecord, IsKeyAmong}
use Rattle.dnsv_verifier.specs.declared.answer.Answer.{Answer}
use Rattle.dnsv_verifier.specs.declared.answer.Answer.TheVariants.{Invalid, Unknown}
use Rattle.dnsv_true_reasons.specs.truth.Signatures.{HasAnswer, IsSignatureTrue}
use Rattle.dnsv_true_reasons.proofs.truths.zones.Answered.{covers, may_sign, unknown}
use Rattle.dnsv_true_reasons.proofs.truths.zones.RrsetTruth.{nothing_in}
use Rattle.dnsv_true_reasons.proofs.truths.zones.SignatureTruth.{among_all, clean_of, faults_all}
use Rattle.dnsv_true_reasons.proofs.truths.ways.Told.{IsOfKey}
use Rattle.dnsv_true_reasons.proofs.truths.ways.Told.IsOfKey.{not_self_signed, self_answered, self_no_zone_key, self_wrong, unsigned_set}
use Rattle.dnsv_true_reasons.proofs.truths.zones.TrueTold.{IsKeyTold, IsTold, IsUnsignedTold}

-- a key with its place in canonical order
pub record IsHeldThere (basis : Basis) (zone : Labels) (k : ℕ) (set : ReceivedRrset) (n : ℕ) (canonical : List (List ℕ)) (held : HeldKey)
    : Type 0 where
  pub i : ℕ
  pub rdata : List ℕ
  pub at : slice_get canonical i ≡ Some rdata
  pub is : IsHeldKey basis zone k set (n + i) rdata held

pub held_there : (basis : Basis) (zone : Labels) (k : ℕ) (set : ReceivedRrset) (n : ℕ) (canonical : List (List ℕ)) (keys : List HeldKey)
    (held : HeldKey)
    → AreHeldKeys basis zone k set n canonical keys → IsAmong held keys → IsHeldThere basis zone k set n canonical held
held_there basis zone k set n [] [] held are among = absurd among
held_there basis zone k set n [] (y ∷ keys) held are among = absurd are
held_there basis zone k set n (x ∷ xs) [] held are among = absurd are
held_there basis zone k set n (x ∷ xs) (y ∷ keys) held are (inl same) =
    let number : n ≡ n + 0 = omega arith in record {
      i = 0;
      rdata = x;
      at = refl;
      is = subst (λ (p : ℕ). IsHeldKey basis zone k set p x held) number
          (subst (λ (h : HeldKey). IsHeldKey basis zone k set n x h) (sym same) are.0);
    }
held_there basis zone k set n (x ∷ xs) (y ∷ keys) held are (inr later) =
    let rest = held_there basis zone k set (n + 1) xs keys held are.1 later in
    let number : n + 1 + rest.i ≡ n + suc rest.i = omega arith in record {
      i = suc rest.i;
      rdata = rest.rdata;
      at = rest.at;
      is = subst (λ (p : ℕ). IsHeldKey basis zone k set p rest.rdata held) number rest.is;
    }

none_mapped : {X Y : Type 0} (f : X → Y) (xs : List X) (y : Y) → is_none xs ≡ true → Contains (map f xs) y → ⊥
none_mapped f [] y none there = nothing_in y there
none_mapped f (x ∷ xs) y none there = false≢true none

pub numbered_next : {X : Type 0} (xs : List X) (i : ℕ) (x : X) → slice_get xs i ≡ Some x → IsNumbered xs (1 + i) x
numbered_next xs i x at =
    let place : i ≡ 1 + i - 1 = omega arith in (omega arith, subst (λ (p : ℕ). slice_get xs p ≡ Some x) place at)

no_some : (basis : Basis) {X : Type 0} (xs : List X) → (xs ≢ [] → ⊥) → xs ≡ []
no_some basis [] never = refl
no_some basis (x ∷ xs) never = absurd (never (λ none. cc none))

module _ (basis : Basis) (name zone : Labels) (k : ℕ) (r : DnskeyFacts) (its : AreDnskeyFacts basis zone k r)
    (formed : IsWellFormed its.set)
    (held : HeldKey) (among : IsAmong held r.keys.items) where
  there : IsHeldThere basis zone k its.set 1 its.canonical held
  there = held_there basis zone k its.set 1 its.canonical r.keys.items held its.keys among

  abbrev key : DnskeyRecord
  key = there.is.key

  key_told : is_none held.signatures.items ≡ true → r.has_signatures ≡ true → IsKeyTold basis held.number
  key_told none has = subst (IsKeyTold basis) (sym there.is.number) (record {
    set = its.set;
    numbered = its.numbered;
    key = there.is.key;
    placed = record {
      canonical = its.canonical;
      in_order = its.in_order;
      numbered = subst (λ (rdata : List ℕ). IsNumbered its.canonical (1 + there.i) rdata) (sym there.is.rdata_is)
          (numbered_next its.canonical there.i there.rdata there.at);
    };
    stands = there.is.stands;
    signed = its.signed.0 has;
    none = λ rrsig of may.
        let at = number_of its.set.signatures of.0 of.1 in
        none_mapped signature_number held.signatures.items at.0 none
        (there.is.signatures.all at.0 rrsig (record { rdata = of.0; numbered = at.1; is = of.2 }) may);
  })

  unsigned_told : r.has_signatures ≡ false → IsUnsignedTold basis r.number
  unsigned_told none = subst (IsUnsignedTold basis) (sym its.number) (record {
    rrset = its.set;
    numbered = its.numbered;
    none = no_some basis its.set.signatures (λ some. false≢true (sym none ∙ its.signed.1 some));
  })

  own_signature : (s : SelfSignature) → IsAmong s held.signatures.items → IsOwnSignature basis k its.set there.is.key s
  own_signature s mine = each_of (IsOwnSignature basis k its.set there.is.key) held.signatures.items s there.is.signatures.each
      (contains_of s held.signatures.items mine)

  it_is : (s : SelfSignature) (own : IsOwnSignature basis k its.set there.is.key s) (w : WhySignature)
      → IsSignatureTrue basis its.set own.rrsig w
      → IsTold basis name (told.Signature w s.number)
  it_is s own w is = record {
    rrset = its.set;
    numbered = subst (λ (n : ℕ). IsNumbered basis.rrsets n its.set) (sym own.rrset) its.numbered;
    rrsig = own.rrsig;
    its = own.its;
    is = is;
  }

  among_evidence : IsKeyAmong basis.rrsets there.is.key
  among_evidence = let stands = there.is.stands in record {
    rrset = its.set;
    among = numbered_among basis.rrsets k its.set its.numbered;
    rtype = stands.rtype;
    owner = stands.owner;
    rdata = stands.among;
    is = stands.is;
  }

  its_answer : (s : SelfSignature) (own : IsOwnSignature basis k its.set there.is.key s) (answer : Answer)
      → IsAnswered basis.meaning basis.moment its.set own.rrsig there.is.key answer → HasAnswer basis its.set own.rrsig answer
  its_answer s own answer answered = record { key = there.is.key; among = among_evidence; answered = answered }

  answer_told : (s : SelfSignature) (own : IsOwnSignature basis k its.set there.is.key s) → fault_lines s.number s.faults ≡ []
      → held.is_zone_key ≡ true
      → (a : KeyAnswer) → IsKeyAnswer basis.meaning basis.moment its.set own.rrsig there.is.key a → (line : Told)
      → IsAmong line (answer_lines s.number a)
      → IsTold basis name line
  answer_told s own clean zone_key said.Good is line never = absurd never
  answer_told s own clean zone_key said.Bad is line (inl same) = subst (IsTold basis name) (sym same)
      (it_is s own why.Bad (its_answer s own Invalid is))
  answer_told s own clean zone_key said.Unanswered is line (inl same) =
      let no_faults = clean_of s.number s.faults clean in
      let may = may_sign own.rrsig.signer its.set.rtype its.set.owner
      (λ never. false≢true (sym no_faults.signer ∙ own.faults.signer.1 never)) in
      let stands = there.is.stands in
      let owner : SameName there.is.key.owner own.rrsig.signer =
      subst (λ (labels : Labels). SameName labels own.rrsig.signer) (sym stands.owner) (may.dnskey stands.rtype) in
      let asked = unknown basis its.set own.rrsig s.faults own.faults no_faults
      (covers its.set s.number.signature own.rrsig formed own.its) there.is.key
      (record { named = own.may.named; zone_key = there.is.zone_key.0 zone_key }) owner is in
      subst (IsTold basis name) (sym same) (it_is s own why.Unanswered (its_answer s own Unknown asked))
  answer_told s own clean zone_key a is line (inr never) = absurd never

  pub key_true : (line : Told) → IsOfKey r held line → IsTold basis name line
  key_true line (not_self_signed none has) = key_told none has
  key_true line (unsigned_set none) = unsigned_told none
  key_true line (self_wrong s x mine wrong) =
      let own = own_signature s mine in
      among_all (IsTold basis name) (fault_lines s.number s.faults) line
      (faults_all (IsTold basis name) s.number basis its.set own.rrsig s.faults own.faults (it_is s own)) wrong
  key_true line (self_no_zone_key s mine off) =
      let own = own_signature s mine in
      it_is s own why.NotZoneKey (inr (record {
        key = there.is.key;
        stands = there.is.stands;
        named = own.may.named;
        no_zone_key = λ is. false≢true (sym off ∙ there.is.zone_key.1 is);
      }))
  key_true line (self_answered s x mine clean zone_key answer) =
      let own = own_signature s mine in answer_told s own clean zone_key s.answer own.answered line answer
