-- Derivations are the same at each moment at which the same signatures are valid.
use Rattle.std.proofs.Common.{◌≡◌, ℕ, List, [], ◌∷◌, ◌++◌}
use Rattle.dnsv_names.specs.Name.{Labels}
use Rattle.dnsv_canonical.specs.Rrsets.{ReceivedRrset}
use Rattle.dnsv_canonical.specs.declared.number.RecordNumber.{RecordNumber}
use Rattle.dnsv_canonical.specs.declared.number.SignatureNumber.{SignatureNumber}
use Rattle.dnsv_verifier.specs.Admissible.{DnskeyRecord}
use Rattle.dnsv_verifier.specs.declared.answer.Answer.{Answer}
use Rattle.dnsv_verifier.specs.declared.entry.Entry.{Entry}
use Rattle.dnsv_chain.specs.Trust.{KeptTrust}
use Rattle.dnsv_anchors.specs.declared.anchor.Anchor.{Anchor}
use Rattle.dnsv_derivations.proofs.lemmas.denials.PartLemmas.{secured_too}
use Rattle.dnsv_derivations.proofs.lemmas.derivations.DerivationLemmas.{matched_then}
use Rattle.dnsv_derivations.specs.Explained.{Setting}
use Rattle.dnsv_derivations.specs.Following.{IsGoodUnder}
use Rattle.dnsv_derivations.specs.Saying.{AreBoth, AreEach}
use Rattle.dnsv_derivations.specs.derivations.Derivations.{IsDerivation, IsLowestSecured, Subject}
use Rattle.dnsv_derivations.specs.derivations.Derivations.IsDerivation.{said_trusted, anchored, delegated, said_signed, signed}
use Rattle.dnsv_derivations.specs.derivations.OwnDerivations.{AreRecordsDerived, IsLowestOwn, IsOwnDerivation, IsOwnSignature, IsSignatureTold, IsTrustIn, SecuredIn}
use Rattle.dnsv_derivations.specs.derivations.Ways.{HasSecured, IsFirstSigner, IsFirstWay, IsSignedLine, IsSigner, IsTrustedLine, IsWayInto, Way}
use Rattle.dnsv_lines.specs.declared.line.Line.{Line}
use Rattle.dnsv_lines.specs.declared.line.derivation.SignedRrset.{SignedRrset}
use Rattle.dnsv_lines.specs.declared.line.derivation.TrustedKeys.{TrustedKeys}
use Rattle.dnsv_moments.proofs.lemmas.validity.MomentLemmas.{StayValid, good_at, numbered_among, secured_at, trusted_at}

-- ---- lines one after another

pub both_too : {First Second Third Fourth : List Line → List Line → Type 0}
    → ((before lines : List Line) → First before lines → Third before lines)
    → ((before lines : List Line) → Second before lines → Fourth before lines)
    → (before lines : List Line) → AreBoth First Second before lines → AreBoth Third Fourth before lines
both_too first second before lines both = record {
  first = both.first;
  second = both.second;
  parts = both.parts;
  says_first = first before both.first both.says_first;
  says_second = second (before ++ both.first) both.second both.says_second;
}

pub each_too : {X : Type 0} {Says Then : X → List Line → List Line → Type 0}
    → ((x : X) (before lines : List Line) → Says x before lines → Then x before lines)
    → (xs : List X) (before lines : List Line) → AreEach Says xs before lines → AreEach Then xs before lines
each_too too [] before lines each = each
each_too {Says = Says} {Then = Then} too (x ∷ xs) before lines each =
    both_too {First = Says x} {Second = AreEach Says xs} {Third = Then x} {Fourth = AreEach Then xs}
    (too x) (each_too {Says = Says} {Then = Then} too xs) before lines each

-- ---- what is there

abbrev pub setting_at : List ReceivedRrset → List Anchor → (Entry → Answer) → List Entry → ℕ → Setting
setting_at rrsets anchors meaning todo moment =
    record { rrsets = rrsets; anchors = anchors; moment = moment; meaning = meaning; todo = todo }

module _ (rrsets : List ReceivedRrset) (anchors : List Anchor) (meaning : Entry → Answer) (todo : List Entry) (moment other : ℕ)
    (stays : StayValid rrsets moment other) where
  abbrev Now : Setting
  Now = setting_at rrsets anchors meaning todo moment

  abbrev Then : Setting
  Then = setting_at rrsets anchors meaning todo other

  is_secured : (k s : ℕ) → SecuredIn Now k s → SecuredIn Then k s
  is_secured k s is = secured_at meaning moment other rrsets anchors stays k s is

  pub has_secured : (k : ℕ) → HasSecured Now k → HasSecured Then k
  has_secured k has = (has.0, is_secured k has.0 has.1)

  abbrev good_under : (number : SignatureNumber) (rrset : ReceivedRrset) (key : DnskeyRecord) → IsGoodUnder Now number rrset key
      → IsGoodUnder Then number rrset key
  good_under number rrset key is = record {
    is_rrset = is.is_rrset;
    rdata = is.rdata;
    is_signature = is.is_signature;
    rrsig = is.rrsig;
    read = is.read;
    good = good_at meaning moment other rrset is.rrsig key
        (stays rrset is.rrsig (numbered_among rrsets number.rrset rrset is.is_rrset)
        (is.rdata, numbered_among rrset.signatures number.signature is.rdata is.is_signature, is.read)) is.good;
  }

  abbrev way_into : (k : ℕ) (way : Way) → IsWayInto Now k way → IsWayInto Then k way
  way_into k way is = record {
    set = is.set;
    stands = is.stands;
    good = good_under (record { rrset = k; signature = way.signature }) is.set way.key is.good;
    matched = matched_then rrsets anchors (HasSecured Now) (HasSecured Then) has_secured way.voucher way.key is.matched;
  }

  abbrev is_signer : (number : SignatureNumber) (k : ℕ) (key : DnskeyRecord) → IsSigner Now number k key → IsSigner Then number k key
  is_signer number k key is = record {
    rrset = is.rrset;
    good = good_under number is.rrset key is.good;
    set = is.set;
    is_set = is.is_set;
    stands = is.stands;
    trusted = trusted_at meaning moment other rrsets anchors stays is.trusted;
  }

  own_signature : (zone : Labels) (k s : ℕ) → IsOwnSignature Now zone k s → IsOwnSignature Then zone k s
  own_signature zone k s own =
      secured_too (λ j t. (t ≡ s) × SecuredIn Now j t) (λ j t. (t ≡ s) × SecuredIn Then j t) rrsets zone k
      (λ t is. (is.0, is_secured k t is.1)) own

-- ---- what is told first

module _ (rrsets : List ReceivedRrset) (anchors : List Anchor) (meaning : Entry → Answer) (todo : List Entry) (moment other : ℕ)
    (to : StayValid rrsets moment other) (from : StayValid rrsets other moment) where
  abbrev Here : Setting
  Here = setting_at rrsets anchors meaning todo moment

  abbrev There : Setting
  There = setting_at rrsets anchors meaning todo other

  way_back : (k : ℕ) (way : Way) → IsWayInto There k way → IsWayInto Here k way
  way_back k way is = way_into rrsets anchors meaning todo other moment from k way is

  signer_back : (number : SignatureNumber) (k : ℕ) (key : DnskeyRecord) → IsSigner There number k key → IsSigner Here number k key
  signer_back number k key is = is_signer rrsets anchors meaning todo other moment from number k key is

  pub secured_back : (k s : ℕ) → SecuredIn There k s → SecuredIn Here k s
  secured_back k s is = is_secured rrsets anchors meaning todo other moment from k s is

  abbrev first_way : (k : ℕ) (way : Way) → IsFirstWay Here k way → IsFirstWay There k way
  first_way k way first = record {
    is = way_into rrsets anchors meaning todo moment other to k way first.is;
    voucher = λ each is. first.voucher each (way_back k each is);
    key = λ each is same. first.key each (way_back k each is) same;
    signature = λ each is same by. first.signature each (way_back k each is) same by;
  }

  trusted_line : (k : ℕ) (keys : TrustedKeys) → IsTrustedLine Here k keys → IsTrustedLine There k keys
  trusted_line k keys is = record {
    way = is.way;
    first = first_way k is.way is.first;
    zone = is.zone;
    signature = is.signature;
    named = is.named;
    voucher = is.voucher;
    todo = is.todo;
  }

  abbrev first_signer : (number : SignatureNumber) (k : ℕ) (key : DnskeyRecord) → IsFirstSigner Here number k key → IsFirstSigner There number k key
  first_signer number k key first = record {
    is = is_signer rrsets anchors meaning todo moment other to number k key first.is;
    lowest = λ j each is. first.lowest j each (signer_back number j each is);
    earliest = λ j each is same. first.earliest j each (signer_back number j each is) same;
  }

  signed_line : (number : SignatureNumber) (one : SignedRrset) → IsSignedLine Here number one → IsSignedLine There number one
  signed_line number one is = record {
    key = is.key;
    first = first_signer number one.keys is.key is.first;
    owner = is.owner;
    rtype = is.rtype;
    signature = is.signature;
    named = is.named;
    zone = is.zone;
    todo = is.todo;
  }

  pub lowest_secured : (k s : ℕ) → IsLowestSecured Here k s → IsLowestSecured There k s
  lowest_secured k s is = record {
    secured = is_secured rrsets anchors meaning todo moment other to k s is.secured;
    lowest = λ t secured. is.lowest t (secured_back k t secured);
  }

  -- ---- derivations

  derivation_too : (before : List Line) (subject : Subject) (lines : List Line) → IsDerivation Here before subject lines
      → IsDerivation There before subject lines
  derivation_too before subject _ (said_trusted said) = said_trusted said
  derivation_too before subject _ (anchored {k = k} {trusted = keys} unsaid is anchor) = anchored unsaid (trusted_line k keys is) anchor
  derivation_too before subject _ (delegated {k = k} {s = s} {trusted = keys} {number = number} {lines = above} unsaid is ds lowest derived) =
      delegated unsaid (trusted_line k keys is) ds (lowest_secured number.rrset s lowest) (derivation_too before _ above derived)
  derivation_too before subject _ (said_signed said) = said_signed said
  derivation_too before subject _ (signed {number = number} {signed = one} {lines = above} unsaid is derived) =
      signed unsaid (signed_line number one is) (derivation_too before _ above derived)

  pub signature_told : (number : SignatureNumber) (before lines : List Line) → IsSignatureTold Here number before lines
      → IsSignatureTold There number before lines
  signature_told number before lines told = derivation_too before (Subject.signature number) lines told

  lowest_own : (zone : Labels) (k s : ℕ) → IsLowestOwn Here zone k s → IsLowestOwn There zone k s
  lowest_own zone k s is = record {
    own = own_signature rrsets anchors meaning todo moment other to zone k s is.own;
    lowest = λ t own. is.lowest t (own_signature rrsets anchors meaning todo other moment from zone k t own);
  }

  own_derivation : (zone : Labels) (k : ℕ) (before lines : List Line) → IsOwnDerivation Here zone k before lines
      → IsOwnDerivation There zone k before lines
  own_derivation zone k before lines own = record {
    s = own.s;
    lowest = lowest_own zone k own.s own.lowest;
    derivation = signature_told (record { rrset = k; signature = own.s }) before lines own.derivation;
  }

  pub records_derived : (zone : Labels) (records : List RecordNumber) (before lines : List Line)
      → AreRecordsDerived Here zone records before lines → AreRecordsDerived There zone records before lines
  records_derived zone records before lines derived =
      each_too {Says = λ (number : RecordNumber). IsOwnDerivation Here zone number.rrset}
      {Then = λ (number : RecordNumber). IsOwnDerivation There zone number.rrset}
      (λ number. own_derivation zone number.rrset) records before lines derived

  -- ---- trust

  pub trust_too : (trust : KeptTrust) → IsTrustIn Here trust → IsTrustIn There trust
  trust_too trust is = record {
    keys = λ zone. record {
      rdata = (is.keys zone).rdata;
      read = (is.keys zone).read;
      rising = (is.keys zone).rising;
      members = λ octets. (
        λ there. let key = ((is.keys zone).members octets).0 there in record {
          set = key.set;
          trusted = trusted_at meaning moment other rrsets anchors to key.trusted;
          owner = key.owner;
          among = key.among;
        },
        λ key. ((is.keys zone).members octets).1 (record {
          set = key.set;
          trusted = trusted_at meaning other moment rrsets anchors from key.trusted;
          owner = key.owner;
          among = key.among;
        }),
      );
    };
    signed = λ k. record {
      rising = (is.signed k).rising;
      members = λ s. (
        λ there. is_secured rrsets anchors meaning todo moment other to k s (((is.signed k).members s).0 there),
        λ secured. ((is.signed k).members s).1 (secured_back k s secured),
      );
    };
  }
