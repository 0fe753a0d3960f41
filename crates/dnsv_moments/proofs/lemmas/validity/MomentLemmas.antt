-- What is good, trusted, asked and told at one moment is so at each at which the same signatures are valid.
use Rattle.std.proofs.Common.{◌-◌, ℕ, List, refl}
use Rattle.std.proofs.lemmas.Option.{get_or_from_slice_get, slice_get_within}
use Rattle.std.specs.List.{Contains}
use Rattle.dnsv_records.specs.Rrsig.Time.{ValidAt}
use Rattle.dnsv_records.specs.declared.rrsig.Rrsig.{Rrsig}
use Rattle.dnsv_canonical.specs.Rrsets.{IsNumbered, ReceivedRrset}
use Rattle.dnsv_verifier.specs.Admissible.{DnskeyRecord, IsAdmissible, IsAsked, IsGood, IsSignatureOf}
use Rattle.dnsv_verifier.specs.declared.answer.Answer.{Answer}
use Rattle.dnsv_verifier.specs.declared.entry.Entry.{Entry}
use Rattle.dnsv_chain.specs.Trusted.{IsSecured, IsSignedUnder, IsTrusted, SignsItsSet, anchored, delegated}
use Rattle.dnsv_anchors.specs.declared.anchor.Anchor.{Anchor}
use Rattle.dnsv_chain.specs.Basis.{Basis}
use Rattle.dnsv_verdict.proofs.AlikeLemmas.{AreAlike, hoped}
use Rattle.dnsv_timeline.specs.Timeline.{AreSameValid}
use Rattle.dnsv_timeline.specs.declared.times.Times.{Times}
use Rattle.dnsv_moments.specs.validity.SameValid.{AreSignaturesSameValid, HaveTimes}

-- ---- what is good and trusted

-- what has a number is a member
pub numbered_among : {X : Type 0} (xs : List X) (k : ℕ) (x : X) → IsNumbered xs k x → Contains xs x
numbered_among xs k x is = (k - 1, slice_get_within xs (k - 1) x is.1, get_or_from_slice_get xs (k - 1) x x is.1)

-- the signatures that are valid at the moment are valid at the other
abbrev pub StayValid : List ReceivedRrset → ℕ → ℕ → Type 0
StayValid rrsets moment other = (rrset : ReceivedRrset) (rrsig : Rrsig) → Contains rrsets rrset → IsSignatureOf rrset rrsig
    → ValidAt rrsig.inception.0 rrsig.expiration.0 moment → ValidAt rrsig.inception.0 rrsig.expiration.0 other

pub admissible_at : (moment other : ℕ) (rrset : ReceivedRrset) (rrsig : Rrsig) (key : DnskeyRecord)
    → (ValidAt rrsig.inception.0 rrsig.expiration.0 moment → ValidAt rrsig.inception.0 rrsig.expiration.0 other)
    → IsAdmissible moment rrset rrsig key → IsAdmissible other rrset rrsig key
admissible_at moment other rrset rrsig key stays is = record {
  over = is.over;
  timely = stays is.timely;
  signer = is.signer;
  unexpanded = is.unexpanded;
  zone_key = is.zone_key;
  named = is.named;
}

abbrev pub good_at : (meaning : Entry → Answer) (moment other : ℕ) (rrset : ReceivedRrset) (rrsig : Rrsig) (key : DnskeyRecord)
    → (ValidAt rrsig.inception.0 rrsig.expiration.0 moment → ValidAt rrsig.inception.0 rrsig.expiration.0 other)
    → IsGood meaning moment rrset rrsig key → IsGood meaning other rrset rrsig key
good_at meaning moment other rrset rrsig key stays good = record {
  admissible = admissible_at moment other rrset rrsig key stays good.admissible;
  entry = good.entry;
  is = good.is;
  valid = good.valid;
}

module _ (meaning : Entry → Answer) (moment other : ℕ) (rrsets : List ReceivedRrset) (anchors : List Anchor)
    (stays : StayValid rrsets moment other) where
  signed_at : (rrset : ReceivedRrset) (key : DnskeyRecord) → Contains rrsets rrset → IsSignedUnder meaning moment rrset key
      → IsSignedUnder meaning other rrset key
  signed_at rrset key among signed = record {
    rrsig = signed.rrsig;
    its = signed.its;
    good = good_at meaning moment other rrset signed.rrsig key (stays rrset signed.rrsig among signed.its) signed.good;
  }

  signs_at : (set : ReceivedRrset) (key : DnskeyRecord) → Contains rrsets set → SignsItsSet meaning moment set key
      → SignsItsSet meaning other set key
  signs_at set key among signs = record { stands = signs.stands; signed = signed_at set key among signs.signed }

  pub trusted_at : {set : ReceivedRrset} → IsTrusted meaning moment rrsets anchors set → IsTrusted meaning other rrsets anchors set
  trusted_at (anchored {set = set} {key = key} among signs matching) = anchored among (signs_at set key among signs) matching
  trusted_at (delegated {ds = ds} {set = set} {above = above} {key = key} trusted stands among signed delegates set_among signs) =
      delegated (trusted_at trusted) stands among (signed_at ds above among signed) delegates set_among (signs_at set key set_among signs)

  pub secured_at : (k s : ℕ) → IsSecured meaning moment rrsets anchors k s → IsSecured meaning other rrsets anchors k s
  secured_at k s is = record {
    rrset = is.rrset;
    numbered = is.numbered;
    rdata = is.rdata;
    signature = is.signature;
    rrsig = is.rrsig;
    is = is.is;
    good = record {
      set = is.good.set;
      trusted = trusted_at is.good.trusted;
      key = is.good.key;
      stands = is.good.stands;
      good = good_at meaning moment other is.rrset is.rrsig is.good.key
          (stays is.rrset is.rrsig (numbered_among rrsets k is.rrset is.numbered)
          (is.rdata, numbered_among is.rrset.signatures s is.rdata is.signature, is.is)) is.good.good;
    };
  }

  pub asked_at : (entry : Entry) → IsAsked moment rrsets entry → IsAsked other rrsets entry
  asked_at entry asked = record {
    rrset = asked.rrset;
    rrsig = asked.rrsig;
    key = asked.key;
    among = asked.among;
    its = asked.its;
    key_among = asked.key_among;
    admissible = admissible_at moment other asked.rrset asked.rrsig asked.key (stays asked.rrset asked.rrsig asked.among asked.its) asked.admissible;
    is = asked.is;
  }

-- ---- all of it

pub alike_at : (basis : Basis) (other : ℕ) → AreSignaturesSameValid basis.rrsets basis.moment other → AreAlike basis other basis.meaning
alike_at basis other same = record {
  secured_to = secured_at basis.meaning basis.moment other basis.rrsets basis.anchors to;
  secured_from = secured_at basis.meaning other basis.moment basis.rrsets basis.anchors from;
  hoped_to = secured_at (hoped basis.meaning) basis.moment other basis.rrsets basis.anchors to;
  hoped_from = secured_at (hoped basis.meaning) other basis.moment basis.rrsets basis.anchors from;
  asked_to = asked_at basis.meaning basis.moment other basis.rrsets basis.anchors to;
  asked_from = asked_at basis.meaning other basis.moment basis.rrsets basis.anchors from;
  answered = λ entry asked. refl;
} where
  to : StayValid basis.rrsets basis.moment other
  to rrset rrsig among its = (same rrset rrsig among its).0

  from : StayValid basis.rrsets other basis.moment
  from rrset rrsig among its = (same rrset rrsig among its).1

-- ---- what a timeline's signatures say

-- where the times of all are as valid at both moments, so are the signatures
pub same_by_times : (rrsets : List ReceivedRrset) (signatures : List Times) (moment other : ℕ) → HaveTimes rrsets signatures
    → AreSameValid signatures moment other → AreSignaturesSameValid rrsets moment other
same_by_times rrsets signatures moment other have same rrset rrsig among its =
    same (record { inception = rrsig.inception; expiration = rrsig.expiration }) (have rrset rrsig among its)
