-- Lines follow at each moment at which the signatures that they show are valid, and where no good one is taken away.
use Rattle.std.proofs.Common.{◌≡◌, ℕ, List, [], ◌∷◌, ◌++◌, Some, refl, sym, subst, ◌⊎◌, inl, inr, ⊎_elim, arith}
use Rattle.std.proofs.lemmas.List.Elements.{Contains-append_cases, Contains-append_right, Contains-push_cases}
use Rattle.std.specs.List.{Contains}
use Rattle.dnsv_records.specs.Rrsig.Time.{ValidAt}
use Rattle.dnsv_canonical.specs.Rrsets.{IsNumbered, ReceivedRrset}
use Rattle.dnsv_verifier.specs.Admissible.{DnskeyRecord, IsGood}
use Rattle.dnsv_verifier.specs.declared.answer.Answer.{Answer}
use Rattle.dnsv_verifier.specs.declared.entry.Entry.{Entry}
use Rattle.dnsv_derivations.specs.Explained.{Setting}
use Rattle.dnsv_derivations.specs.Following.{EachFollows, Follows, IsGoodUnder, at_moment}
use Rattle.dnsv_derivations.specs.intervals.Holding.{AreShownValidAt, HasTimes, ShowsTimes, signature_shown}
use Rattle.dnsv_derivations.specs.declared.interval.Times.{Times}
use Rattle.dnsv_lines.specs.declared.line.Line.{Line}
use Rattle.dnsv_lines.specs.declared.line.Line.TheVariants as line
use Rattle.dnsv_canonical.specs.declared.number.SignatureNumber.{SignatureNumber}
use Rattle.dnsv_derivations.proofs.lemmas.intervals.ShownLemmas.{one_times}

-- ---- members of a list

pub is_first : {X : Type 0} (x : X) (xs : List X) → Contains (x ∷ xs) x
is_first x xs = (0, omega arith, refl)

pub is_behind : {X : Type 0} (x : X) (xs : List X) (y : X) → Contains xs y → Contains (x ∷ xs) y
is_behind x xs y there = Contains-append_right (x ∷ []) xs y there

pub first_or_behind : {X : Type 0} (x : X) (xs : List X) (y : X) → Contains (x ∷ xs) y → (x ≡ y) ⊎ Contains xs y
first_or_behind x xs y there =
    ⊎_elim (λ (first : Contains (x ∷ []) y).
    ⊎_elim (λ (none : Contains [] y). absurd (omega (arith, none.1))) (λ (same : x ≡ y). inl same) (Contains-push_cases [] x y first))
    (λ (behind : Contains xs y). inr behind) (Contains-append_cases (x ∷ []) xs y there)

-- ---- signatures of lines

-- a signature is good under a key by another setting of the same RRsets, by whose moment and answers it is
pub good_as : (setting other : Setting) (number : SignatureNumber) (rrset : ReceivedRrset) (key : DnskeyRecord)
    → setting.rrsets ≡ other.rrsets → (is : IsGoodUnder setting number rrset key) → IsGood other.meaning other.moment rrset is.rrsig key
    → IsGoodUnder other number rrset key
good_as setting other number rrset key same is good = record {
  is_rrset = subst (λ rrsets. IsNumbered rrsets number.rrset rrset) same is.is_rrset;
  rdata = is.rdata;
  is_signature = is.is_signature;
  rrsig = is.rrsig;
  read = is.read;
  good = good;
}

module _ (setting : Setting) where
  -- the times of a signature that is good
  times_of : (number : SignatureNumber) (rrset : ReceivedRrset) (key : DnskeyRecord) (good : IsGoodUnder setting number rrset key)
      → HasTimes setting.rrsets number (record { inception = good.rrsig.inception; expiration = good.rrsig.expiration })
  times_of number rrset key good = record {
    rrset = rrset;
    is_rrset = good.is_rrset;
    rdata = good.rdata;
    is_signature = good.is_signature;
    rrsig = good.rrsig;
    read = good.read;
    inception = refl;
    expiration = refl;
  }

  -- it is valid at the moment
  good_is_valid : (number : SignatureNumber) (rrset : ReceivedRrset) (key : DnskeyRecord) → IsGoodUnder setting number rrset key
      → (times : Times) → HasTimes setting.rrsets number times
      → ValidAt times.inception.0 times.expiration.0 setting.moment
  good_is_valid number rrset key good times has =
      let Valid : Times → Type 0 = λ each. ValidAt each.inception.0 each.expiration.0 setting.moment in
      subst Valid (one_times setting.rrsets number _ times (times_of number rrset key good) has) good.good.admissible.timely

  shown_is_valid : (before : List Line) (each : Line) → Follows setting before each → (times : Times)
      → ShowsTimes setting.rrsets each times → ValidAt times.inception.0 times.expiration.0 setting.moment
  shown_is_valid before (line.Trusted keys) follows times (number, is, has) =
      let same : number ≡ keys.signature = cc in
      let Has : SignatureNumber → Type 0 = λ one. HasTimes setting.rrsets one times in
      good_is_valid keys.signature follows.set follows.key follows.good times (subst Has same has)
  shown_is_valid before (line.Signed signed) follows times (number, is, has) =
      let same : number ≡ signed.signature = cc in
      let Has : SignatureNumber → Type 0 = λ one. HasTimes setting.rrsets one times in
      good_is_valid signed.signature follows.rrset follows.key follows.good times (subst Has same has)
  shown_is_valid before each follows times (number, is, has) = cc

  -- ---- another moment, or other answers

  module _ (moment : ℕ) (meaning : Entry → Answer) (todo : List Entry) where
    abbrev pub Then : Setting
    Then = record { rrsets = setting.rrsets; anchors = setting.anchors; moment = moment; meaning = meaning; todo = todo }

    -- a signature that is good stays so
    abbrev pub Stays : SignatureNumber → Type 0
    Stays number = (rrset : ReceivedRrset) (key : DnskeyRecord) → IsGoodUnder setting number rrset key → IsGoodUnder Then number rrset key

    follows_then : (before : List Line) (each : Line) → ((number : SignatureNumber) → signature_shown each ≡ Some number → Stays number)
        → Follows setting before each → Follows Then before each
    follows_then before (line.Trusted keys) stays follows = record {
      set = follows.set;
      owner = follows.owner;
      key = follows.key;
      stands = follows.stands;
      named = follows.named;
      good = stays keys.signature refl follows.set follows.key follows.good;
      vouched = follows.vouched;
    }
    follows_then before (line.Signed signed) stays follows = record {
      rrset = follows.rrset;
      owner = follows.owner;
      rtype = follows.rtype;
      set = follows.set;
      is_set = follows.is_set;
      zone = follows.zone;
      key = follows.key;
      stands = follows.stands;
      named = follows.named;
      good = stays signed.signature refl follows.rrset follows.key follows.good;
      trusted = follows.trusted;
    }
    follows_then before (line.Part part) stays follows = follows
    follows_then before (line.Case cut) stays follows = follows
    follows_then before (line.Unusable ds) stays follows = follows
    follows_then before (line.Rrset place) stays follows = follows
    follows_then before each stays follows = tt

    pub each_follows_then : (before lines : List Line)
        → ((each : Line) (number : SignatureNumber) → Contains lines each → signature_shown each ≡ Some number → Stays number)
        → EachFollows setting before lines → EachFollows Then before lines
    each_follows_then before [] stays follows = tt
    each_follows_then before (each ∷ lines) stays follows = (
      follows_then before each (λ number shown. stays each number (is_first each lines) shown) follows.0,
      each_follows_then (before ++ each ∷ []) lines
          (λ other number there shown. stays other number (is_behind each lines other there) shown) follows.1,
    )

  good_then : (moment : ℕ) (number : SignatureNumber) (rrset : ReceivedRrset) (key : DnskeyRecord) (good : IsGoodUnder setting number rrset key)
      → ValidAt good.rrsig.inception.0 good.rrsig.expiration.0 moment → IsGoodUnder (at_moment setting moment) number rrset key
  good_then moment number rrset key good timely = good_as setting (at_moment setting moment) number rrset key refl good (record {
    admissible = record {
      over = good.good.admissible.over;
      timely = timely;
      signer = good.good.admissible.signer;
      unexpanded = good.good.admissible.unexpanded;
      zone_key = good.good.admissible.zone_key;
      named = good.good.admissible.named;
    };
    entry = good.good.entry;
    is = good.good.is;
    valid = good.good.valid;
  })

  pub follow_at : (moment : ℕ) (before lines : List Line) → AreShownValidAt setting.rrsets lines moment
      → EachFollows setting before lines → EachFollows (at_moment setting moment) before lines
  follow_at moment before lines valid follows =
      each_follows_then moment setting.meaning setting.todo before lines
      (λ each number there shown rrset key good.
      good_then moment number rrset key good (valid each _ there (number, shown, times_of number rrset key good))) follows

  one_shown_valid : (before lines : List Line) → EachFollows setting before lines → (each : Line) (times : Times)
      → Contains lines each → ShowsTimes setting.rrsets each times
      → ValidAt times.inception.0 times.expiration.0 setting.moment
  one_shown_valid before [] follows each times there shows = absurd (omega (arith, there.1))
  one_shown_valid before (first ∷ lines) follows each times there shows =
      ⊎_elim (λ (same : first ≡ each). let Shows : Line → Type 0 = λ one. ShowsTimes setting.rrsets one times in
      shown_is_valid before first follows.0 times (subst Shows (sym same) shows))
      (λ (behind : Contains lines each). one_shown_valid (before ++ first ∷ []) lines follows.1 each times behind shows)
      (first_or_behind first lines each there)

  pub all_shown_valid : (lines : List Line) → EachFollows setting [] lines
      → AreShownValidAt setting.rrsets lines setting.moment
  all_shown_valid lines follows = λ each times there shows. one_shown_valid [] lines follows each times there shows
