-- From when to when the signatures are valid that lines show.
use Rattle.std.proofs.Common.{◌≡◌, ℕ, ◌-◌, List, [], Some, None, refl, sym, ◌∙◌, ap, subst, ⊎_elim, arith}
use Rattle.std.proofs.lemmas.List.Elements.{All-contains, All-contains_itself, All-weaker}
use Rattle.std.proofs.lemmas.Slice.Zip.{AllZip-left, AllZip-right}
use Rattle.std.specs.List.{AllZip, Contains, slice_get}
use Rattle.std.specs.Prelude.{IsSomeAnd, MatchOption, Option}
use Rattle.dnsv_records.proofs.OneRecord.{one_rrsig}
use Rattle.dnsv_records.specs.Rrsig.{IsRrsig}
use Rattle.dnsv_records.specs.Rrsig.Time.{ValidAt}
use Rattle.dnsv_records.specs.declared.rrsig.Rrsig.{Rrsig}
use Rattle.dnsv_canonical.specs.Rrsets.{IsNumbered, ReceivedRrset}
use Rattle.dnsv_verifier.specs.Asking.{AddsJust, ComesOfSome}
use Rattle.dnsv_derivations.specs.intervals.Holding.{AreShownValidAt, AreValidAt, HasTimes, IsGreatestAround, IsHolding, IsHoldingOf, ShowsTimes, signature_shown}
use Rattle.dnsv_lines.specs.declared.line.interval.Interval.{Interval}
use Rattle.dnsv_derivations.specs.declared.interval.Times.{Times}
use Rattle.dnsv_lines.specs.declared.line.Line.{Line}
use Rattle.dnsv_canonical.specs.declared.number.SignatureNumber.{SignatureNumber}
use Rattle.dnsv_canonical.proofs.NumberLemmas.{one_numbered}

-- ---- the times of a signature

zip_left : (P : Rrsig → Type 0) (rrsigs : List Rrsig) (rdata : List (List ℕ)) (k : ℕ) (octets : List ℕ) (found : Option Rrsig)
    → slice_get rrsigs k ≡ found → IsSomeAnd found P → (rrsig : Rrsig) × (slice_get rrsigs k ≡ Some rrsig) × P rrsig
zip_left P rrsigs rdata k octets None is some = absurd some
zip_left P rrsigs rdata k octets (Some rrsig) is some = (rrsig, is, some)

-- the value that is read of RDATA stands where the RDATA stands
pub read_at : (rdata : List (List ℕ)) (rrsigs : List Rrsig) (k : ℕ) (octets : List ℕ) → AllZip IsRrsig rdata rrsigs
    → slice_get rdata k ≡ Some octets → (rrsig : Rrsig) × (slice_get rrsigs k ≡ Some rrsig) × IsRrsig octets rrsig
read_at rdata rrsigs k octets zip there =
    let Right : Option (List ℕ) → Type 0 =
    λ found. MatchOption found (Unit {0}) (λ x. IsSomeAnd (slice_get rrsigs k) (IsRrsig x)) in
    zip_left (IsRrsig octets) rrsigs rdata k octets (slice_get rrsigs k) refl
    (subst Right there (AllZip-left IsRrsig rdata rrsigs zip k))

rdata_right : (P : List ℕ → Type 0) (rdata : List (List ℕ)) (k : ℕ) (found : Option (List ℕ)) → slice_get rdata k ≡ found
    → IsSomeAnd found P → (octets : List ℕ) × (slice_get rdata k ≡ Some octets) × P octets
rdata_right P rdata k None is some = absurd some
rdata_right P rdata k (Some octets) is some = (octets, is, some)

-- and the RDATA where the value stands
pub rdata_at : (rdata : List (List ℕ)) (rrsigs : List Rrsig) (k : ℕ) (rrsig : Rrsig) → AllZip IsRrsig rdata rrsigs
    → slice_get rrsigs k ≡ Some rrsig → (octets : List ℕ) × (slice_get rdata k ≡ Some octets) × IsRrsig octets rrsig
rdata_at rdata rrsigs k rrsig zip there =
    let Left : Option Rrsig → Type 0 =
    λ found. MatchOption found (Unit {0}) (λ y. IsSomeAnd (slice_get rdata k) (λ x. IsRrsig x y)) in
    rdata_right (λ x. IsRrsig x rrsig) rdata k (slice_get rdata k) refl
    (subst Left there (AllZip-right IsRrsig rdata rrsigs zip k))

pub no_times : (rrsets : List ReceivedRrset) (number : SignatureNumber) (rrset : ReceivedRrset) (rrsigs : List Rrsig)
    → IsNumbered rrsets number.rrset rrset → AllZip IsRrsig rrset.signatures rrsigs
    → ((rrsig : Rrsig) → ¬ IsNumbered rrsigs number.signature rrsig)
    → (times : Times) → ¬ HasTimes rrsets number times
no_times rrsets number rrset rrsigs is_rrset zip none times has =
    let same : has.rrset ≡ rrset = one_numbered rrsets number.rrset has.rrset rrset has.is_rrset is_rrset in
    let Numbered : ReceivedRrset → Type 0 = λ each. IsNumbered each.signatures number.signature has.rdata in
    let numbered : Numbered rrset = subst Numbered same has.is_signature in
    let there = read_at rrset.signatures rrsigs (number.signature - 1) has.rdata zip numbered.1 in
    none there.0 (numbered.0, there.1)

pub some_times : (rrsets : List ReceivedRrset) (number : SignatureNumber) (rrset : ReceivedRrset) (rrsigs : List Rrsig)
    (rrsig : Rrsig) → IsNumbered rrsets number.rrset rrset → AllZip IsRrsig rrset.signatures rrsigs
    → IsNumbered rrsigs number.signature rrsig
    → HasTimes rrsets number (record { inception = rrsig.inception; expiration = rrsig.expiration })
some_times rrsets number rrset rrsigs rrsig is_rrset zip numbered =
    let there = rdata_at rrset.signatures rrsigs (number.signature - 1) rrsig zip numbered.1 in record {
      rrset = rrset;
      is_rrset = is_rrset;
      rdata = there.0;
      is_signature = (numbered.0, there.1);
      rrsig = rrsig;
      read = there.2;
      inception = refl;
      expiration = refl;
    }

-- a signature has its times alone
pub one_times : (rrsets : List ReceivedRrset) (number : SignatureNumber) (a b : Times) → HasTimes rrsets number a
    → HasTimes rrsets number b → a ≡ b
one_times rrsets number a b first second =
    let same : first.rrset ≡ second.rrset =
    one_numbered rrsets number.rrset first.rrset second.rrset first.is_rrset second.is_rrset in
    let Numbered : ReceivedRrset → Type 0 = λ each. IsNumbered each.signatures number.signature first.rdata in
    let octets : first.rdata ≡ second.rdata =
    one_numbered second.rrset.signatures number.signature first.rdata second.rdata (subst Numbered same first.is_signature) second.is_signature in
    let Read : List ℕ → Type 0 = λ each. IsRrsig each first.rrsig in
    let rrsig : first.rrsig ≡ second.rrsig =
    one_rrsig second.rdata first.rrsig second.rrsig (subst Read octets first.read) second.read in
    let inception : a.inception ≡ b.inception =
    first.inception ∙ ap (λ (each : Rrsig). each.inception) rrsig ∙ sym second.inception in
    let expiration : a.expiration ≡ b.expiration =
    first.expiration ∙ ap (λ (each : Rrsig). each.expiration) rrsig ∙ sym second.expiration in
    λ i. record { inception = inception i; expiration = expiration i }

-- a line shows those of one signature
pub one_shown : (rrsets : List ReceivedRrset) (line : Line) (number : SignatureNumber) (a b : Times)
    → signature_shown line ≡ Some number → HasTimes rrsets number a → ShowsTimes rrsets line b → b ≡ a
one_shown rrsets line number a b shown has (other, is, there) =
    let same : other ≡ number = cc in
    let Has : SignatureNumber → Type 0 = λ each. HasTimes rrsets each b in
    one_times rrsets number b a (subst Has same there) has

-- and none, where that has none
pub none_shown : (rrsets : List ReceivedRrset) (line : Line) (number : SignatureNumber) → signature_shown line ≡ Some number
    → ((times : Times) → ¬ HasTimes rrsets number times) → (times : Times) → ¬ ShowsTimes rrsets line times
none_shown rrsets line number shown none times (other, is, there) =
    let same : other ≡ number = cc in
    let Has : SignatureNumber → Type 0 = λ each. HasTimes rrsets each times in
    none times (subst Has same there)

-- ---- intervals

around_too : (P Q : ℕ → Type 0) (moment : ℕ) (interval : Interval) → ((each : ℕ) → P each → Q each)
    → ((each : ℕ) → Q each → P each) → IsGreatestAround P moment interval → IsGreatestAround Q moment interval
around_too P Q moment interval there back around = record {
  begins = around.begins;
  ends = around.ends;
  last = around.last;
  holds = λ each from to. there each (around.holds each from to);
  greatest = λ from to begins ends last holds. around.greatest from to begins ends last (λ each a b. back each (holds each a b));
}

module _ (rrsets : List ReceivedRrset) (lines : List Line) (times : List Times)
    (shown : AddsJust (ComesOfSome (ShowsTimes rrsets) lines) [] times) where
  abbrev IsValid : ℕ → Times → Type 0
  IsValid moment each = ValidAt each.inception.0 each.expiration.0 moment

  valid_of_shown : (moment : ℕ) (each : Times) → AreShownValidAt rrsets lines moment → Contains times each → IsValid moment each
  valid_of_shown moment each valid there =
      ⊎_elim (λ (none : Contains [] each). absurd (omega (arith, none.1)))
      (λ (of : ComesOfSome (ShowsTimes rrsets) lines each). valid of.source each of.among of.is)
      (shown.only each there)

  pub are_valid : (moment : ℕ) → AreShownValidAt rrsets lines moment → AreValidAt times moment
  are_valid moment valid =
      All-weaker (Contains times) (IsValid moment) (λ each there. valid_of_shown moment each valid there) times
      (All-contains_itself times)

  shown_valid : (moment : ℕ) → AreValidAt times moment → AreShownValidAt rrsets lines moment
  shown_valid moment valid = λ line each there shows.
      All-contains (IsValid moment) times each valid (shown.added each (record { source = line; among = there; is = shows }))

  pub holding_shown : (moment : ℕ) (interval : Interval) → IsHolding times moment interval
      → IsHoldingOf rrsets lines moment interval
  holding_shown moment interval holding =
      around_too (AreValidAt times) (AreShownValidAt rrsets lines) moment interval shown_valid are_valid holding

-- the same evidence and times under other names
pub shown_by : (rrsets others : List ReceivedRrset) (lines : List Line) (times same : List Times) → rrsets ≡ others
    → same ≡ times → AddsJust (ComesOfSome (ShowsTimes rrsets) lines) [] times
    → AddsJust (ComesOfSome (ShowsTimes others) lines) [] same
shown_by rrsets others lines times same is are shown =
    let Of : List ReceivedRrset → Type 0 = λ each. AddsJust (ComesOfSome (ShowsTimes each) lines) [] times in
    let Has : List Times → Type 0 = λ each. AddsJust (ComesOfSome (ShowsTimes others) lines) [] each in
    subst Has (sym are) (subst Of is shown)
