-- What fails is said without a line twice.
use Rattle.std.proofs.Common.{◌≡◌, ◌≢◌, ℕ, List, inl, inr, refl, sym, ap, subst, ⊎_elim, arith}
use Rattle.std.proofs.lemmas.List.Elements.{Contains-append_cases}
use Rattle.std.specs.List.{Contains}
use Rattle.dnsv_names.specs.Name.{Labels}
use Rattle.dnsv_canonical.proofs.OrderLemmas.{each_of}
use Rattle.dnsv_canonical.specs.Rrsets.{ReceivedRrset}
use Rattle.dnsv_verifier.specs.Admissible.{DnskeyRecord}
use Rattle.dnsv_canonical.specs.declared.number.RecordNumber.{RecordNumber}
use Rattle.dnsv_derivations.specs.Explained.{Setting}
use Rattle.dnsv_explain.specs.Explanation.{IsFailureTold, asking_in}
use Rattle.dnsv_reasons.specs.laws.Once.{AreOnce}
use Rattle.dnsv_keys_in_question.specs.KeyLines.{AreLinesOfKeysAsked, AreLinesOfSet, IsKeyLine}
use Rattle.dnsv_derivations.specs.Listing.{AreOfNumbered}
use Rattle.dnsv_lines.specs.declared.line.Line.{Line}
use Rattle.dnsv_lines.specs.declared.line.Line.TheVariants as line
use Rattle.dnsv_reasons.proofs.lemmas.OnceLemmas.{failures_differ}
use Rattle.dnsv_reasons.specs.Failures.{AreFailures}
use Rattle.dnsv_explain_laws.proofs.holding.EachLemmas.{Each, none_each, numbered_each, one_each}
use Rattle.dnsv_reasons.proofs.lemmas.FaultLemmas.{IsFault, failures_fault}
use Rattle.dnsv_explain_laws.proofs.lemmas.whole.FreshLemmas.{HaveKinds, kind}
use Rattle.dnsv_explain_laws.proofs.lemmas.whole.ListLemmas.{once_append, once_numbered, once_one}

-- ---- what fails

fault_kind : (each : Line) → IsFault each → kind each ≡ 5
fault_kind (line.Reason told) is = refl
fault_kind (line.Follows told) is = refl
fault_kind each is = absurd is

faults_kind : (setting : Setting) (name : Labels) (t : ℕ) (lines : List Line) → AreFailures (asking_in setting name t) lines
    → HaveKinds (λ n. n ≡ 5) lines
faults_kind setting name t lines are each there =
    fault_kind each (each_of IsFault lines each (failures_fault (asking_in setting name t) lines are) there)

-- ---- keys

-- the number of the record
abbrev number_in : Line → RecordNumber
number_in (line.Key key) = key.number
number_in _ = record { rrset = 0; place = 0 }

module _ (setting : Setting) (reasons : List Line) where
  abbrev IsAt : ℕ → ℕ → Line → Type 0
  IsAt k place each = (number_in each ≡ record { rrset = k; place = place }) × (kind each ≡ 6)

  key_at : (k : ℕ) (set : ReceivedRrset) (place : ℕ) (key : DnskeyRecord) (lines : List Line) → IsKeyLine setting k set place key lines
      → Each (IsAt k place) lines
  key_at k set place key lines told = one_each (IsAt k place) (line.Key told.0) lines told.2 (told.1.number, refl)

  key_once : (k : ℕ) (set : ReceivedRrset) (place : ℕ) (key : DnskeyRecord) (lines : List Line) → IsKeyLine setting k set place key lines
      → AreOnce lines
  key_once k set place key lines told =
      let Once : List Line → Type 0 = λ all. AreOnce all in subst Once (sym told.2) (once_one (line.Key told.0))

  abbrev IsOf : ℕ → Line → Type 0
  IsOf k each = ((number_in each).rrset ≡ k) × (kind each ≡ 6)

  keys_of : (k : ℕ) (set : ReceivedRrset) (keys : List DnskeyRecord) (lines : List Line)
      → AreOfNumbered (IsKeyLine setting k set) 1 keys lines → Each (IsOf k) lines
  keys_of k set keys lines are =
      numbered_each (IsOf k) (IsKeyLine setting k set) keys lines are
      (λ place key some at told each there.
      let is = key_at k set place key some told each there in (ap (λ (number : RecordNumber). number.rrset) is.0, is.1))

  keys_once : (k : ℕ) (set : ReceivedRrset) (keys : List DnskeyRecord) (lines : List Line)
      → AreOfNumbered (IsKeyLine setting k set) 1 keys lines → AreOnce lines
  keys_once k set keys lines are =
      once_numbered (IsKeyLine setting k set) (λ each. (number_in each).place) (key_once k set)
      (λ place key some told each there. ap (λ (number : RecordNumber). number.place) (key_at k set place key some told each there).0) 1 keys lines are

  set_of : (k : ℕ) (set : ReceivedRrset) (lines : List Line) → AreLinesOfSet setting reasons k set lines → Each (IsOf k) lines
  set_of k set lines (inl told) = keys_of k set told.1.0 lines told.1.2
  set_of k set lines (inr none) = none_each (IsOf k) lines none.1

  set_once : (k : ℕ) (set : ReceivedRrset) (lines : List Line) → AreLinesOfSet setting reasons k set lines → AreOnce lines
  set_once k set lines (inl told) = keys_once k set told.1.0 lines told.1.2
  set_once k set lines (inr none) = let Once : List Line → Type 0 = λ all. AreOnce all in subst Once (sym none.1) tt

  asked_once : (lines : List Line) → AreLinesOfKeysAsked setting reasons lines → AreOnce lines
  asked_once lines are =
      once_numbered (AreLinesOfSet setting reasons) (λ each. (number_in each).rrset) set_once
      (λ k set some told each there. (set_of k set some told each there).0) 1 setting.rrsets lines are

  asked_kind : (lines : List Line) → AreLinesOfKeysAsked setting reasons lines → HaveKinds (λ n. n ≡ 6) lines
  asked_kind lines are =
      numbered_each (λ each. kind each ≡ 6) (AreLinesOfSet setting reasons) setting.rrsets lines are
      (λ k set some at told each there. (set_of k set some told each there).1)

-- ---- both

module _ (setting : Setting) (name : Labels) (t : ℕ) (before lines : List Line) (told : IsFailureTold setting name t before lines) where
  pub failure_once : AreOnce lines
  failure_once =
      let Once : List Line → Type 0 = λ all. AreOnce all in
      subst Once (sym told.are)
      (once_append told.faults told.keys (failures_differ (asking_in setting name t) told.faults told.of_faults)
      (asked_once setting told.faults told.keys told.of_keys)
      (λ each left right.
      let five = faults_kind setting name t told.faults told.of_faults each left in
      let six = asked_kind setting told.faults told.keys told.of_keys each right in
      omega (arith, five, six)))

  pub failure_kinds : HaveKinds (λ n. n ≢ 7) lines
  failure_kinds each there =
      let In : List Line → Type 0 = λ all. Contains all each in
      λ is. ⊎_elim
      (λ (left : Contains told.faults each).
      let five = faults_kind setting name t told.faults told.of_faults each left in omega (arith, five, is))
      (λ (right : Contains told.keys each).
      let six = asked_kind setting told.faults told.keys told.of_keys each right in omega (arith, six, is))
      (Contains-append_cases told.faults told.keys each (subst In told.are there))
