-- What is told of the RRsets of a part, and that a part is missing only where it has none.
use Rattle.std.proofs.Common.{◌≡◌, ◌⊎◌, inl, inr, ⊎_elim, ℕ, ◌&&◌, ◌||◌, not, Bool, true, false, if◌then◌else◌, List, [], ◌∷◌, Option, Some, None, flat_map, refl, sym, ap, ◌∙◌, subst, nat_eq, slice_get}
use Rattle.std.proofs.lemmas.Bool.{false≢true}
use Rattle.std.specs.List.{AllByRecursion, list_any}
use Rattle.dnsv_mending.specs.Faults.{answer_lines, signature_lines}
use Rattle.dnsv_mending.specs.Level.{Leveled}
use Rattle.dnsv_mending.specs.Mend.{Mended, cheapest, fault, is_none, nothing, telling, untold}
use Rattle.dnsv_mending.specs.Ways.{IsAmong}
use Rattle.dnsv_mending.specs.Within.{is_by, is_signer_trusted, milder, mildest, mildest_from, own_lines, own_way, own_ways, within_ways, zone_signature_ways}
use Rattle.dnsv_mending.specs.Within as within
use Rattle.dnsv_mending.specs.Zone.{is_zone_trusted}
use Rattle.dnsv_mending.specs.declared.facts.signature.KeyAnswer.{KeyAnswer}
use Rattle.dnsv_mending.specs.declared.facts.signature.KeyAnswer.TheVariants as answer
use Rattle.dnsv_mending.specs.declared.facts.signature.NamedKey.{NamedKey}
use Rattle.dnsv_mending.specs.declared.facts.signature.RrsetFacts.{RrsetFacts}
use Rattle.dnsv_mending.specs.declared.facts.signature.SignatureFacts.{SignatureFacts}
use Rattle.dnsv_mending.specs.declared.facts.zone.ZoneFacts.{ZoneFacts}
use Rattle.dnsv_mending.specs.declared.price.Class.TheVariants as class
use Rattle.dnsv_mending.specs.declared.told.Told.{Told}
use Rattle.dnsv_mending.specs.declared.told.Told.TheVariants as told
use Rattle.dnsv_lines.specs.declared.line.fault.signature.WhySignature.TheVariants as signature_why
use Rattle.dnsv_mending.proofs.AllWays.{all_flat, all_if, all_ways_of}
use Rattle.dnsv_mending.proofs.DearLines.{no_lines}
use Rattle.dnsv_mending.proofs.SomeWays.{passing, some_flat, some_if, some_kept, there}
use Rattle.dnsv_mending.proofs.Reasons.{both_true}
use Rattle.dnsv_remedies.specs.Parts.{or_missing, part, part_of_one, within_kept}
use Rattle.dnsv_remedies.specs.Remedy.{missing}
use Rattle.dnsv_remedies.specs.declared.said.Said.{Said}
use Rattle.dnsv_remedies.specs.declared.said.Said.TheVariants as said
use Rattle.dnsv_zone_faults.proofs.lemmas.zones.ClosedLemmas.{good_by}
use Rattle.dnsv_true_reasons.proofs.truths.ways.MendLines.{Kept, Lines, all_or_else, of_both, of_fault, of_least, of_telling, of_untold}
use Rattle.dnsv_true_reasons.proofs.truths.ways.MendLines as lines
use Rattle.dnsv_true_reasons.proofs.truths.ways.PartTold.{IsOfPart}
use Rattle.dnsv_true_reasons.proofs.truths.ways.PartTold.IsOfPart.{by_another, by_zone, part_unsigned, unfounded}
use Rattle.dnsv_true_reasons.proofs.truths.ways.RemedyLines.{Says, says_missing, says_whole}
use Rattle.dnsv_true_reasons.proofs.truths.ways.SignatureWays.{LevelsOf, all_wrong}
use Rattle.dnsv_true_reasons.proofs.truths.ways.Told.{IsOfSignature}
use Rattle.dnsv_true_reasons.proofs.truths.ways.Told.IsOfSignature.{answered, follows, unnamed, untrusted}
use Rattle.dnsv_true_reasons.proofs.Told.{all_from}

-- ---- the mildest answer is that of a key

milder_either : (a b : KeyAnswer) → (milder a b ≡ a) ⊎ (milder a b ≡ b)
milder_either answer.Bad b = inr refl
milder_either answer.Unanswered answer.Good = inr refl
milder_either a b = inl refl

pub record MildestOf (a : KeyAnswer) (keys : List NamedKey) : Type 0 where
  pub k : NamedKey
  pub among : IsAmong k keys
  pub is : a ≡ k.answer

mildest_of : (first : NamedKey) (keys : List NamedKey) → MildestOf (mildest_from first.answer keys) (first ∷ keys)
mildest_of first [] = record { k = first; among = inl refl; is = refl }
mildest_of first (next ∷ keys) = ⊎_elim
    (λ (e : milder first.answer next.answer ≡ first.answer).
    let rest = mildest_of first keys in
    record { k = rest.k; among = behind rest.k rest.among; is = ap (λ a. mildest_from a keys) e ∙ rest.is })
    (λ (e : milder first.answer next.answer ≡ next.answer).
    let rest = mildest_of next keys in
    record { k = rest.k; among = inr rest.among; is = ap (λ a. mildest_from a keys) e ∙ rest.is })
    (milder_either first.answer next.answer)
  where
    behind : (k : NamedKey) → IsAmong k (first ∷ keys) → IsAmong k (first ∷ next ∷ keys)
    behind k (inl same) = inl same
    behind k (inr later) = inr (inr later)

pub mildest_key : (keys : List NamedKey) → is_none keys ≡ false
    → MildestOf (if is_none keys then answer.Good else mildest_from answer.Bad keys) keys
mildest_key [] some = absurd (false≢true (sym some))
mildest_key (k ∷ keys) some = mildest_of k keys

-- ---- a signature, by what is wrong with it alone

pub none_passes : {X : Type 0} (test : X → Bool) (xs : List X) (x : X) → list_any test xs ≡ false → IsAmong x xs → test x ≡ false
none_passes test [] x none among = absurd among
none_passes test (y ∷ xs) x none (inl same) = ap test same ∙ left (test y) (list_any test xs) none
  where
    left : (a b : Bool) → (a || b) ≡ false → a ≡ false
    left true b e = absurd (false≢true (sym e))
    left false b e = refl
none_passes test (y ∷ xs) x none (inr later) = none_passes test xs x (right (test y) (list_any test xs) none) later
  where
    right : (a b : Bool) → (a || b) ≡ false → b ≡ false
    right true b e = absurd (false≢true (sym e))
    right false b e = e

empty_list : {X : Type 0} (xs : List X) → is_none xs ≡ true → xs ≡ []
empty_list [] e = refl
empty_list (x ∷ xs) e = absurd (false≢true e)

module _ (P : Told → Type 0) (zones : List ZoneFacts) (s : SignatureFacts) (each : (t : Told) → IsOfSignature zones s t → P t) where
  answers_case : (b : Bool) → is_none s.keys.items ≡ b → signature_lines s ≡ [] → AllByRecursion P (answer_lines s.number (mildest s))
  answers_case true none clean =
      subst (λ (a : KeyAnswer). AllByRecursion P (answer_lines s.number a))
      (sym (ap (λ b. if b then answer.Good else mildest_from answer.Bad s.keys.items) none)) tt
  answers_case false some clean =
      let of = mildest_key s.keys.items some in
      subst (λ (a : KeyAnswer). AllByRecursion P (answer_lines s.number a)) (sym of.is)
      (all_from P (answer_lines s.number of.k.answer) (λ t there. each t (answered of.k t of.among clean there)))

  own_all : AllByRecursion P (own_lines s)
  own_all = all_or_else P (signature_lines s) (answer_lines s.number (mildest s)) (all_wrong P zones s each)
      (λ clean. answers_case (is_none s.keys.items) refl clean)

  clean_lines : own_lines s ≡ [] → (signature_lines s ≡ []) × (answer_lines s.number (mildest s) ≡ [])
  clean_lines none = no_lines (signature_lines s) (answer_lines s.number (mildest s)) none

  pub own_told : (levels : List Leveled)
      → (signature_lines s ≡ [] → mildest s ≡ answer.Good → is_signer_trusted (slice_get levels s.signer) ≡ true
      → P (told.Signature signature_why.KeyUntrusted s.number))
      → Lines P (own_way levels s)
  own_told levels loose = by (is_none (own_lines s)) refl (is_signer_trusted (slice_get levels s.signer)) refl
    where
      by : (b : Bool) → is_none (own_lines s) ≡ b → (t : Bool) → is_signer_trusted (slice_get levels s.signer) ≡ t
          → Lines P (if b then within.unfounded t s else telling (own_lines s))
      by false some t trusted = of_telling P (own_lines s) own_all
      by true none true trusted =
          let clean = clean_lines (empty_list (own_lines s) none) in
          let line = told.Signature signature_why.KeyUntrusted s.number in
          of_both P (fault line) (untold class.NotFitting)
          (of_fault P line (loose clean.0 (good_by (mildest s) s.number clean.1) trusted)) (of_untold P class.NotFitting)
      by true none false trusted = of_fault P (told.Follows s.number) (each _ follows)

-- ---- an RRset within a zone

signer_level : (P : Told → Type 0) (zones : List ZoneFacts) (levels : List Leveled) (n : ℕ) → LevelsOf P zones levels → (o : Option Leveled)
    → slice_get levels n ≡ o → is_signer_trusted o ≡ true → (z : ZoneFacts) × (slice_get zones n ≡ Some z) × (is_zone_trusted z ≡ true)
signer_level P zones levels n are None at trusted = absurd (false≢true trusted)
signer_level P zones levels n are (Some level) at trusted = let l = are n level at in (l.z, l.is, sym l.trusted ∙ trusted)

pub off_by_not : (b : Bool) → not b ≡ true → b ≡ false
off_by_not true e = absurd (false≢true e)
off_by_not false e = refl

second_off : (a b : Bool) → a ≡ true → (a && b) ≡ false → b ≡ false
second_off true b e none = none
second_off false b e none = absurd (false≢true e)

module _ (P : Told → Type 0) (zones : List ZoneFacts) (levels : List Leveled) (are : LevelsOf P zones levels) (zone : ℕ) (r : RrsetFacts)
    (each : (t : Told) → IsOfPart zones zone r t → P t) where
  by_its_zone : (s : SignatureFacts) → IsAmong s r.signatures.items → s.is_signed ≡ false → (b : Bool) → is_by zone s ≡ b
      → AllByRecursion (Lines P) (if b then own_way levels s ∷ [] else [])
  by_its_zone s among loose false e = tt
  by_its_zone s among loose true e =
      let its = λ (t : Told) (of : IsOfSignature zones s t). each t (by_zone s t among e of) in
      let may = off_by_not s.faults.signer (both_true (not s.faults.signer) (nat_eq s.signer zone) e).0 in
      (own_told P zones s its levels (λ clean good trusted. good_key its may clean good trusted (is_none s.keys.items) refl), tt)
    where
      good_key : ((t : Told) → IsOfSignature zones s t → P t) → s.faults.signer ≡ false → signature_lines s ≡ [] → mildest s ≡ answer.Good
          → is_signer_trusted (slice_get levels s.signer) ≡ true → (b : Bool) → is_none s.keys.items ≡ b
          → P (told.Signature signature_why.KeyUntrusted s.number)
      good_key its may clean good trusted true none =
          let z = signer_level P zones levels s.signer are (slice_get levels s.signer) refl trusted in
          its _ (unnamed z.0 z.1 z.2 may clean none)
      good_key its may clean good trusted false some =
          let z = signer_level P zones levels s.signer are (slice_get levels s.signer) refl trusted in
          let of = mildest_key s.keys.items some in
          its _ (untrusted z.0 of.k z.1 z.2 loose may clean of.among (sym of.is ∙ good))

  zone_signature_each : (s : SignatureFacts) → IsAmong s r.signatures.items → (is_by zone s && s.is_signed) ≡ false
      → AllByRecursion (Lines P) (zone_signature_ways levels zone s)
  unfolding zone_signature_ways
  zone_signature_each s among none = by_case (is_by zone s) refl
    where
      by_case : (b : Bool) → is_by zone s ≡ b → AllByRecursion (Lines P) (if b then own_way levels s ∷ [] else [])
      by_case false e = tt
      by_case true e = by_its_zone s among (second_off (is_by zone s) s.is_signed e none) true e

  own_each : (s : SignatureFacts) → IsAmong s r.signatures.items → list_any (is_by zone) r.signatures.items ≡ false
      → AllByRecursion (Lines P) (own_ways levels s)
  unfolding own_ways
  own_each s among none = (
    own_told P zones s (λ t of. each t (by_another s t among none of)) levels
        (λ clean good trusted. each _ (unfounded s among none clean)),
    tt,
  )

  within_each : AllByRecursion (Lines P) (within_ways levels zone r)
  within_each =
      let signatures = r.signatures.items in
      let test = λ (s : SignatureFacts). is_by zone s && s.is_signed in
      all_if (Lines P) (list_any test signatures) (nothing ∷ []) _ (λ is. (lines.no_lines P, tt))
      (λ not_signed. all_if (Lines P) (is_none signatures) (fault (told.Unsigned r.number) ∷ []) _
      (λ none. (of_fault P (told.Unsigned r.number) (each _ (part_unsigned none)), tt))
      (λ some. all_if (Lines P) (list_any (is_by zone) signatures) (flat_map (zone_signature_ways levels zone) signatures)
      (flat_map (own_ways levels) signatures)
      (λ is. all_flat (Lines P) (zone_signature_ways levels zone) signatures
      (λ s among. zone_signature_each s among (none_passes test signatures s not_signed among)))
      (λ none. all_flat (Lines P) (own_ways levels) signatures (λ s among. own_each s among none))))

  pub within_told : Kept P (cheapest (within_ways levels zone r))
  within_told = of_least P (within_ways levels zone r) within_each

-- there always is a way
zone_some : (levels : List Leveled) (zone : ℕ) (s : SignatureFacts) → is_by zone s ≡ true
    → is_none (zone_signature_ways levels zone s) ≡ false
unfolding zone_signature_ways
zone_some levels zone s e = ap (λ b. is_none (if b then own_way levels s ∷ [] else [])) e

own_some : (levels : List Leveled) (s : SignatureFacts) → is_none (own_ways levels s) ≡ false
unfolding own_ways
own_some levels s = refl

own_all_some : (levels : List Leveled) (ss : List SignatureFacts) → is_none ss ≡ false → is_none (flat_map (own_ways levels) ss) ≡ false
own_all_some levels [] some = absurd (false≢true (sym some))
own_all_some levels (s ∷ ss) some = some_flat (own_ways levels) (s ∷ ss) s (inl refl) (own_some levels s)

pub within_some : (levels : List Leveled) (zone : ℕ) (r : RrsetFacts) → is_none (within_ways levels zone r) ≡ false
within_some levels zone r =
    let signatures = r.signatures.items in
    some_if (list_any (λ (s : SignatureFacts). is_by zone s && s.is_signed) signatures) (nothing ∷ []) _ (λ is. refl)
    (λ other. some_if (is_none signatures) (fault (told.Unsigned r.number) ∷ []) _ (λ none. refl)
    (λ some. some_if (list_any (is_by zone) signatures) (flat_map (zone_signature_ways levels zone) signatures)
    (flat_map (own_ways levels) signatures)
    (λ is. let one = passing (is_by zone) signatures is in some_flat (zone_signature_ways levels zone) signatures one.x one.among
    (zone_some levels zone one.x one.passes))
    (λ none. own_all_some levels signatures some)))

-- ---- parts

module _ (Q : Said → Type 0) (zones : List ZoneFacts) (levels : List Leveled) (are : LevelsOf (λ t. Q (said.Trust t)) zones levels)
    (zone : ℕ) where
  kept_each : (r : RrsetFacts) → ((t : Told) → IsOfPart zones zone r t → Q (said.Trust t))
      → AllByRecursion (Lines (λ t. Q (said.Trust t))) (within_kept levels zone r)
  unfolding within_kept
  kept_each r each = all_ways_of (Lines (λ t. Q (said.Trust t))) (cheapest (within_ways levels zone r))
      (within_told (λ t. Q (said.Trust t)) zones levels are zone r each)

  kept_some : (r : RrsetFacts) → is_none (within_kept levels zone r) ≡ false
  unfolding within_kept
  kept_some r = some_kept (cheapest (within_ways levels zone r)) (there (within_ways levels zone r) (within_some levels zone r))

  all_some : (rrsets : List RrsetFacts) → cheapest (flat_map (within_kept levels zone) rrsets) ≡ None → rrsets ≡ []
  all_some [] none = refl
  all_some (r ∷ rrsets) none =
      let way = there (flat_map (within_kept levels zone) (r ∷ rrsets))
      (some_flat (within_kept levels zone) (r ∷ rrsets) r (inl refl) (kept_some r)) in
      absurd (let clash : None ≡ Some way.m = sym none ∙ way.is in cc clash)

  part_case : (rrsets : List RrsetFacts) (lines : List Said) (o : Option Mended) → cheapest (flat_map (within_kept levels zone) rrsets) ≡ o
      → ((r : RrsetFacts) (t : Told) → IsAmong r rrsets → IsOfPart zones zone r t → Q (said.Trust t))
      → (rrsets ≡ [] → AllByRecursion Q lines)
      → Says Q (or_missing o (missing class.Lacking lines))
  part_case rrsets lines None is each absent = says_missing Q class.Lacking lines (absent (all_some rrsets is))
  part_case rrsets lines (Some m) is each absent = says_whole Q m
      (of_least (λ t. Q (said.Trust t)) (flat_map (within_kept levels zone) rrsets)
      (all_flat (Lines (λ t. Q (said.Trust t))) (within_kept levels zone) rrsets (λ r among. kept_each r (λ t. each r t among))) m is)

  pub part_says : (rrsets : List RrsetFacts) (lines : List Said)
      → ((r : RrsetFacts) (t : Told) → IsAmong r rrsets → IsOfPart zones zone r t → Q (said.Trust t))
      → (rrsets ≡ [] → AllByRecursion Q lines) → Says Q (part levels zone rrsets lines)
  part_says rrsets lines each absent = part_case rrsets lines (cheapest (flat_map (within_kept levels zone) rrsets)) refl each absent

  one_case : (r : RrsetFacts) (o : Option Mended) → cheapest (within_ways levels zone r) ≡ o
      → ((t : Told) → IsOfPart zones zone r t → Q (said.Trust t))
      → Says Q (or_missing o (missing class.Lacking []))
  one_case r None is each = says_missing Q class.Lacking [] tt
  one_case r (Some m) is each = says_whole Q m (within_told (λ t. Q (said.Trust t)) zones levels are zone r each m is)

  pub one_says : (r : RrsetFacts) → ((t : Told) → IsOfPart zones zone r t → Q (said.Trust t)) → Says Q (part_of_one levels zone r)
  one_says r each = one_case r (cheapest (within_ways levels zone r)) refl each
