-- What records at a name say is one: of the type that is asked for, and of the wildcard.
use Rattle.std.proofs.Common.{◌≡◌, ◌≢◌, ◌∙◌, ℕ, List, Option, refl, sym, ap, subst}
use Rattle.std.specs.List.{AllZip}
use Rattle.std.specs.Ordering.{ordering_reverse}
use Rattle.std.specs.declared.cmp.Ordering.{Ordering}
use Rattle.std.specs.declared.cmp.Ordering.TheVariants.{Less, Equal, Greater}
use Rattle.dnsv_names.specs.Name.{Labels}
use Rattle.dnsv_names.specs.declared.number.RecordType.{RecordType}
use Rattle.dnsv_zones.specs.forms.Parts.{IsFirstToSay}
use Rattle.dnsv_zones.specs.forms.RecordWords.{RecordWords}
use Rattle.dnsv_canonical.specs.declared.number.RecordNumber.{RecordNumber}
use Rattle.dnsv_proof_forms.specs.records.Numbers.{number_cmp}
use Rattle.dnsv_lines.specs.declared.line.fault.denial.WhySource.{WhySource}
use Rattle.dnsv_remedies.specs.declared.facts.denial.RecordsAt.{RecordsAt}
use Rattle.dnsv_remedies.specs.declared.facts.denial.RecordsAt.TheVariants as records
use Rattle.dnsv_remedies.specs.declared.facts.denial.WildcardFacts.{WildcardFacts}
use Rattle.dnsv_remedies.specs.declared.facts.denial.WildcardFacts.TheVariants as wildcard
use Rattle.dnsv_denial.proofs.lemmas.proving.NumberLemmas.{number_cmp_exact, number_cmp_total}
use Rattle.dnsv_chain.specs.Basis.{Basis}
use Rattle.dnsv_gaps.specs.Cases.{AreHeld, AreRecordsAt, AreWildcardFacts, IsAt, IsDenying, IsHeld, IsHeldAt, IsRuledOut, why_held}
use Rattle.dnsv_gaps.specs.Cases.IsHeld.{asked, alias, apex, none}
use Rattle.dnsv_remedy_laws.specs.AlikeQuestions.{AreAlikeRecords, AreAlikeWildcards}
use Rattle.dnsv_remedy_laws.specs.AlikeQuestions.AreAlikeRecords.{denying, holding}
use Rattle.dnsv_remedy_laws.specs.AlikeQuestions.AreAlikeWildcards.{opted_out, at, covered}
use Rattle.dnsv_reasons.proofs.lemmas.questions.ListLemmas.{one_rising, zip_same}
use Rattle.dnsv_reasons.proofs.lemmas.questions.PartLemmas.{one_part}
use Rattle.dnsv_reasons.proofs.lemmas.questions.SourceLemmas.{HasOneTypes}

-- ---- numbers

lowest_by : (a b : RecordNumber) (o : Ordering) → number_cmp a b ≡ o → number_cmp a b ≢ Less → number_cmp b a ≢ Less → a ≡ b
lowest_by a b Less is up down = absurd (up is)
lowest_by a b Equal is up down = number_cmp_exact a b is
lowest_by a b Greater is up down = absurd (down (number_cmp_total.antisymm b a ∙ ap ordering_reverse is))

-- neither goes before the other
pub same_number : (a b : RecordNumber) → number_cmp a b ≢ Less → number_cmp b a ≢ Less → a ≡ b
same_number a b up down = lowest_by a b (number_cmp a b) refl up down

pub one_first : (Says : RecordNumber → Type 0) (a b : RecordNumber) → IsFirstToSay number_cmp Says a → IsFirstToSay number_cmp Says b
    → a ≡ b
one_first Says a b x y = same_number a b (y.earliest a x.says) (x.earliest b y.says)

-- ---- what is held

one_held : (has : ℕ → Type 0) (t : ℕ) (a b : Option RecordType) → IsHeld has t a → IsHeld has t b → a ≡ b
one_held has t a b (asked is) (asked also) = refl
one_held has t a b (asked is) (alias never so) = absurd (never is)
one_held has t a b (asked is) (apex never nor ds so) = absurd (never is)
one_held has t a b (asked is) (none never nor out) = absurd (never is)
one_held has t a b (alias never so) (asked is) = absurd (never is)
one_held has t a b (alias never so) (alias nor also) = refl
one_held has t a b (alias never so) (apex never2 nor ds is) = absurd (nor so)
one_held has t a b (alias never so) (none never2 nor out) = absurd (nor so)
one_held has t a b (apex never nor ds is) (asked so) = absurd (never so)
one_held has t a b (apex never nor ds is) (alias never2 so) = absurd (nor so)
one_held has t a b (apex never nor ds is) (apex never2 nor2 ds2 is2) = refl
one_held has t a b (apex never nor ds is) (none never2 nor2 out) = absurd (out ds is)
one_held has t a b (none never nor out) (asked is) = absurd (never is)
one_held has t a b (none never nor out) (alias never2 so) = absurd (nor so)
one_held has t a b (none never nor out) (apex never2 nor2 ds is) = absurd (out ds is)
one_held has t a b (none never nor out) (none never2 nor2 out2) = refl

module _ (basis : Basis) (said : RecordWords RecordNumber) (types : HasOneTypes said) (t : ℕ) where
  one_told : (name : Labels) (number : RecordNumber) (a b : WhySource) → IsHeldAt said name t number a → IsHeldAt said name t number b
      → a ≡ b
  one_told name number a b x y =
      let same : x.held ≡ y.held =
      types (x.held ≡ y.held) (λ has. IsHeld has t x.held) (λ has. IsHeld has t y.held) (λ has p q. one_held has t x.held y.held p q)
      name number x.is_held y.is_held in
      x.is_told ∙ ap (why_held number) same ∙ sym y.is_told

  one_held_list : (name : Labels) (a b : List WhySource) → AreHeld said name t a → AreHeld said name t b → a ≡ b
  one_held_list name a b x y =
      let numbers : x.numbers ≡ y.numbers =
      one_rising number_cmp number_cmp_total (IsAt said name) x.numbers y.numbers x.are_at.rising y.are_at.rising x.are_at.members
      y.are_at.members in
      zip_same (IsHeldAt said name t) (one_told name) y.numbers a b
      (subst (λ (each : List RecordNumber). AllZip (IsHeldAt said name t) each a) numbers x.each) y.each

  pub one_records : (name : Labels) (a b : RecordsAt) → AreRecordsAt basis said name t a → AreRecordsAt basis said name t b
      → AreAlikeRecords a b
  one_records name (records.Denying a) (records.Denying b) x y =
      denying a b (one_part basis (IsDenying said name t) a.items b.items x.1 y.1)
  one_records name (records.Denying a) (records.Holding b) x y = absurd (y.0 x.0.0 x.0.1)
  one_records name (records.Holding a) (records.Denying b) x y = absurd (x.0 y.0.0 y.0.1)
  one_records name (records.Holding a) (records.Holding b) x y = holding a b (record {
    rrsets = one_part basis (IsAt said name) a.rrsets.items b.rrsets.items x.1 y.1;
    held = one_held_list name a.held.items b.held.items x.2 y.2;
  })

  pub one_wildcard : (next below : Labels) (a b : WildcardFacts) → AreWildcardFacts basis said next below t a
      → AreWildcardFacts basis said next below t b → AreAlikeWildcards a b
  one_wildcard next below wildcard.OptedOut wildcard.OptedOut x y = opted_out
  one_wildcard next below (wildcard.At a) (wildcard.At b) x y = at a b (one_records below a b x.2 y.2)
  one_wildcard next below (wildcard.At a) (wildcard.Covered b) x y = absurd (y.1 x.1.0 x.1.1)
  one_wildcard next below a wildcard.OptedOut x y = absurd (x.0 y)
  one_wildcard next below wildcard.OptedOut b x y = absurd (y.0 x)
  one_wildcard next below (wildcard.Covered a) (wildcard.At b) x y = absurd (x.1 y.1.0 y.1.1)
  one_wildcard next below (wildcard.Covered a) (wildcard.Covered b) x y =
      covered a b (one_part basis (IsRuledOut said below) a.items b.items x.2 y.2)
