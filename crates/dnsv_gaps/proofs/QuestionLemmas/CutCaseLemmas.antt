-- What a source says of a name that may be an unsigned delegation.
use Rattle.std.proofs.Common.{◌≡◌, ◌≢◌, ◌↔◌, ◌⊎◌, ◌<◌, ◌==◌, ℕ, suc, Bool, true, false, inl, inr, List, [], ◌∷◌, Some, length, get_or, map, refl, sym, ap, ◌∙◌, subst, arith, if◌then◌else◌}
use Rattle.std.proofs.lemmas.Bool.{false≢true}
use Rattle.std.proofs.lemmas.Option.{get_or_from_slice_get, slice_get_within}
use Rattle.std.specs.List.{Contains}
use Rattle.std.specs.Prelude.{slice_get}
use Rattle.dnsv_names.specs.Name.{Labels, rightmost}
use Rattle.dnsv_names.specs.declared.number.RecordType.{RecordType}
use Rattle.dnsv_zones.specs.Any.{Any}
use Rattle.dnsv_zones.specs.chains.NsecChain.{IsInBitmap}
use Rattle.dnsv_zones.specs.zones.Types.{IsUnsignedDelegation}
use Rattle.dnsv_canonical.specs.declared.number.RecordNumber.{RecordNumber}
use Rattle.dnsv_canonical.proofs.OrderLemmas.{each_of}
use Rattle.dnsv_proof_forms.specs.records.Numbers.{number_at, numbers_of, record_count}
use Rattle.dnsv_proof_forms.specs.records.Record.{read_nsec3}
use Rattle.dnsv_proof_forms.specs.words.Asked.{said_word}
use Rattle.dnsv_proof_forms.specs.words.ChainSaid.{IsOptOutOfChain, IsTypesAt, chain_said}
use Rattle.dnsv_proof_forms.specs.words.SaidAt.{AreAllPlaces}
use Rattle.dnsv_proof_forms.specs.declared.records.chain_records.ChainRecords.{ChainRecords}
use Rattle.dnsv_proof_forms.specs.declared.records.chain_records.ChainRecords.TheVariants.{Nsec, Nsec3}
use Rattle.dnsv_proof_forms.specs.declared.words.asked.AskedName.TheVariants as name
use Rattle.dnsv_proof_forms.specs.declared.words.asked.AskedTypes.TheVariants as types
use Rattle.dnsv_proof_forms.specs.declared.words.asked.AskedWord.TheVariants as word
use Rattle.dnsv_mending.specs.declared.facts.signature.RrsetFacts.{RrsetFacts}
use Rattle.dnsv_chain.specs.Basis.{Basis}
use Rattle.dnsv_gaps.specs.Asking.{Asking}
use Rattle.dnsv_gaps.specs.Cases.{HasNone, HasOne, IsAt}
use Rattle.dnsv_gaps.specs.Parts.{AreFactsOf}
use Rattle.dnsv_gaps.specs.SourceSearch.{AreItsRecords, IsSourceIn, chain_of, said_in, zone_in}
use Rattle.dnsv_gaps.specs.questions.Cuts.{HasOptOut, IsHeldInstead, IsUnsignedAt}
use Rattle.dnsv_gaps.specs.questions.CutSearch.{IsLowestPlace, held_instead}
use Rattle.dnsv_gaps.specs.declared.asked.AskedQuestion.{AskedQuestion}
use Rattle.dnsv_gaps.specs.declared.sources.ZoneSource.{ZoneSource}
use Rattle.dnsv_gaps.proofs.AnswerLemmas.{none_in}
use Rattle.dnsv_gaps.proofs.SayingLemmas.{all_alike, has_one, numbers, rising, says_alike}
use Rattle.dnsv_gaps.proofs.SourceLemmas.{count_is, first_said, said_there, types_told}

-- ---- facts of records

-- some record is such, where there are facts
pub one_of_facts : (basis : Basis) (Such : RecordNumber → Type 0) (facts : List RrsetFacts) (b : Bool) → AreFactsOf basis Such facts
    → b ≡ (length facts == 0) → b ≡ false → HasOne Such
one_of_facts basis Such [] b are test some = let turned : true ≡ false = sym test ∙ some in absurd (cc turned)
one_of_facts basis Such (r ∷ facts) b are test some =
    let has = (are.members r.number).0 (0, omega arith, refl) in (has.0, has.2)

-- and else none
pub none_of_facts : (basis : Basis) (Such : RecordNumber → Type 0) (facts : List RrsetFacts) (b : Bool) → AreFactsOf basis Such facts
    → b ≡ (length facts == 0) → b ≡ true → HasNone Such
none_of_facts basis Such facts b are test none number is =
    let there = subst (λ (each : List RrsetFacts). Contains (map (λ (r : RrsetFacts). r.number) each) number.rrset) (none_in facts b test none)
    ((are.members number.rrset).1 (number, refl, is)) in
    let within = there.1 in absurd (omega (arith, within))

-- ---- Opt-Out

any_at : {X : Type 0} (P : X → Type 0) (xs : List X) → Any P xs → (place : ℕ) × (x : X) × (slice_get xs place ≡ Some x) × P x
any_at P [] none = absurd none
any_at P (x ∷ xs) (inl is) = (0, x, refl, is)
any_at P (x ∷ xs) (inr later) = let rest = any_at P xs later in (suc rest.0, rest.1, rest.2, rest.3)

member_at : {X : Type 0} (xs : List X) (place : ℕ) (x : X) → slice_get xs place ≡ Some x → Contains xs x
member_at xs place x at = (place, slice_get_within xs place x at, get_or_from_slice_get xs place x x at)

pub opt_out_by_chain : (a : Asking) (zone : Labels) (records : ChainRecords) → AreItsRecords a zone records
    → ((place : ℕ) × IsOptOutOfChain records place) ↔ HasOptOut a zone (chain_of records)
opt_out_by_chain a zone (Nsec entries) are = (λ is. absurd is.1, λ has. absurd has)
opt_out_by_chain a zone (Nsec3 hashed) are = (
  λ is.
      let entry = is.1.entry in
      let its = each_of _ hashed.now.entries.now entry are.each (member_at hashed.now.entries.now is.0 entry is.1.there) in
      (entry.number, read_nsec3 entry, record { is = its.1; denial = its.0 }, is.1.says.0, is.1.says.1),
  λ has.
      let there = any_at _ hashed.now.entries.now (are.all has.0 has.1 has.2.denial has.2.is) in (
        there.0,
        record {
          entry = there.1;
          there = there.2;
          says = (ap (λ n. n.parameters) there.3.1 ∙ has.3, λ none. has.4 (ap (λ n. n.flags) (sym there.3.1) ∙ none));
        },
      ),
)

-- ---- the lowest record at a name

module _ (question : AskedQuestion) (source : ZoneSource) (is : IsSourceIn question source) (c : ℕ) where
  abbrev cut : Labels
  cut = rightmost question.name.now c

  abbrev Any_at : ℕ → Type 0
  Any_at = said_word (chain_said (zone_in question source.labels) source.records) (word.Types types.Any) cut

  pub none_there : (places : List ℕ) (b : Bool) → AreAllPlaces Any_at places → b ≡ (length places == 0) → b ≡ true
      → HasNone (IsAt (said_in question source) cut)
  none_there places b all test none number at =
      let some = (has_one question source is (name.Above c) (word.Types types.Any) places all).1 (number, at) in
      let there = subst (λ (each : List ℕ). Contains each some.0) (none_in places b test none) some.1 in
      let within = there.1 in absurd (omega (arith, within))

  pub lowest_there : (places : List ℕ) (b : Bool) (place : ℕ) → AreAllPlaces Any_at places
      → ((each : ℕ) → Contains places each → each < record_count source.records) → b ≡ (length places == 0) → b ≡ false
      → place ≡ get_or places 0 place → IsLowestPlace question source c place
  lowest_there [] b place all within test some at = let turned : true ≡ false = sym test ∙ some in absurd (cc turned)
  lowest_there (lowest ∷ rest) b place all within test some at =
      let here : Contains (lowest ∷ rest) lowest = (0, omega arith, refl) in
      let first = first_said (numbers question source is) (rising question source is) Any_at (IsAt (said_in question source) cut)
      (says_alike question source is (name.Above c) (word.Types types.Any)) (lowest ∷ rest) all lowest rest refl in
      subst (IsLowestPlace question source c) (sym at) (record {
        within = within lowest here;
        at = (all.members lowest).0 here;
        lowest = record { says = first.0; earliest = first.1 };
      })

  -- its types are those that are told
  pub types_there : (place : ℕ) (told : ℕ → Bool) (Says : (ℕ → Type 0) → Type 0) → IsLowestPlace question source c place
      → IsTypesAt source.records place told
      → (said_in question source).TypesAt cut Says (number_at (numbers_of source.records) place) ↔ Says (IsInBitmap told)
  types_there place told Says at types_are =
      let count = count_is source.records in let inside = at.within in
      let there = said_there (numbers question source is) (rising question source is)
      ((chain_said (zone_in question source.labels) source.records).TypesAt cut Says)
      ((said_in question source).TypesAt cut Says) ((all_alike question source is).types_at cut Says) place (omega (arith, count, inside)) in
      let says = types_told (zone_in question source.labels) source.records cut place told Says _ types_are at.at in
      (λ of. says.0 (there.1 of), λ so. there.0 (says.1 so))

  -- what it has instead of being one of an unsigned delegation
  pub held_there : (place : ℕ) (told : ℕ → Bool) (held : RecordType) → IsLowestPlace question source c place → IsTypesAt source.records place told
      → HasNone (IsUnsignedAt (said_in question source) cut) → told 2 ≡ true → held.0 ≡ held_instead told
      → IsHeldInstead (IsInBitmap told) held
  held_there place told held at types_are none ns is = (ns, by (told 43) (told 6) refl refl) where
    number : RecordNumber
    number = number_at (numbers_of source.records) place

    by : (d s : Bool) → told 43 ≡ d → told 6 ≡ s
        → (IsInBitmap told 43 × (held.0 ≡ 43)) ⊎ ((¬ IsInBitmap told 43) × IsInBitmap told 6 × (held.0 ≡ 6))
    by true s ds soa = inl (ds, is ∙ ap (λ (b : Bool). if b then 43 else 6) ds)
    by false true ds soa = inr (λ has. false≢true (sym ds ∙ has), soa, is ∙ ap (λ (b : Bool). if b then 43 else 6) ds)
    by false false ds soa = absurd (none number ((types_there place told IsUnsignedDelegation at types_are).1
        (record { delegation = record { servers = ns; no_apex = λ has. false≢true (sym soa ∙ has) }; no_ds = λ has. false≢true (sym ds ∙ has) })))
