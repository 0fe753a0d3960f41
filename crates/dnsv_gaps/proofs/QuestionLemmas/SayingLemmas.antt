-- What some source of a zone says.
use Rattle.std.proofs.Common.{◌≡◌, ◌↔◌, ◌⊎◌, ◌+◌, ◌<◌, ◌≤◌, ℕ, zero, suc, inl, inr, ⊎_elim, List, [], ◌∷◌, ◌++◌, length, get_or, map, take, refl, sym, ap, ◌∙◌, subst, arith}
use Rattle.std.proofs.lemmas.List.{take_all, take_more}
use Rattle.std.proofs.lemmas.List.Elements.{Contains-append_cases, Contains-append_left, Contains-append_right}
use Rattle.std.specs.List.{Contains}
use Rattle.dnsv_names.specs.Name.{Labels, rightmost}
use Rattle.dnsv_canonical.specs.Rrsets.{IsNumbered, ReceivedRrset}
use Rattle.dnsv_canonical.specs.declared.number.RecordNumber.{RecordNumber}
use Rattle.dnsv_proof_forms.specs.words.Asked.{asked_name, said_word}
use Rattle.dnsv_denial.specs.gathering.EvidenceWords.{Chain}
use Rattle.dnsv_denial.specs.gathering.EvidenceWords.Chain.{ByNsec, ByNsec3}
use Rattle.dnsv_proof_forms.specs.declared.words.asked.AskedName.{AskedName}
use Rattle.dnsv_proof_forms.specs.declared.words.asked.AskedName.TheVariants as name
use Rattle.dnsv_proof_forms.specs.declared.words.asked.AskedWord.{AskedWord}
use Rattle.dnsv_proof_forms.specs.declared.words.asked.AskedWord.TheVariants as word
use Rattle.dnsv_verifier.specs.Asking.{AddsJust, ComesOfSome}
use Rattle.dnsv_gaps.specs.Asking.{Asking, asking}
use Rattle.dnsv_gaps.specs.SourceSearch.{AreHeldSources, AreSaying, Says, chain_of, held_chain, zone_in}
use Rattle.dnsv_gaps.specs.Sources.{AreSources, HasRecords, source_said}
use Rattle.dnsv_gaps.specs.questions.CutSearch.{IsSaidByOne}
use Rattle.dnsv_gaps.specs.declared.asked.AskedQuestion.{AskedQuestion}
use Rattle.dnsv_gaps.specs.declared.sources.HeldSource.{HeldSource}
use Rattle.dnsv_gaps.specs.declared.sources.ZoneSource.{ZoneSource}

of_map : {X Y : Type 0} (f : X → Y) (xs : List X) (y : Y) → Contains (map f xs) y → (x : X) × Contains xs x × (f x ≡ y)
of_map f [] y there = absurd (let within = there.1 in omega (arith, within))
of_map f (x ∷ xs) y (zero, within, is) = (x, (0, omega arith, refl), is)
of_map f (x ∷ xs) y (suc k, within, is) =
    let rest = of_map f xs y (k, omega (arith, within), is) in (rest.0, Contains-append_right (x ∷ []) xs rest.0 rest.1, rest.2)

-- ---- what says something is a source

module _ (a : Asking) (zone : Labels) where
  pub absent_there : (chain : Chain) (name : Labels) (number : RecordNumber) → (source_said a zone chain).Absent name number → HasRecords a zone chain
  absent_there ByNsec name number is = (number, is.0, is.1)
  absent_there (ByNsec3 parameters) name number is = (number, is.0, is.1, is.2.0.same_parameters)

  pub typed_there : (chain : Chain) (name : Labels) (Says : (ℕ → Type 0) → Type 0) (number : RecordNumber)
      → (source_said a zone chain).TypesAt name Says number → HasRecords a zone chain
  typed_there ByNsec name Says number is = (number, is.0, is.1)
  typed_there (ByNsec3 parameters) name Says number is = (number, is.0, is.1, is.2.0.same_parameters)

  pub opted_out_there : (chain : Chain) (name : Labels) (number : RecordNumber) → (source_said a zone chain).OptedOut name number → HasRecords a zone chain
  opted_out_there ByNsec name number is = absurd is
  opted_out_there (ByNsec3 parameters) name number is = (number, is.0, is.1, is.2.0.same_parameters)

  -- the record's RRset is one of the evidence
  pub absent_number : (chain : Chain) (name : Labels) (number : RecordNumber) → (source_said a zone chain).Absent name number
      → (rrset : ReceivedRrset) × IsNumbered a.basis.rrsets number.rrset rrset
  absent_number ByNsec name number is = (is.1.is.rrset, is.1.is.at.is_rrset)
  absent_number (ByNsec3 parameters) name number is = (is.1.is.rrset, is.1.is.at.is_rrset)

  -- and is held
  pub held_there : (sources : List HeldSource) → AreSources a zone (map held_chain sources) → (chain : Chain) → HasRecords a zone chain
      → (held : HeldSource) × Contains sources held × (held_chain held ≡ chain)
  held_there sources are chain has = of_map held_chain sources chain ((are.members chain).1 has)

-- ---- one source after another

module _ (question : AskedQuestion) (labels : ℕ) (asked : AskedName) (w : AskedWord) where
  abbrev pub SaidBy : HeldSource → RecordNumber → Type 0
  SaidBy held number = said_word (source_said (asking question) (zone_in question labels) (held_chain held)) w (asked_name question.name.now asked) number

  pub said_as : (source : ZoneSource) (held : HeldSource) (number : RecordNumber) → source.labels ≡ labels → chain_of source.records ≡ held_chain held
      → Says question source asked w number ↔ SaidBy held number
  said_as source held number same chain = (
    λ says. subst (λ (c : Chain). said_word (source_said (asking question) (zone_in question labels) c) w (asked_name question.name.now asked) number) chain
        (subst (λ (n : ℕ). said_word (source_said (asking question) (zone_in question n) (chain_of source.records)) w (asked_name question.name.now asked) number) same says),
    λ says. subst (λ (n : ℕ). said_word (source_said (asking question) (zone_in question n) (chain_of source.records)) w (asked_name question.name.now asked) number) (sym same)
        (subst (λ (c : Chain). said_word (source_said (asking question) (zone_in question labels) c) w (asked_name question.name.now asked) number) (sym chain) says),
  )

  -- none so far says so
  abbrev pub NoneSays : List HeldSource → Type 0
  NoneSays sources = (number : RecordNumber) → ¬ IsSaidByOne question labels asked w sources number

  pub none_says : NoneSays []
  none_says number is = let within = is.among.1 in absurd (omega (arith, within))

  pub none_more : (sources : List HeldSource) (i : ℕ) (held : HeldSource) → i < length sources → held ≡ get_or sources i held
      → NoneSays (take i sources) → ((number : RecordNumber) → ¬ SaidBy held number) → NoneSays (take (i + 1) sources)
  none_more sources i held within at so_far none number is =
      let longer : take (i + 1) sources ≡ take i sources ++ held ∷ [] =
      take_more sources i held within ∙ ap (λ each. take i sources ++ each ∷ []) (sym at) in
      ⊎_elim
      (λ (before : Contains (take i sources) is.held). so_far number (record { held = is.held; among = before; says = is.says }))
      (λ (last : Contains (held ∷ []) is.held). none number (subst (λ each. SaidBy each number) (only_in is.held held last) is.says))
      (Contains-append_cases (take i sources) (held ∷ []) is.held (subst (λ each. Contains each is.held) longer is.among)) where
        only_in : (x y : HeldSource) → Contains (y ∷ []) x → x ≡ y
        only_in x y (zero, within, is) = sym is
        only_in x y (suc k, within, is) = absurd (omega (arith, within))

  pub none_all : (sources : List HeldSource) (i : ℕ) → length sources ≤ i → NoneSays (take i sources) → NoneSays sources
  none_all sources i past = subst NoneSays (take_all i sources past)

  pub one_says : (sources : List HeldSource) (i : ℕ) (held : HeldSource) (number : RecordNumber) → i < length sources → held ≡ get_or sources i held
      → SaidBy held number → IsSaidByOne question labels asked w sources number
  one_says sources i held number within at says = record { held = held; among = (i, within, sym at); says = says }

  -- what one says is added
  pub adds_saying : (source : ZoneSource) (held : HeldSource) (old said : List RecordNumber) → source.labels ≡ labels
      → chain_of source.records ≡ held_chain held → AreSaying question source asked w said → AddsJust (SaidBy held) old (old ++ said)
  adds_saying source held old said same chain are = record {
    kept = λ n there. Contains-append_left old said n there;
    added = λ n says. Contains-append_right old said n ((are.members n).1 ((said_as source held n same chain).1 says));
    only = λ n there. ⊎_elim
        (λ (before : Contains old n). inl before)
        (λ (last : Contains said n). inr ((said_as source held n same chain).0 ((are.members n).0 last)))
        (Contains-append_cases old said n there);
  }

  -- and so of all of them
  pub all_said : (sources : List HeldSource) (numbers : List RecordNumber) → AddsJust (ComesOfSome SaidBy sources) [] numbers
      → (n : RecordNumber) → Contains numbers n ↔ IsSaidByOne question labels asked w sources n
  all_said sources numbers adds n = (
    λ there. ⊎_elim
        (λ (none : Contains [] n). absurd (let within = none.1 in omega (arith, within)))
        (λ (of : ComesOfSome SaidBy sources n). record { held = of.source; among = of.among; says = of.is })
        (adds.only n there),
    λ is. adds.added n (record { source = is.held; among = is.among; is = is.says }),
  )

-- ---- what covers a name

module _ (question : AskedQuestion) (zone labels : ℕ) (sources : List HeldSource) (held : AreHeldSources question zone sources) where
  pub absent_by_some : (n : RecordNumber) → IsSaidByOne question zone (name.Above labels) word.Absent sources n
      → (chain : Chain) × (source_said (asking question) (zone_in question zone) chain).Absent (rightmost question.name.now labels) n
  absent_by_some n said = (held_chain said.held, said.says)

  pub absent_by_held : (n : RecordNumber) (chain : Chain) → (source_said (asking question) (zone_in question zone) chain).Absent (rightmost question.name.now labels) n
      → IsSaidByOne question zone (name.Above labels) word.Absent sources n
  absent_by_held n chain says =
      let there = held_there (asking question) (zone_in question zone) sources held.chains chain
      (absent_there (asking question) (zone_in question zone) chain (rightmost question.name.now labels) n says) in
      record {
        held = there.0;
        among = there.1;
        says = subst (λ (each : Chain). (source_said (asking question) (zone_in question zone) each).Absent (rightmost question.name.now labels) n) (sym there.2) says;
      }
