-- What the records of a source say: by their places and by their numbers.
use Rattle.std.proofs.Common.{◌≡◌, ◌≢◌, ◌↔◌, ◌⊎◌, ◌<◌, ℕ, Bool, inl, inr, List, ◌∷◌, Some, length, map, refl, sym, ap, ◌∙◌, subst, arith, ⊎_elim}
use Rattle.std.proofs.lemmas.Option.{get_or_from_slice_get, slice_get_within}
use Rattle.std.specs.List.{AllByRecursion}
use Rattle.std.specs.List.Sorted.{IsStrictlySortedBy}
use Rattle.std.specs.Ordering.{nat_cmp}
use Rattle.std.specs.Prelude.{⊤, Contains, slice_get}
use Rattle.std.specs.declared.cmp.Ordering.TheVariants.{Less}
use Rattle.dnsv_names.specs.Name.{Labels}
use Rattle.dnsv_zones.specs.chains.NsecChain.{IsInBitmap}
use Rattle.dnsv_zones.specs.forms.RecordWords.{RecordWords}
use Rattle.dnsv_canonical.proofs.OrderLemmas.{each_kept, each_member}
use Rattle.dnsv_canonical.specs.declared.number.RecordNumber.{RecordNumber}
use Rattle.dnsv_denial.proofs.lemmas.gathering.EvidenceLemmas.{all_said, all_to}
use Rattle.dnsv_proof_forms.proofs.lemmas.PlaceLemmas.{mapped_length}
use Rattle.dnsv_denial.proofs.lemmas.gathering.AlikeLemmas.{nsec3s_alike, nsecs_alike}
use Rattle.dnsv_proof_forms.proofs.lemmas.words.IndexLemmas.{SayAlike, SaysAlike}
use Rattle.dnsv_denial.specs.gathering.Evidence.{IsNsecOf, IsNsec3Of}
use Rattle.dnsv_denial.specs.gathering.Gathered.{AreAll, AreNsecs, AreNsec3s}
use Rattle.dnsv_proof_forms.specs.records.Numbers.{number_at, numbers_of, record_count}
use Rattle.dnsv_proof_forms.specs.records.Record.{read_entry, read_nsec3}
use Rattle.dnsv_proof_forms.specs.words.Asked.{said_types, said_word}
use Rattle.dnsv_proof_forms.specs.words.ChainSaid.{IsTypesAt, chain_said}
use Rattle.dnsv_proof_forms.specs.records.Numbers.{number_cmp}
use Rattle.dnsv_proof_forms.specs.words.SaidAt.{AreAllPlaces}
use Rattle.dnsv_proof_forms.specs.declared.records.chain_records.ChainRecords.{ChainRecords}
use Rattle.dnsv_proof_forms.specs.declared.records.chain_records.ChainRecords.TheVariants.{Nsec, Nsec3}
use Rattle.dnsv_proof_forms.specs.declared.records.entry.NsecEntry.{NsecEntry}
use Rattle.dnsv_proof_forms.specs.declared.records.entry.Nsec3Entry.{Nsec3Entry}
use Rattle.dnsv_proof_forms.specs.declared.words.asked.AskedWord.{AskedWord}
use Rattle.dnsv_proof_forms.specs.declared.words.asked.AskedWord.TheVariants as word
use Rattle.dnsv_gaps.proofs.RisingLemmas.{contains_map, first_of_rising, mapped_from, not_before, number_there, numbers_rising, same_place}
use Rattle.dnsv_gaps.specs.Asking.{Asking}
use Rattle.dnsv_gaps.specs.Denials.{IsDenialNumber}
use Rattle.dnsv_gaps.specs.Parts.{IsInEvidence}
use Rattle.dnsv_gaps.specs.SourceSearch.{AreItsRecords, chain_of}
use Rattle.dnsv_gaps.specs.Sources.{IsSourceNsec, IsSourceNsec3, source_said}

-- ---- the records of a source

module _ (a : Asking) (zone : Labels) where
  abbrev Among : RecordNumber → Type 0
  Among number = IsDenialNumber a zone number.rrset

  its_nsecs : (entries : List NsecEntry) → AreNsecs a.basis.rrsets Among entries
      → AreAll (λ entry. entry.number) read_entry (IsSourceNsec a zone) (λ n. ⊤) entries
  its_nsecs entries are =
      all_said (λ entry. entry.number) read_entry (IsNsecOf a.basis.rrsets) (IsSourceNsec a zone) Among (λ n. ⊤) entries
      (λ n x among is. (tt, record { is = is; denial = among })) (λ n x any is. (is.denial, is.is)) are

  its_nsec3s : (entries : List Nsec3Entry) → AreNsec3s a.basis.rrsets zone Among entries
      → AreAll (λ entry. entry.number) read_nsec3 (IsSourceNsec3 a zone) (λ n. ⊤) entries
  its_nsec3s entries are =
      all_said (λ entry. entry.number) read_nsec3 (IsNsec3Of a.basis.rrsets zone) (IsSourceNsec3 a zone) Among (λ n. ⊤) entries
      (λ n x among is. (tt, record { is = is; denial = among })) (λ n x any is. (is.denial, is.is)) are

  pub alike : (records : ChainRecords) → AreItsRecords a zone records
      → SayAlike (numbers_of records) (chain_said zone records) (source_said a zone (chain_of records))
  alike (Nsec entries) are = nsecs_alike (IsSourceNsec a zone) zone entries.now (its_nsecs entries.now are) entries refl
  alike (Nsec3 hashed) are =
      nsec3s_alike (IsSourceNsec3 a zone) zone hashed.now.entries.now (its_nsec3s hashed.now.entries.now are) hashed refl

  pub in_order : (records : ChainRecords) → AreItsRecords a zone records → IsStrictlySortedBy number_cmp (numbers_of records)
  in_order (Nsec entries) are = are.rising
  in_order (Nsec3 hashed) are = are.rising

  pub in_evidence : (records : ChainRecords) → AreItsRecords a zone records
      → AllByRecursion (IsInEvidence a.basis.rrsets) (numbers_of records)
  in_evidence (Nsec entries) are =
      all_to (λ (entry : NsecEntry). entry.number) (IsInEvidence a.basis.rrsets) entries.now
      (each_kept (λ (e : NsecEntry). Among e.number × IsNsecOf a.basis.rrsets e.number (read_entry e))
      (λ (e : NsecEntry). IsInEvidence a.basis.rrsets e.number) entries.now (λ e is. (is.1.rrset, is.1.at.is_rrset)) are.each)
  in_evidence (Nsec3 hashed) are =
      all_to (λ (entry : Nsec3Entry). entry.number) (IsInEvidence a.basis.rrsets) hashed.now.entries.now
      (each_kept (λ (e : Nsec3Entry). Among e.number × IsNsec3Of a.basis.rrsets zone e.number (read_nsec3 e))
      (λ (e : Nsec3Entry). IsInEvidence a.basis.rrsets e.number) hashed.now.entries.now (λ e is. (is.1.rrset, is.1.at.is_rrset)) are.each)

one_entry : {E : Type 0} (entries : List E) (place : ℕ) (a b : E) → slice_get entries place ≡ Some a → slice_get entries place ≡ Some b → a ≡ b
one_entry entries place a b at_a at_b = cc

pub count_is : (records : ChainRecords) → record_count records ≡ length (numbers_of records)
count_is (Nsec entries) = sym (mapped_length (λ (entry : NsecEntry). entry.number) entries.now)
count_is (Nsec3 hashed) = sym (mapped_length (λ (entry : Nsec3Entry). entry.number) hashed.now.entries.now)

-- ---- words

either_alike : (numbers : List RecordNumber) (By And : ℕ → Type 0) (Of Or : RecordNumber → Type 0) → SaysAlike numbers By Of
    → SaysAlike numbers And Or → SaysAlike numbers (λ place. By place ⊎ And place) (λ n. Of n ⊎ Or n)
either_alike numbers By And Of Or first second = record {
  to = λ place said. ⊎_elim (λ (by : By place). let it = first.to place by in (it.0, it.1, inl it.2))
      (λ (also : And place). let it = second.to place also in (it.0, it.1, inr it.2)) said;
  from = λ n said. ⊎_elim (λ (of : Of n). let it = first.from n of in (it.0, it.1, inl it.2))
      (λ (or : Or n). let it = second.from n or in (it.0, it.1, inr it.2)) said;
}

pub word_alike : (numbers : List RecordNumber) (by : RecordWords ℕ) (of : RecordWords RecordNumber) → SayAlike numbers by of
    → (asked : AskedWord) (name : Labels) → SaysAlike numbers (said_word by asked name) (said_word of asked name)
word_alike numbers by of alike word.Encloser name = alike.encloser name
word_alike numbers by of alike word.Absent name = alike.absent name
word_alike numbers by of alike word.EmptyNonTerminal name = alike.empty_non_terminal name
word_alike numbers by of alike word.OptedOut name = alike.opted_out name
word_alike numbers by of alike word.Covered name =
    either_alike numbers (by.Absent name) (by.OptedOut name) (of.Absent name) (of.OptedOut name) (alike.absent name) (alike.opted_out name)
word_alike numbers by of alike word.RuledOut name =
    either_alike numbers (by.Absent name) (λ p. by.OptedOut name p ⊎ by.EmptyNonTerminal name p) (of.Absent name)
    (λ n. of.OptedOut name n ⊎ of.EmptyNonTerminal name n) (alike.absent name)
    (either_alike numbers (by.OptedOut name) (by.EmptyNonTerminal name) (of.OptedOut name) (of.EmptyNonTerminal name) (alike.opted_out name)
    (alike.empty_non_terminal name))
word_alike numbers by of alike (word.Types types) name = alike.types_at name (said_types types)

-- ---- all that say so

module _ (numbers : List RecordNumber) (order : IsStrictlySortedBy number_cmp numbers) (By : ℕ → Type 0) (Of : RecordNumber → Type 0)
    (same : SaysAlike numbers By Of) (places : List ℕ) (all : AreAllPlaces By places) where
  pub within_all : (place : ℕ) → Contains places place → place < length numbers
  within_all place there =
      let it = same.to place ((all.members place).0 there) in slice_get_within numbers place it.0 it.1

  pub sayings_rising : IsStrictlySortedBy number_cmp (map (number_at numbers) places)
  sayings_rising =
      numbers_rising numbers order places all.rising (each_member (λ p. p < length numbers) places within_all)

  pub sayings_members : (n : RecordNumber) → Contains (map (number_at numbers) places) n ↔ Of n
  sayings_members n = (
    λ there.
        let of = mapped_from (number_at numbers) places n there in
        let it = same.to of.0 ((all.members of.0).0 of.1) in
        let at : number_at numbers of.0 ≡ it.0 = get_or_from_slice_get numbers of.0 it.0 (record { rrset = 0; place = 0 }) it.1 in
        subst Of (sym at ∙ of.2) it.2,
    λ is.
        let it = same.from n is in
        let at : number_at numbers it.0 ≡ n = get_or_from_slice_get numbers it.0 n (record { rrset = 0; place = 0 }) it.1 in
        subst (Contains (map (number_at numbers) places)) at (contains_map (number_at numbers) places it.0 ((all.members it.0).1 it.2)),
  )

  -- some place says so just where some record does
  pub some_said : ((place : ℕ) × Contains places place) ↔ ((n : RecordNumber) × Of n)
  some_said = (
    λ some. let it = same.to some.0 ((all.members some.0).0 some.1) in (it.0, it.2),
    λ some. let it = same.from some.0 some.1 in (it.0, (all.members it.0).1 it.2),
  )

  -- the record of lowest number is that of the first place
  pub first_said : (place : ℕ) (rest : List ℕ) → places ≡ place ∷ rest
      → Of (number_at numbers place) × ((n : RecordNumber) → Of n → number_cmp n (number_at numbers place) ≢ Less)
  first_said place rest are =
      let here : Contains places place = subst (λ (ps : List ℕ). Contains ps place) (sym are) (0, omega arith, refl) in
      let it = same.to place ((all.members place).0 here) in
      let at : number_at numbers place ≡ it.0 = get_or_from_slice_get numbers place it.0 (record { rrset = 0; place = 0 }) it.1 in (
        subst Of (sym at) it.2,
        λ n is less.
            let from = same.from n is in
            let among = subst (λ (ps : List ℕ). Contains ps from.0) are ((all.members from.0).1 from.2) in
            let later = first_of_rising place rest (subst (IsStrictlySortedBy nat_cmp) are all.rising) from.0 among in
            let less_too : number_cmp n it.0 ≡ Less = subst (λ (m : RecordNumber). number_cmp n m ≡ Less) at less in
            not_before numbers order from.0 place n it.0 from.1 it.1 later less_too,
      )

-- ---- types

pub types_told : (apex : Labels) (records : ChainRecords) (name : Labels) (place : ℕ) (types : ℕ → Bool)
    (Says When : (ℕ → Type 0) → Type 0) → IsTypesAt records place types → (chain_said apex records).TypesAt name When place
    → (chain_said apex records).TypesAt name Says place ↔ Says (IsInBitmap types)
types_told apex (Nsec entries) name place types Says When at met =
    let Are : (ℕ → Bool) → Type 0 = λ each. Says (IsInBitmap each) in (
      λ said.
          let same : said.entry ≡ at.entry = one_entry entries.now place said.entry at.entry said.there at.there in
          subst Are (ap (λ (e : NsecEntry). (read_entry e).types) same ∙ at.says) said.says.1,
      λ so.
          let same : met.entry ≡ at.entry = one_entry entries.now place met.entry at.entry met.there at.there in
          record { entry = met.entry; there = met.there; says = (met.says.0, subst Are (sym (ap (λ (e : NsecEntry). (read_entry e).types) same ∙ at.says)) so) },
    )
types_told apex (Nsec3 hashed) name place types Says When at met =
    let Are : (ℕ → Bool) → Type 0 = λ each. Says (IsInBitmap each) in (
      λ said.
          let same : said.entry ≡ at.entry = one_entry hashed.now.entries.now place said.entry at.entry said.there at.there in
          subst Are (ap (λ (e : Nsec3Entry). (read_nsec3 e).types) same ∙ at.says) said.says.1,
      λ so.
          let same : met.entry ≡ at.entry = one_entry hashed.now.entries.now place met.entry at.entry met.there at.there in
          record { entry = met.entry; there = met.there; says = (met.says.0, subst Are (sym (ap (λ (e : Nsec3Entry). (read_nsec3 e).types) same ∙ at.says)) so) },
    )

-- what the record at a place says of types, its number says
module _ (numbers : List RecordNumber) (order : IsStrictlySortedBy number_cmp numbers) (By : ℕ → Type 0) (Of : RecordNumber → Type 0)
    (same : SaysAlike numbers By Of) (place : ℕ) (within : place < length numbers) where
  pub said_there : By place ↔ Of (number_at numbers place)
  said_there = (
    λ by.
        let it = same.to place by in
        let at : number_at numbers place ≡ it.0 = get_or_from_slice_get numbers place it.0 (record { rrset = 0; place = 0 }) it.1 in
        subst Of (sym at) it.2,
    λ of.
        let it = same.from (number_at numbers place) of in
        subst By (same_place numbers order it.0 place (number_at numbers place) it.1 (number_there numbers place within)) it.2,
  )
