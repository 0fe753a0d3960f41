-- What the gathered records say by their places is what the evidence says by their numbers.
use Rattle.std.proofs.Common.{◌≡◌, ◌≢◌, Bor, ℕ, zero, suc, ◌<◌, ◌≤◌, List, [], ◌∷◌, map, refl, sym, ap, ◌∙◌, subst, ⊎_elim, arith}
use Rattle.std.proofs.lemmas.Bool.{cases_lt}
use Rattle.std.specs.Ordering.{ordering_reverse}
use Rattle.std.specs.Prelude.{⊤, Some, slice_get}
use Rattle.std.specs.List.Sorted.{IsStrictlySortedBy}
use Rattle.std.specs.declared.cmp.Ordering.TheVariants.{Less, Greater}
use Rattle.dnsv_names.specs.Name.{Labels, SameName}
use Rattle.dnsv_zones.specs.Any.{Any}
use Rattle.dnsv_zones.specs.chains.Nsec3Chain.{Nsec3Record, NameHash}
use Rattle.dnsv_zones.specs.chains.NsecChain.{NsecRecord, IsInBitmap}
use Rattle.dnsv_zones.specs.chains.Rdata.{parameters_of}
use Rattle.dnsv_zones.specs.forms.Nsec.{IsAbsentBy, IsEmptyNonTerminalBy, IsNodeBy}
use Rattle.dnsv_zones.specs.forms.Nsec3.{Covers, Matches}
use Rattle.dnsv_zones.specs.forms.Said.{nsec_records_say, nsec3_records_say}
use Rattle.dnsv_zones.specs.zones.Types.{IsClosed}
use Rattle.dnsv_canonical.specs.Rrsets.{ReceivedRrset}
use Rattle.dnsv_denial.specs.gathering.Evidence.{IsNsecAt, IsNsec3At}
use Rattle.dnsv_denial.specs.gathering.Gathered.{AreAll, AreNsecsOf, AreNsec3sOf}
use Rattle.dnsv_proof_forms.specs.records.AskedHash.{hash_of}
use Rattle.dnsv_proof_forms.specs.records.Record.{read_entry, read_nsec3}
use Rattle.dnsv_proof_forms.specs.words.ChainSaid.{chain_said}
use Rattle.dnsv_denial.specs.gathering.EvidenceWords.{nsec_said, nsec3_said}
use Rattle.dnsv_proof_forms.specs.records.Numbers.{number_cmp}
use Rattle.dnsv_proof_forms.specs.words.SaidAt.{IsSaidAt}
use Rattle.dnsv_proof_forms.specs.declared.records.entry.NsecEntry.{NsecEntry}
use Rattle.dnsv_proof_forms.specs.declared.records.entry.Nsec3Entry.{Nsec3Entry}
use Rattle.dnsv_proof_forms.specs.declared.records.hashed_records.HashedRecords.{HashedRecords}
use Rattle.dnsv_canonical.specs.declared.number.RecordNumber.{RecordNumber}
use Rattle.dnsv_proof_forms.specs.declared.records.chain_records.ChainRecords.TheVariants.{Nsec, Nsec3}
use Rattle.dnsv_proof_forms.proofs.lemmas.PlaceLemmas.{mapped_at, each_at}
use Rattle.dnsv_proof_forms.proofs.lemmas.words.IndexLemmas.{AreInOrder, SaysAlike, SayAlike}
use Rattle.dnsv_denial.proofs.lemmas.proving.NumberLemmas.{number_cmp_total}

both_less : (a b : RecordNumber) → number_cmp a b ≡ Less → number_cmp b a ≡ Less → ⊥
both_less a b less more = let turned : Less ≡ Greater = sym less ∙ number_cmp_total.antisymm a b ∙ ap ordering_reverse more in cc

-- the place of the member that is such
pub any_place : {X : Type 0} (P : X → Type 0) (xs : List X) → Any P xs → (place : ℕ) × (x : X) × (slice_get xs place ≡ Some x) × P x
any_place P [] some = absurd some
any_place P (x ∷ xs) some =
    ⊎_elim (λ (here : P x). (0, x, refl, here)) (λ (rest : Any P xs). let it = any_place P xs rest in (suc it.0, it.1, it.2, it.3)) some

pub before_less : (xs : List RecordNumber) (i j : ℕ) (a b : RecordNumber) → IsStrictlySortedBy number_cmp xs → slice_get xs i ≡ Some a → slice_get xs j ≡ Some b → j < i → number_cmp b a ≡ Less
unfolding IsStrictlySortedBy
before_less [] i j a b rising at_i at_j less = cc
before_less (x ∷ xs) zero j a b rising at_i at_j less = absurd (omega (arith, less))
before_less (x ∷ xs) (suc i) zero a b rising at_i at_j less = let is : x ≡ b = cc in subst (λ y. number_cmp y a ≡ Less) is (each_at (λ y. number_cmp x y ≡ Less) xs i a rising.0 at_i)
before_less (x ∷ xs) (suc i) (suc j) a b rising at_i at_j less = before_less xs i j a b rising.1 at_i at_j (omega (arith, less))

one_place : (xs : List RecordNumber) (i j : ℕ) (a b : RecordNumber) → slice_get xs i ≡ Some a → slice_get xs j ≡ Some b → i ≡ j → a ≡ b
one_place xs i j a b at_i at_j same = let moved : slice_get xs j ≡ Some a = subst (λ k. slice_get xs k ≡ Some a) same at_i in cc

pub in_order : (xs : List RecordNumber) → IsStrictlySortedBy number_cmp xs → AreInOrder xs
in_order xs rising = record {
  later = λ i j a b at_i at_j below. ⊎_elim (λ (less : i < j). less)
      (λ (most : j ≤ i). absurd (⊎_elim
      (λ (less : j < i). both_less a b below (before_less xs i j a b rising at_i at_j less))
      (λ (same : i ≤ j). let is : a ≡ b = one_place xs i j a b at_i at_j (omega (arith, most, same)) in let less : number_cmp a a ≡ Less = subst (λ z. number_cmp a z ≡ Less) (sym is) below in both_less a a less less)
      (cases_lt j i)))
      (cases_lt i j);
}

module _ {E X : Type 0} (number : E → RecordNumber) (value : E → X) (Is : RecordNumber → X → Type 0) (entries : List E) (are : AreAll number value Is (λ n. ⊤) entries) where
  says_alike : (Says : X → Type 0) → SaysAlike (map number entries) (IsSaidAt (λ entry. Says (value entry)) entries) (λ n. (x : X) × Is n x × Says x)
  says_alike Says = record {
    to = λ place said. (
      number said.entry,
      mapped_at number entries place said.entry said.there,
      (value said.entry, (each_at (λ entry. ⊤ × Is (number entry) (value entry)) entries place said.entry are.each said.there).1, said.says),
    );
    from = λ n told.
        let it = any_place (λ entry. (number entry ≡ n) × (value entry ≡ told.0)) entries (are.all n told.0 tt told.1) in
        (it.0, mapped_at number entries it.0 it.1 it.2 ∙ ap Some it.3.0, record { entry = it.1; there = it.2; says = subst Says (sym it.3.1) told.2 });
  }

none_alike : (numbers : List RecordNumber) → SaysAlike numbers (λ place. ⊥) (λ n. ⊥)
none_alike numbers = record { to = λ place none. absurd none; from = λ n none. absurd none }

pub nsecs_alike : (Is : RecordNumber → NsecRecord → Type 0) (zone : Labels) (entries : List NsecEntry)
    → AreAll (λ entry. entry.number) read_entry Is (λ n. ⊤) entries → (given : Bor (List NsecEntry)) → given.now ≡ entries
    → SayAlike (map (λ entry. entry.number) entries) (chain_said zone (Nsec given))
    (nsec_records_say zone (λ Says n. (nsec : NsecRecord) × Is n nsec × Says nsec))
nsecs_alike Is zone entries are given same = record {
  needs_to = λ name is. is;
  needs_from = λ name is. is;
  encloser = λ name. moved (λ entry. IsNodeBy (read_entry entry) name) (alike (λ nsec. IsNodeBy nsec name));
  absent = λ name. moved (λ entry. IsAbsentBy (read_entry entry) name) (alike (λ nsec. IsAbsentBy nsec name));
  empty_non_terminal = λ name. moved (λ entry. IsEmptyNonTerminalBy (read_entry entry) name) (alike (λ nsec. IsEmptyNonTerminalBy nsec name));
  types_at = λ name Says. moved (λ entry. SameName entry.owner.now name × Says (IsInBitmap (read_entry entry).types)) (alike (λ nsec. SameName nsec.owner name × Says (IsInBitmap nsec.types)));
  opted_out = λ name. none_alike (map (λ entry. entry.number) entries);
} where
  alike : (Says : NsecRecord → Type 0) → SaysAlike (map (λ entry. entry.number) entries) (IsSaidAt (λ entry. Says (read_entry entry)) entries) (λ n. (x : NsecRecord) × Is n x × Says x)
  alike = says_alike (λ entry. entry.number) read_entry Is entries are

  moved : (Says : NsecEntry → Type 0) {Of : RecordNumber → Type 0} → SaysAlike (map (λ entry. entry.number) entries) (IsSaidAt Says entries) Of → SaysAlike (map (λ entry. entry.number) entries) (IsSaidAt Says given.now) Of
  moved Says {Of} alike = subst (λ es. SaysAlike (map (λ entry. entry.number) entries) (IsSaidAt Says es) Of) (sym same) alike

pub nsec_alike : (Secured : ℕ → ℕ → Type 0) (rrsets : List ReceivedRrset) (zone : Labels) (entries : List NsecEntry) → AreNsecsOf Secured rrsets zone entries
    → (given : Bor (List NsecEntry)) → given.now ≡ entries
    → SayAlike (map (λ entry. entry.number) entries) (chain_said zone (Nsec given)) (nsec_said Secured rrsets zone)
nsec_alike Secured rrsets zone = nsecs_alike (IsNsecAt Secured rrsets zone) zone

pub nsec3s_alike : (Is : RecordNumber → Nsec3Record → Type 0) (zone : Labels) (entries : List Nsec3Entry)
    → AreAll (λ entry. entry.number) read_nsec3 Is (λ n. ⊤) entries → (given : Bor HashedRecords) → given.now.entries.now ≡ entries
    → SayAlike (map (λ entry. entry.number) entries) (chain_said zone (Nsec3 given))
    (nsec3_records_say (hash_of given.now) (λ Says n. (nsec3 : Nsec3Record) × Is n nsec3 × Says nsec3))
nsec3s_alike Is zone entries are given same = record {
  needs_to = λ name is. is;
  needs_from = λ name is. is;
  encloser = λ name. moved (λ entry. Matches hash (read_nsec3 entry) name × ¬ IsClosed (IsInBitmap (read_nsec3 entry).types)) (alike (λ nsec3. Matches hash nsec3 name × ¬ IsClosed (IsInBitmap nsec3.types)));
  absent = λ name. moved (λ entry. Covers hash (read_nsec3 entry) name × ((read_nsec3 entry).flags ≡ 0)) (alike (λ nsec3. Covers hash nsec3 name × (nsec3.flags ≡ 0)));
  empty_non_terminal = λ name. none_alike (map (λ entry. entry.number) entries);
  types_at = λ name Says. moved (λ entry. Matches hash (read_nsec3 entry) name × Says (IsInBitmap (read_nsec3 entry).types)) (alike (λ nsec3. Matches hash nsec3 name × Says (IsInBitmap nsec3.types)));
  opted_out = λ name. moved (λ entry. Covers hash (read_nsec3 entry) name × ((read_nsec3 entry).flags ≢ 0)) (alike (λ nsec3. Covers hash nsec3 name × (nsec3.flags ≢ 0)));
} where
  hash : NameHash
  hash = hash_of given.now

  alike : (Says : Nsec3Record → Type 0) → SaysAlike (map (λ entry. entry.number) entries) (IsSaidAt (λ entry. Says (read_nsec3 entry)) entries) (λ n. (x : Nsec3Record) × Is n x × Says x)
  alike = says_alike (λ entry. entry.number) read_nsec3 Is entries are

  moved : (Says : Nsec3Entry → Type 0) {Of : RecordNumber → Type 0} → SaysAlike (map (λ entry. entry.number) entries) (IsSaidAt Says entries) Of → SaysAlike (map (λ entry. entry.number) entries) (IsSaidAt Says given.now.entries.now) Of
  moved Says {Of} alike = subst (λ es. SaysAlike (map (λ entry. entry.number) entries) (IsSaidAt Says es) Of) (sym same) alike

pub nsec3_alike : (Secured : ℕ → ℕ → Type 0) (rrsets : List ReceivedRrset) (zone : Labels) (entries : List Nsec3Entry) → AreNsec3sOf Secured rrsets zone entries
    → (given : Bor HashedRecords) → given.now.entries.now ≡ entries
    → SayAlike (map (λ entry. entry.number) entries) (chain_said zone (Nsec3 given)) (nsec3_said Secured rrsets zone (parameters_of given.now.parameters.now))
nsec3_alike Secured rrsets zone = nsec3s_alike (IsNsec3At Secured rrsets zone) zone
