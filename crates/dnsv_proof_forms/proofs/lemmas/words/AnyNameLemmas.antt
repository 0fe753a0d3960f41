-- What no record says of any name, is said of none of the names that are asked for.
use Rattle.std.proofs.Common.{◌≡◌, ◌≢◌, ℕ, ◌+◌, ◌<◌, Bool, true, false, List, Option, refl, inl, inr, ⊎_elim, arith}
use Rattle.std.specs.Prelude.{IsTrue, is_some}
use Rattle.dnsv_names.specs.Name.{Labels, SameName, rightmost}
use Rattle.dnsv_names.specs.Tree.{wildcard_of}
use Rattle.dnsv_zones.specs.chains.NsecChain.{IsInBitmap}
use Rattle.dnsv_zones.specs.forms.Nsec3.{Matches, Covers}
use Rattle.dnsv_zones.specs.zones.Types.{Denies, IsUnsignedDelegation}
use Rattle.dnsv_proof_forms.specs.forms.Denials.{DenialForm}
use Rattle.dnsv_proof_forms.specs.records.Numbers.{record_count}
use Rattle.dnsv_proof_forms.specs.records.AskedHash.{hash_of}
use Rattle.dnsv_proof_forms.specs.records.Record.{read_entry, read_nsec3, flags_of}
use Rattle.dnsv_proof_forms.specs.words.ChainSaid.{chain_said}
use Rattle.dnsv_proof_forms.specs.words.SaidAt.{IsSaidAt, IsFirstPlace}
use Rattle.dnsv_proof_forms.specs.declared.forms.denial.Denial.{Denial}
use Rattle.dnsv_proof_forms.specs.declared.forms.denial.Denial.TheVariants.{NoName, NoData, NoCloser, Delegation, OptOut, OptOutCloser}
use Rattle.dnsv_proof_forms.specs.declared.records.entry.Nsec3Entry.{Nsec3Entry}
use Rattle.dnsv_proof_forms.specs.declared.records.entry.NsecEntry.{NsecEntry}
use Rattle.dnsv_proof_forms.specs.declared.records.hashed_records.HashedRecords.{HashedRecords}
use Rattle.dnsv_proof_forms.specs.declared.records.chain_records.ChainRecords.{ChainRecords}
use Rattle.dnsv_proof_forms.proofs.lemmas.forms.BoundLemmas.{chain_bound}
use Rattle.dnsv_proof_forms.proofs.lemmas.words.FirstLemmas.{some_first}

-- ---- no records

module _ (apex name : Labels) (records : ChainRecords) where
  none_there : ¬ (0 < record_count records) → (Says : ℕ → Type 0) → ((place : ℕ) → Says place → place < record_count records) → ((place : ℕ) × Says place) → ⊥
  none_there empty Says bound some = let within = bound some.0 some.1 in empty (omega (arith, within))

  pub nothing_denied : ¬ (0 < record_count records) → (denial : Denial) → ¬ DenialForm denial name (chain_said apex records) apex
  nothing_denied empty NoName form =
      none_there empty ((chain_said apex records).Absent (wildcard_of (rightmost name form.labels)))
      ((chain_bound apex records).absent (wildcard_of (rightmost name form.labels))) form.wildcard
  nothing_denied empty (NoCloser labels) form =
      none_there empty ((chain_said apex records).Absent (rightmost name (labels + 1)))
      ((chain_bound apex records).absent (rightmost name (labels + 1))) form.next_closer
  nothing_denied empty (NoData rtype) (inl form) =
      none_there empty ((chain_said apex records).TypesAt name (λ has. Denies has rtype.0))
      ((chain_bound apex records).types_at name (λ has. Denies has rtype.0)) form.types
  nothing_denied empty (NoData rtype) (inr (inl form)) =
      none_there empty ((chain_said apex records).EmptyNonTerminal name) ((chain_bound apex records).empty_non_terminal name) form.empty_non_terminal
  nothing_denied empty (NoData rtype) (inr (inr (inl form))) =
      none_there empty ((chain_said apex records).TypesAt (wildcard_of (rightmost name form.labels)) (λ has. Denies has rtype.0))
      ((chain_bound apex records).types_at (wildcard_of (rightmost name form.labels)) (λ has. Denies has rtype.0)) form.types
  nothing_denied empty (NoData rtype) (inr (inr (inr form))) =
      none_there empty ((chain_said apex records).EmptyNonTerminal (wildcard_of (rightmost name form.labels)))
      ((chain_bound apex records).empty_non_terminal (wildcard_of (rightmost name form.labels))) form.empty_non_terminal
  nothing_denied empty (Delegation labels) delegation =
      none_there empty ((chain_said apex records).TypesAt (rightmost name labels) IsUnsignedDelegation)
      ((chain_bound apex records).types_at (rightmost name labels) IsUnsignedDelegation) delegation.form.types
  nothing_denied empty (OptOut labels) out =
      ⊎_elim
      (λ (next : (place : ℕ) × (chain_said apex records).OptedOut (rightmost name (labels + 1)) place).
      none_there empty ((chain_said apex records).OptedOut (rightmost name (labels + 1))) ((chain_bound apex records).opted_out (rightmost name (labels + 1))) next)
      (λ (star : (place : ℕ) × (chain_said apex records).OptedOut (wildcard_of (rightmost name labels)) place).
      none_there empty ((chain_said apex records).OptedOut (wildcard_of (rightmost name labels))) ((chain_bound apex records).opted_out (wildcard_of (rightmost name labels))) star)
      out.opted_out
  nothing_denied empty (OptOutCloser labels) out =
      none_there empty ((chain_said apex records).OptedOut (rightmost name (labels + 1)))
      ((chain_bound apex records).opted_out (rightmost name (labels + 1))) out.opted_out

-- ---- what some record says

some_other : {X : Type 0} (P Q : X → Type 0) (xs : List X) (found : Option ℕ) (test : Bool) → test ≡ is_some found → ((x : X) → Q x → P x)
    → IsFirstPlace (IsSaidAt P xs) found → ((place : ℕ) × IsSaidAt Q xs place) → IsTrue test
some_other P Q xs found test is leads first some =
    (some_first (IsSaidAt P xs) found test is first).1
    (some.0, record { entry = some.1.entry; there = some.1.there; says = leads some.1.entry some.1.says })

flag_tells : (b : Bool) → flags_of b ≢ 0 → IsTrue b
flag_tells true some = refl
flag_tells false some = absurd (some refl)

module _ (apex name : Labels) (found : Option ℕ) (test : Bool) (is : test ≡ is_some found) where
  pub nsec_delegation : (entries : List NsecEntry)
      → IsFirstPlace (IsSaidAt (λ entry. IsUnsignedDelegation (IsInBitmap (read_entry entry).types)) entries) found
      → ((place : ℕ) × IsSaidAt (λ entry. SameName entry.owner.now name × IsUnsignedDelegation (IsInBitmap (read_entry entry).types)) entries place) → IsTrue test
  nsec_delegation entries =
      some_other (λ (entry : NsecEntry). IsUnsignedDelegation (IsInBitmap (read_entry entry).types))
      (λ (entry : NsecEntry). SameName entry.owner.now name × IsUnsignedDelegation (IsInBitmap (read_entry entry).types)) entries found test is (λ entry says. says.1)

  pub nsec3_delegation : (hashed : HashedRecords)
      → IsFirstPlace (IsSaidAt (λ entry. IsUnsignedDelegation (IsInBitmap (read_nsec3 entry).types)) hashed.entries.now) found
      → ((place : ℕ) × IsSaidAt (λ entry. Matches (hash_of hashed) (read_nsec3 entry) name × IsUnsignedDelegation (IsInBitmap (read_nsec3 entry).types)) hashed.entries.now place)
      → IsTrue test
  nsec3_delegation hashed =
      some_other (λ (entry : Nsec3Entry). IsUnsignedDelegation (IsInBitmap (read_nsec3 entry).types))
      (λ (entry : Nsec3Entry). Matches (hash_of hashed) (read_nsec3 entry) name × IsUnsignedDelegation (IsInBitmap (read_nsec3 entry).types))
      hashed.entries.now found test is (λ entry says. says.1)

  pub nsec3_opt_out : (hashed : HashedRecords)
      → IsFirstPlace (IsSaidAt (λ entry. IsTrue entry.is_opt_out) hashed.entries.now) found
      → ((place : ℕ) × IsSaidAt (λ entry. Covers (hash_of hashed) (read_nsec3 entry) name × ((read_nsec3 entry).flags ≢ 0)) hashed.entries.now place) → IsTrue test
  nsec3_opt_out hashed =
      some_other (λ (entry : Nsec3Entry). IsTrue entry.is_opt_out)
      (λ (entry : Nsec3Entry). Covers (hash_of hashed) (read_nsec3 entry) name × ((read_nsec3 entry).flags ≢ 0))
      hashed.entries.now found test is (λ entry says. flag_tells entry.is_opt_out says.1)
