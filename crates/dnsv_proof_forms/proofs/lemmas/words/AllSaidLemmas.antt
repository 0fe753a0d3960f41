-- All records that say what is asked of a name, by what they say of its hash.
use Rattle.std.proofs.Common.{◌≡◌, ◌≢◌, ◌⊎◌, ℕ, Bool, true, false, List, sym, subst, ◌∙◌, inl, inr, ⊎_elim, arith, refl}
use Rattle.dnsv_names.specs.Name.{Labels}
use Rattle.dnsv_names.specs.Order.{label_cmp}
use Rattle.dnsv_names.specs.Circle.{Gap}
use Rattle.dnsv_zones.specs.chains.Nsec3Chain.{NameHash}
use Rattle.dnsv_zones.specs.chains.NsecChain.{IsInBitmap, NsecRecord}
use Rattle.dnsv_zones.specs.forms.Nsec3.{Matches, Covers}
use Rattle.dnsv_proof_forms.specs.declared.records.entry.Nsec3Entry.{Nsec3Entry}
use Rattle.dnsv_proof_forms.specs.records.HashWords.{HasHash, CoversHash}
use Rattle.dnsv_proof_forms.specs.records.Record.{read_nsec3, flags_of}
use Rattle.dnsv_proof_forms.specs.words.SaidAt.{AreAllPlaces, IsSaidAt}
use Rattle.dnsv_proof_forms.proofs.lemmas.records.HashLemmas.{flag_is, has_flag}
use Rattle.dnsv_proof_forms.proofs.lemmas.words.AllPlacesLemmas.{all_alike, all_as}

module _ (hash : NameHash) (name : Labels) (octets : List ℕ) (entries : List Nsec3Entry) (places : List ℕ) (is : octets ≡ hash.of name) where
  covers_name : (entry : Nsec3Entry) → CoversHash hash.parameters octets (read_nsec3 entry) → Covers hash (read_nsec3 entry) name
  covers_name entry said = record { same_parameters = said.0; gap = subst (Gap label_cmp (read_nsec3 entry).hash (read_nsec3 entry).next) is said.1 }

  covers_octets : (entry : Nsec3Entry) → Covers hash (read_nsec3 entry) name → CoversHash hash.parameters octets (read_nsec3 entry)
  covers_octets entry said = (said.same_parameters, subst (Gap label_cmp (read_nsec3 entry).hash (read_nsec3 entry).next) (sym is) said.gap)

  pub covers_all : AreAllPlaces (IsSaidAt (λ entry. CoversHash hash.parameters octets (read_nsec3 entry)) entries) places
      → AreAllPlaces (IsSaidAt (λ entry. Covers hash (read_nsec3 entry) name) entries) places
  covers_all = all_as (λ entry. CoversHash hash.parameters octets (read_nsec3 entry)) (λ entry. Covers hash (read_nsec3 entry) name) entries places covers_name covers_octets

  pub covers_all_with : (flags : ℕ) → AreAllPlaces (IsSaidAt (λ entry. CoversHash hash.parameters octets (read_nsec3 entry) × ((read_nsec3 entry).flags ≡ flags)) entries) places
      → AreAllPlaces (IsSaidAt (λ entry. Covers hash (read_nsec3 entry) name × ((read_nsec3 entry).flags ≡ flags)) entries) places
  covers_all_with flags = all_as (λ entry. CoversHash hash.parameters octets (read_nsec3 entry) × ((read_nsec3 entry).flags ≡ flags))
      (λ entry. Covers hash (read_nsec3 entry) name × ((read_nsec3 entry).flags ≡ flags)) entries places
      (λ entry said. (covers_name entry said.0, said.1)) (λ entry said. (covers_octets entry said.0, said.1))

  pub matches_all : (Says : (ℕ → Type 0) → Type 0)
      → AreAllPlaces (IsSaidAt (λ entry. HasHash hash.parameters octets (read_nsec3 entry) × Says (IsInBitmap (read_nsec3 entry).types)) entries) places
      → AreAllPlaces (IsSaidAt (λ entry. Matches hash (read_nsec3 entry) name × Says (IsInBitmap (read_nsec3 entry).types)) entries) places
  matches_all Says = all_as (λ entry. HasHash hash.parameters octets (read_nsec3 entry) × Says (IsInBitmap (read_nsec3 entry).types))
      (λ entry. Matches hash (read_nsec3 entry) name × Says (IsInBitmap (read_nsec3 entry).types)) entries places
      (λ entry said. (record { same_parameters = said.0.0; same_hash = said.0.1 ∙ is }, said.1))
      (λ entry said. ((said.0.same_parameters, said.0.same_hash ∙ sym is), said.1))

-- ---- covers with the Opt-Out flag and without

module _ (hash : NameHash) (name : Labels) (entries : List Nsec3Entry) (places : List ℕ) where
  abbrev Firm : ℕ → Type 0
  Firm = IsSaidAt (λ (entry : Nsec3Entry). Covers hash (read_nsec3 entry) name × ((read_nsec3 entry).flags ≡ 0)) entries

  abbrev Loose : ℕ → Type 0
  Loose = IsSaidAt (λ (entry : Nsec3Entry). Covers hash (read_nsec3 entry) name × ((read_nsec3 entry).flags ≢ 0)) entries

  pub opted_out_all : AreAllPlaces (IsSaidAt (λ entry. Covers hash (read_nsec3 entry) name × ((read_nsec3 entry).flags ≡ 1)) entries) places
      → AreAllPlaces Loose places
  opted_out_all = all_as (λ entry. Covers hash (read_nsec3 entry) name × ((read_nsec3 entry).flags ≡ 1))
      (λ entry. Covers hash (read_nsec3 entry) name × ((read_nsec3 entry).flags ≢ 0)) entries places
      (λ entry said. (said.0, has_flag entry.is_opt_out said.1)) (λ entry said. (said.0, flag_is entry.is_opt_out said.1))

  by_flag : (flag : Bool) → (flags_of flag ≡ 0) ⊎ (flags_of flag ≢ 0)
  by_flag true = inr (λ none. omega (arith, none))
  by_flag false = inl refl

  firm_or_loose : (place : ℕ) → IsSaidAt (λ entry. Covers hash (read_nsec3 entry) name) entries place → Firm place ⊎ Loose place
  firm_or_loose place said = ⊎_elim
      (λ (none : flags_of said.entry.is_opt_out ≡ 0). inl (record { entry = said.entry; there = said.there; says = (said.says, none) }))
      (λ (some : flags_of said.entry.is_opt_out ≢ 0). inr (record { entry = said.entry; there = said.there; says = (said.says, some) }))
      (by_flag said.entry.is_opt_out)

  covered : (place : ℕ) → Firm place ⊎ Loose place → IsSaidAt (λ entry. Covers hash (read_nsec3 entry) name) entries place
  covered place = ⊎_elim
      (λ (said : Firm place). record { entry = said.entry; there = said.there; says = said.says.0 })
      (λ (said : Loose place). record { entry = said.entry; there = said.there; says = said.says.0 })

  pub covered_all : AreAllPlaces (IsSaidAt (λ entry. Covers hash (read_nsec3 entry) name) entries) places
      → AreAllPlaces (λ place. Firm place ⊎ Loose place) places
  covered_all = all_alike (IsSaidAt (λ entry. Covers hash (read_nsec3 entry) name) entries) (λ place. Firm place ⊎ Loose place) places firm_or_loose covered

  pub ruled_out_all : AreAllPlaces (IsSaidAt (λ entry. Covers hash (read_nsec3 entry) name) entries) places
      → AreAllPlaces (λ place. Firm place ⊎ Loose place ⊎ ⊥) places
  ruled_out_all = all_alike (IsSaidAt (λ entry. Covers hash (read_nsec3 entry) name) entries) (λ place. Firm place ⊎ Loose place ⊎ ⊥) places
      (λ place said. ⊎_elim (λ (firm : Firm place). inl firm) (λ (loose : Loose place). inr (inl loose)) (firm_or_loose place said))
      (λ place. ⊎_elim (λ (firm : Firm place). covered place (inl firm))
      (λ (rest : Loose place ⊎ ⊥). ⊎_elim (λ (loose : Loose place). covered place (inr loose)) (λ (none : ⊥). absurd none) rest))

-- ---- NSEC records are never of the one kind

pub or_never : (P : ℕ → Type 0) (places : List ℕ) → AreAllPlaces P places → AreAllPlaces (λ place. P place ⊎ ⊥) places
or_never P places = all_alike P (λ place. P place ⊎ ⊥) places (λ place says. inl says) (λ place. ⊎_elim (λ (says : P place). says) (λ (none : ⊥). absurd none))

pub either_said : {X : Type 0} (P Q : X → Type 0) (xs : List X) (places : List ℕ) → AreAllPlaces (IsSaidAt (λ x. P x ⊎ Q x) xs) places
    → AreAllPlaces (λ place. IsSaidAt P xs place ⊎ ⊥ ⊎ IsSaidAt Q xs place) places
either_said {X} P Q xs places = all_alike (IsSaidAt (λ x. P x ⊎ Q x) xs) (λ place. IsSaidAt P xs place ⊎ ⊥ ⊎ IsSaidAt Q xs place) places
    (λ place said. ⊎_elim
    (λ (says : P said.entry). inl (record { entry = said.entry; there = said.there; says = says }))
    (λ (says : Q said.entry). inr (inr (record { entry = said.entry; there = said.there; says = says }))) said.says)
    (λ place. ⊎_elim
    (λ (said : IsSaidAt P xs place). record { entry = said.entry; there = said.there; says = inl said.says })
    (λ (rest : ⊥ ⊎ IsSaidAt Q xs place). ⊎_elim (λ (none : ⊥). absurd none)
    (λ (said : IsSaidAt Q xs place). record { entry = said.entry; there = said.there; says = inr said.says }) rest))
