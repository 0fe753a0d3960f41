-- Whether a chain has records.
use Rattle.std.proofs.Common.{◌≡◌, ◌≢◌, ℕ, ◌<◌, Bool, true, false, List, [], ◌∷◌, Option, length, refl, arith}
use Rattle.std.proofs.lemmas.Option.{slice_get_within}
use Rattle.std.specs.Prelude.{⊤, ◌↔◌, IsTrue, is_some}
use Rattle.dnsv_zones.specs.chains.Nsec3Chain.{Parameters}
use Rattle.dnsv_proof_forms.specs.records.Record.{read_nsec3, flags_of}
use Rattle.dnsv_proof_forms.specs.words.SaidAt.{IsSaidAt, IsFirstPlace}
use Rattle.dnsv_proof_forms.specs.declared.records.entry.Nsec3Entry.{Nsec3Entry}
use Rattle.dnsv_proof_forms.proofs.lemmas.words.FirstLemmas.{first_as, some_first}

pub first_there : {X : Type 0} (xs : List X) → 0 < length xs → (place : ℕ) × IsSaidAt (λ (x : X). ⊤) xs place
first_there [] some = absurd (omega (arith, some))
first_there (x ∷ xs) some = (0, record { entry = x; there = refl; says = tt })

pub not_empty : {X : Type 0} (xs : List X) → (place : ℕ) × IsSaidAt (λ (x : X). ⊤) xs place → 0 < length xs
not_empty xs some = let within = slice_get_within xs some.0 some.1.entry some.1.there in omega (arith, within)

flagged : (flag : Bool) → IsTrue flag → flags_of flag ≢ 0
flagged true is = λ none. omega (arith, none)
flagged false is = cc

unflagged : (flag : Bool) → flags_of flag ≢ 0 → IsTrue flag
unflagged true some = refl
unflagged false some = absurd (some refl)

-- found where a record with the parameters has the flag
pub opt_out_found : (parameters : Parameters) (entries : List Nsec3Entry) (found : Option ℕ) (told : Bool) → told ≡ is_some found
    → IsFirstPlace (IsSaidAt (λ entry. ((read_nsec3 entry).parameters ≡ parameters) × IsTrue entry.is_opt_out) entries) found
    → IsTrue told ↔ ((place : ℕ) × IsSaidAt (λ entry. ((read_nsec3 entry).parameters ≡ parameters) × ((read_nsec3 entry).flags ≢ 0)) entries place)
opt_out_found parameters entries found told is first =
    some_first (IsSaidAt (λ entry. ((read_nsec3 entry).parameters ≡ parameters) × ((read_nsec3 entry).flags ≢ 0)) entries) found told is
    (first_as (λ entry. ((read_nsec3 entry).parameters ≡ parameters) × IsTrue entry.is_opt_out) (λ entry. ((read_nsec3 entry).parameters ≡ parameters) × ((read_nsec3 entry).flags ≢ 0)) entries found
    (λ entry said. (said.0, flagged entry.is_opt_out said.1)) (λ entry said. (said.0, unflagged entry.is_opt_out said.1)) first)
