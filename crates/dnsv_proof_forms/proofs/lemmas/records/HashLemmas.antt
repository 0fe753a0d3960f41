-- What NSEC3 records say of a hash they say of the names that have it.
use Rattle.std.proofs.Common.{◌≡◌, ◌≢◌, ℕ, Bool, true, false, List, Option, refl, sym, subst, ◌∙◌, arith}
use Rattle.dnsv_names.specs.Name.{Labels}
use Rattle.dnsv_names.specs.Order.{label_cmp}
use Rattle.dnsv_names.specs.Circle.{Gap}
use Rattle.dnsv_zones.specs.chains.Nsec3Chain.{NameHash}
use Rattle.dnsv_zones.specs.chains.NsecChain.{IsInBitmap}
use Rattle.dnsv_zones.specs.forms.Nsec3.{Matches, Covers}
use Rattle.dnsv_proof_forms.specs.declared.records.entry.Nsec3Entry.{Nsec3Entry}
use Rattle.dnsv_proof_forms.specs.records.HashWords.{HasHash, CoversHash}
use Rattle.dnsv_proof_forms.specs.records.Record.{read_nsec3, flags_of}
use Rattle.dnsv_proof_forms.specs.words.SaidAt.{IsSaidAt, IsFirstPlace}
use Rattle.dnsv_proof_forms.proofs.lemmas.words.FirstLemmas.{first_as}

pub cover_first : (hash : NameHash) (name : Labels) (octets : List ℕ) (flags : ℕ) (entries : List Nsec3Entry) (found : Option ℕ)
    → octets ≡ hash.of name
    → IsFirstPlace (IsSaidAt (λ entry. CoversHash hash.parameters octets (read_nsec3 entry) × ((read_nsec3 entry).flags ≡ flags)) entries) found
    → IsFirstPlace (IsSaidAt (λ entry. Covers hash (read_nsec3 entry) name × ((read_nsec3 entry).flags ≡ flags)) entries) found
cover_first hash name octets flags entries found is =
    first_as (λ entry. CoversHash hash.parameters octets (read_nsec3 entry) × ((read_nsec3 entry).flags ≡ flags))
    (λ entry. Covers hash (read_nsec3 entry) name × ((read_nsec3 entry).flags ≡ flags)) entries found
    (λ entry said. (record { same_parameters = said.0.0; gap = subst (Gap label_cmp (read_nsec3 entry).hash (read_nsec3 entry).next) is said.0.1 }, said.1))
    (λ entry said. ((said.0.same_parameters, subst (Gap label_cmp (read_nsec3 entry).hash (read_nsec3 entry).next) (sym is) said.0.gap), said.1))

pub match_first : (hash : NameHash) (name : Labels) (octets : List ℕ) (Says : (ℕ → Type 0) → Type 0) (entries : List Nsec3Entry) (found : Option ℕ)
    → octets ≡ hash.of name
    → IsFirstPlace (IsSaidAt (λ entry. HasHash hash.parameters octets (read_nsec3 entry) × Says (IsInBitmap (read_nsec3 entry).types)) entries) found
    → IsFirstPlace (IsSaidAt (λ entry. Matches hash (read_nsec3 entry) name × Says (IsInBitmap (read_nsec3 entry).types)) entries) found
match_first hash name octets Says entries found is =
    first_as (λ entry. HasHash hash.parameters octets (read_nsec3 entry) × Says (IsInBitmap (read_nsec3 entry).types))
    (λ entry. Matches hash (read_nsec3 entry) name × Says (IsInBitmap (read_nsec3 entry).types)) entries found
    (λ entry said. (record { same_parameters = said.0.0; same_hash = said.0.1 ∙ is }, said.1))
    (λ entry said. ((said.0.same_parameters, said.0.same_hash ∙ sym is), said.1))

-- a usable record has the Opt-Out flag where it has any
pub has_flag : (b : Bool) → flags_of b ≡ 1 → flags_of b ≢ 0
has_flag true is none = omega arith
has_flag false is none = omega arith

pub flag_is : (b : Bool) → flags_of b ≢ 0 → flags_of b ≡ 1
flag_is true some = refl
flag_is false some = absurd (some refl)

pub opted_out_first : (hash : NameHash) (name : Labels) (entries : List Nsec3Entry) (found : Option ℕ)
    → IsFirstPlace (IsSaidAt (λ entry. Covers hash (read_nsec3 entry) name × ((read_nsec3 entry).flags ≡ 1)) entries) found
    → IsFirstPlace (IsSaidAt (λ entry. Covers hash (read_nsec3 entry) name × ((read_nsec3 entry).flags ≢ 0)) entries) found
opted_out_first hash name entries found =
    first_as (λ entry. Covers hash (read_nsec3 entry) name × ((read_nsec3 entry).flags ≡ 1))
    (λ entry. Covers hash (read_nsec3 entry) name × ((read_nsec3 entry).flags ≢ 0)) entries found
    (λ entry said. (said.0, has_flag entry.is_opt_out said.1)) (λ entry said. (said.0, flag_is entry.is_opt_out said.1))
