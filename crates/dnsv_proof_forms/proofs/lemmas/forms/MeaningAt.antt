-- What the records of a proof mean, by their places, for each zone that has them.
use Rattle.std.proofs.Common.{◌≡◌, ℕ, List, [], ◌∷◌, ◌++◌, refl, sym, ap, ◌∙◌, subst, inl, inr, ⊎_elim}
use Rattle.std.specs.Prelude.{Option, Some, None, map, slice_get}
use Rattle.std.specs.Ordering.{nat_cmp}
use Rattle.dnsv_names.specs.Name.{Labels, SameName, rightmost}
use Rattle.dnsv_names.specs.Tree.{wildcard_of}
use Rattle.dnsv_zones.specs.Any.{Any}
use Rattle.dnsv_zones.specs.chains.NsecChain.{IsInBitmap}
use Rattle.dnsv_zones.specs.forms.Forms.{Words}
use Rattle.dnsv_zones.specs.forms.Nsec.{IsAbsentBy, IsEmptyNonTerminalBy, IsNodeBy, nsec_words}
use Rattle.dnsv_zones.specs.forms.Nsec3.{Covers, Matches, nsec3_words}
use Rattle.dnsv_zones.specs.forms.Parts.{AreNoNameParts, AreNoDataParts, IsNoCloserPart}
use Rattle.dnsv_zones.specs.zones.Lookup.{IsLookup}
use Rattle.dnsv_zones.specs.zones.Lookup.Answer.{NoName, NoData, Held}
use Rattle.dnsv_zones.specs.zones.Types.{IsClosed}
use Rattle.dnsv_zones.specs.zones.Zone.{Zone, Holds}
use Rattle.dnsv_zones.proofs.lemmas.meaning.MeaningLemmas.{no_name, any_no_data, held_at_wildcard}
use Rattle.dnsv_zones.proofs.lemmas.meaning.NsecTruth.{nsec_true, absent}
use Rattle.dnsv_zones.proofs.lemmas.meaning.Nsec3Truth.{nsec3_true, absent as absent3}
use Rattle.dnsv_canonical.proofs.CanonicalLemmas.{IsMember}
use Rattle.dnsv_proof_forms.specs.declared.records.chain_records.ChainRecords.{ChainRecords}
use Rattle.dnsv_proof_forms.specs.declared.records.chain_records.ChainRecords.TheVariants.{Nsec, Nsec3}
use Rattle.dnsv_proof_forms.specs.records.AskedHash.{hash_of}
use Rattle.dnsv_proof_forms.specs.records.Record.{read_entry, read_nsec3}
use Rattle.dnsv_proof_forms.specs.records.RecordsAt.{listed, at_places, HasRecordsAt, HasNoCollisionBy}
use Rattle.dnsv_proof_forms.specs.words.ChainSaid.{chain_said}
use Rattle.dnsv_proof_forms.specs.words.SaidAt.{IsSaidAt}
use Rattle.dnsv_proof_forms.proofs.lemmas.forms.PartsForm.{SayNoMore, no_name_by, no_data_by, no_closer_by}

any_listed : {X R : Type 0} (read : X → R) (P : R → Type 0) (some : Option X) (rest : List X) → Any P (map read rest)
    → Any P (map read (listed some ++ rest))
any_listed read P None rest any = any
any_listed read P (Some x) rest any = inr any

-- what a member at one of the places says is said by the members at the places
any_at : {X R : Type 0} (read : X → R) (P : R → Type 0) (members : List X) (places : List ℕ) (place : ℕ)
    → IsMember place places → IsSaidAt (λ x. P (read x)) members place → Any P (map read (at_places members places))
any_at read P members [] place among said = absurd among
any_at read P members (first ∷ places) place among said =
    ⊎_elim
    (λ (here : place ≡ first).
    subst (λ some. Any P (map read (listed some ++ at_places members places)))
    (sym (ap (slice_get members) (sym here) ∙ said.there)) (inl said.says))
    (λ (rest : IsMember place places).
    any_listed read P (slice_get members first) (at_places members places) (any_at read P members places place rest said))
    among

-- what the records at the places say
abbrev words_at : Labels → ChainRecords → List ℕ → Words
words_at apex (Nsec entries) places = nsec_words apex (map read_entry (at_places entries.now places))
words_at apex (Nsec3 hashed) places = nsec3_words (hash_of hashed.now) (map read_nsec3 (at_places hashed.now.entries.now places))

-- what is said at the places is said by the records there
say_at : (apex : Labels) (records : ChainRecords) (places : List ℕ) → SayNoMore (chain_said apex records) places (words_at apex records places)
say_at apex (Nsec entries) places = record {
  needs_none = λ x same. inl same;
  encloser = λ x place among said. inr (any_at read_entry (λ nsec. IsNodeBy nsec x) entries.now places place among said);
  absent = λ x place among said. any_at read_entry (λ nsec. IsAbsentBy nsec x) entries.now places place among said;
  empty_non_terminal = λ x place among said. any_at read_entry (λ nsec. IsEmptyNonTerminalBy nsec x) entries.now places place among said;
  types_at = λ x Says place among said. any_at read_entry (λ nsec. SameName nsec.owner x × Says (IsInBitmap nsec.types)) entries.now places place among said;
}
say_at apex (Nsec3 hashed) places = record {
  needs_none = λ x none. absurd none;
  encloser = λ x place among said.
      any_at read_nsec3 (λ nsec3. Matches (hash_of hashed.now) nsec3 x × ¬ IsClosed (IsInBitmap nsec3.types)) hashed.now.entries.now places place among said;
  absent = λ x place among said.
      any_at read_nsec3 (λ nsec3. Covers (hash_of hashed.now) nsec3 x × (nsec3.flags ≡ 0)) hashed.now.entries.now places place among said;
  empty_non_terminal = λ x place among none. none;
  types_at = λ x Says place among said.
      any_at read_nsec3 (λ nsec3. Matches (hash_of hashed.now) nsec3 x × Says (IsInBitmap nsec3.types)) hashed.now.entries.now places place among said;
}

pub no_name_at : (apex name : Labels) (records : ChainRecords) (parts : List ℕ) → AreNoNameParts nat_cmp (chain_said apex records) apex name parts
    → (zone : Zone) (t : ℕ) → HasRecordsAt zone apex records parts → HasNoCollisionBy zone name records → IsLookup zone name t NoName
no_name_at apex name (Nsec entries) parts are zone t has apart =
    let few = map read_entry (at_places entries.now parts) in
    no_name zone (nsec_words apex few) apex name has.well_formed has.same_apex
    (nsec_true zone apex name few has.well_formed has.same_apex has.in_chain) t
    (no_name_by nat_cmp (chain_said apex (Nsec entries)) parts (nsec_words apex few) (say_at apex (Nsec entries) parts) apex name parts are (λ i there. there))
no_name_at apex name (Nsec3 hashed) parts are zone t has apart =
    let few = map read_nsec3 (at_places hashed.now.entries.now parts) in
    no_name zone (nsec3_words (hash_of hashed.now) few) apex name has.well_formed has.same_apex
    (nsec3_true zone (hash_of hashed.now) has.names few name has.well_formed has.chain_names apart has.in_chain) t
    (no_name_by nat_cmp (chain_said apex (Nsec3 hashed)) parts (nsec3_words (hash_of hashed.now) few) (say_at apex (Nsec3 hashed) parts) apex name parts are (λ i there. there))

pub no_data_at : (apex name : Labels) (t : ℕ) (records : ChainRecords) (parts : List ℕ)
    → AreNoDataParts nat_cmp (chain_said apex records) apex name t parts
    → (zone : Zone) → HasRecordsAt zone apex records parts → HasNoCollisionBy zone name records → (source : Labels) × IsLookup zone name t (NoData source)
no_data_at apex name t (Nsec entries) parts are zone has apart =
    let few = map read_entry (at_places entries.now parts) in
    any_no_data zone (nsec_words apex few) apex name has.well_formed has.same_apex
    (nsec_true zone apex name few has.well_formed has.same_apex has.in_chain) t
    (no_data_by nat_cmp (chain_said apex (Nsec entries)) parts (nsec_words apex few) (say_at apex (Nsec entries) parts) apex name t parts are (λ i there. there))
no_data_at apex name t (Nsec3 hashed) parts are zone has apart =
    let few = map read_nsec3 (at_places hashed.now.entries.now parts) in
    any_no_data zone (nsec3_words (hash_of hashed.now) few) apex name has.well_formed has.same_apex
    (nsec3_true zone (hash_of hashed.now) has.names few name has.well_formed has.chain_names apart has.in_chain) t
    (no_data_by nat_cmp (chain_said apex (Nsec3 hashed)) parts (nsec3_words (hash_of hashed.now) few) (say_at apex (Nsec3 hashed) parts) apex name t parts are (λ i there. there))

pub no_closer_at : (apex name : Labels) (labels : ℕ) (records : ChainRecords) (part : ℕ)
    → IsNoCloserPart nat_cmp (chain_said apex records) apex name labels part
    → (zone : Zone) (t : ℕ) → HasRecordsAt zone apex records (part ∷ []) → Holds zone (wildcard_of (rightmost name labels)) t
    → IsLookup zone name t (Held (wildcard_of (rightmost name labels)))
no_closer_at apex name labels (Nsec entries) part is zone t has =
    let few = map read_entry (at_places entries.now (part ∷ [])) in
    held_at_wildcard zone (nsec_words apex few) apex name labels t has.well_formed has.same_apex
    (absent zone apex name few has.well_formed has.same_apex has.in_chain)
    (no_closer_by nat_cmp (chain_said apex (Nsec entries)) (part ∷ []) (nsec_words apex few) (say_at apex (Nsec entries) (part ∷ [])) apex name labels part is (inl refl))
no_closer_at apex name labels (Nsec3 hashed) part is zone t has =
    let few = map read_nsec3 (at_places hashed.now.entries.now (part ∷ [])) in
    held_at_wildcard zone (nsec3_words (hash_of hashed.now) few) apex name labels t has.well_formed has.same_apex
    (absent3 zone (hash_of hashed.now) has.names few has.in_chain)
    (no_closer_by nat_cmp (chain_said apex (Nsec3 hashed)) (part ∷ []) (nsec3_words (hash_of hashed.now) few) (say_at apex (Nsec3 hashed) (part ∷ [])) apex name labels part is (inl refl))
