-- DS RRsets that delegate to a key, found a digest type at a time.
use Rattle.std.proofs.Common.{◌≡◌, ◌<◌, ◌≤◌, ◌↔◌, ◌==◌, ℕ, Bor, List, Some, None, length, get_or, map, refl, sym, ap, ◌∙◌, subst, arith, ◌⊎◌, inl, inr}
use Rattle.std.proofs.lemmas.List.{get_or-map, length-map}
use Rattle.std.specs.List.{AllZip}
use Rattle.std.specs.Prelude.{IsTrue}
use Rattle.dnsv_names.specs.Name.{SameName}
use Rattle.dnsv_records.specs.Algorithm.{is_supported}
use Rattle.dnsv_records.specs.Ds.{IsDs}
use Rattle.dnsv_records.specs.declared.ds.Ds.{Ds}
use Rattle.dnsv_digest.specs.Digest.{ds_digest_of}
use Rattle.dnsv_digest.specs.DigestAlgorithm.{digest_algorithm_of}
use Rattle.dnsv_canonical.specs.Rdata.{rdata_of_type}
use Rattle.dnsv_canonical.specs.Rrsets.{ReceivedRrset}
use Rattle.dnsv_verifier.specs.Admissible.{DnskeyRecord}
use Rattle.dnsv_chain.specs.Chain.{IsDelegatedBySome}
use Rattle.dnsv_anchors.specs.Ds.DsReading.{IsLeading, Leads}
use Rattle.dnsv_chain.specs.Ds.DsReading.{DelegatesByDigest, DelegatesByType, HasNamed, HasNamedDigest, HasSome, NamesByType}
use Rattle.dnsv_chain.proofs.ChainLemmas.{its_rdata, same_ds}
use Rattle.dnsv_chain.proofs.MatchingLemmas.{by_digest, match_is_named, no_digest, usable_matches}
use Rattle.dnsv_anchors.proofs.UsableLemmas.{compared, number_by, number_of, of_three, one_number}

-- ---- some of the RRsets that lie elsewhere

abbrev now : Bor ReceivedRrset → ReceivedRrset
now r = r.now

pub some_found : (Is : ReceivedRrset → Type 0) (refs : List (Bor ReceivedRrset)) (i : ℕ) (r : Bor ReceivedRrset) → i < length refs
    → r ≡ get_or refs i r → Is r.now → HasSome Is (map (λ ds. ds.now) refs)
some_found Is refs i r within at is =
    let size = length-map refs now in
    record { rrset = r.now; among = (i, omega (arith, size, within), get_or-map now refs i r r.now within ∙ ap now (sym at)); is = is }

pub none_found : (Is : ReceivedRrset → Type 0) (refs : List (Bor ReceivedRrset)) (n : ℕ) → length refs ≤ n
    → ((k : ℕ) (d : Bor ReceivedRrset) → k < n → Is (get_or refs k d).now → ⊥)
    → HasSome Is (map (λ ds. ds.now) refs) → ⊥
none_found Is refs n past none some =
    let k : ℕ = some.among.0 in
    let size = length-map refs now in
    let below : k < length (map now refs) = some.among.1 in
    let within : k < length refs = omega (arith, below, size) in
    let d : Bor ReceivedRrset = record { ref_ptr = (0, 0); now = some.rrset } in
    let there : some.rrset ≡ (get_or refs k d).now = sym some.among.2 ∙ get_or-map now refs k d some.rrset within in
    none k d (omega (arith, within, past)) (subst Is there some.is)

-- ---- one RRset

-- the records of a DS RRset are those that it is read as
module _ (ds : ReceivedRrset) (records : List Ds) (is : ds.rtype ≡ 43) (each : AllZip IsDs (rdata_of_type 43 ds) records) where
  read : AllZip IsDs ds.rdata records
  read = subst (λ (rdata : List (List ℕ)). AllZip IsDs rdata records) (its_rdata 43 ds is) each

  pub ds_names : (number : ℕ) (key : DnskeyRecord) → HasNamed records number key ↔ NamesByType ds number key
  ds_names number key = (
    λ named. record { rtype = is; records = records; read = read; named = named },
    λ names. subst (λ (list : List Ds). HasNamed list number key) (same_ds ds.rdata names.records records names.read read) names.named,
  )

  pub ds_has_digest : (number : ℕ) (key : DnskeyRecord) (digest : List ℕ) → SameName ds.owner key.owner → HasNamedDigest records number key digest
      → Leads records number → DelegatesByDigest ds number key digest
  ds_has_digest number key digest owner named leads = record { rtype = is; owner = owner; records = records; read = read; leads = leads; named = named }

  pub digest_is_named : (number : ℕ) (key : DnskeyRecord) (digest : List ℕ) → DelegatesByDigest ds number key digest → HasNamedDigest records number key digest
  digest_is_named number key digest by = subst (λ (list : List Ds). HasNamedDigest list number key digest) (same_ds ds.rdata by.records records by.read read) by.named

  pub digest_leads : (number : ℕ) (key : DnskeyRecord) (digest : List ℕ) → DelegatesByDigest ds number key digest → Leads records number
  digest_leads number key digest by = subst (λ (list : List Ds). Leads list number) (same_ds ds.rdata by.records records by.read read) by.leads

-- ---- the digest type that leads

pub one_leads : (records : List Ds) (a b : ℕ) → Leads records a → Leads records b → a ≡ b
one_leads records a b first second =
    elim (compared first.supported.0 second.supported.0) [
      | inl stronger ↦
          absurd (second.first first.ds first.among (first.supported.0, second.supported.0, ap digest_algorithm_of first.is ∙ first.supported.1, second.supported.1, stronger))
      | inr (inl weaker) ↦
          absurd (first.first second.ds second.among (second.supported.0, first.supported.0, ap digest_algorithm_of second.is ∙ second.supported.1, first.supported.1, weaker))
      | inr (inr same) ↦ one_number a b second.supported.0 (first.supported.1 ∙ ap Some same) second.supported.1
    ]

pub leads_as : (records : List Ds) (a b : ℕ) → Leads records a → a ≡ b → Leads records b
leads_as records a b leads same = subst (λ (number : ℕ). Leads records number) same leads

pub none_lead : (records : List Ds) (number : ℕ) → IsLeading records None → Leads records number → ⊥
none_lead records number none leads = none leads.ds leads.among (leads.supported.0, ap digest_algorithm_of leads.is ∙ leads.supported.1)

-- ---- by a digest type

-- what is told of one of the RRsets tells the same one of something else
some_too : (Is Also : ReceivedRrset → Type 0) (rrsets : List ReceivedRrset) → ((rrset : ReceivedRrset) → Is rrset → Also rrset)
    → HasSome Is rrsets → HasSome Also rrsets
some_too Is Also rrsets more some = record { rrset = some.rrset; among = some.among; is = more some.rrset some.is }

pub type_names : (delegations : List ReceivedRrset) (number : ℕ) (key : DnskeyRecord)
    → HasSome (λ ds. DelegatesByType ds number key) delegations → HasSome (λ ds. NamesByType ds number key) delegations
type_names delegations number key =
    some_too (λ ds. DelegatesByType ds number key) (λ ds. NamesByType ds number key) delegations (λ ds by. record {
      rtype = by.rtype;
      records = by.records;
      read = by.read;
      named = match_is_named ds.owner by.records number key by.matching;
    })

pub no_type : (delegations : List ReceivedRrset) (number : ℕ) (key : DnskeyRecord) → ds_digest_of number key.owner key.rdata ≡ None
    → HasSome (λ ds. DelegatesByType ds number key) delegations → ⊥
no_type delegations number key none some = no_digest some.rrset.owner some.is.records number key none some.is.matching

pub type_by_digest : (delegations : List ReceivedRrset) (number : ℕ) (key : DnskeyRecord) (digest : List ℕ)
    → ds_digest_of number key.owner key.rdata ≡ Some digest
    → HasSome (λ ds. DelegatesByDigest ds number key digest) delegations ↔ HasSome (λ ds. DelegatesByType ds number key) delegations
type_by_digest delegations number key digest is = (
  some_too (λ ds. DelegatesByDigest ds number key digest) (λ ds. DelegatesByType ds number key) delegations (λ ds by. record {
    rtype = by.rtype;
    records = by.records;
    read = by.read;
    leads = by.leads;
    matching = (by_digest ds.owner by.records number key digest is by.owner).0 by.named;
  }),
  some_too (λ ds. DelegatesByType ds number key) (λ ds. DelegatesByDigest ds number key digest) delegations (λ ds by. record {
    rtype = by.rtype;
    owner = by.matching.matching.same_owner;
    records = by.records;
    read = by.read;
    leads = by.leads;
    named = (by_digest ds.owner by.records number key digest is by.matching.matching.same_owner).1 by.matching;
  }),
)

-- ---- by the three

pub type_delegates : (delegations : List ReceivedRrset) (number : ℕ) (key : DnskeyRecord) → IsTrue (is_supported key.dnskey.algorithm.0)
    → HasSome (λ ds. DelegatesByType ds number key) delegations → IsDelegatedBySome delegations key
type_delegates delegations number key supported some = record {
  ds = some.rrset;
  among = some.among;
  delegates = record {
    rtype = some.is.rtype;
    records = some.is.records;
    read = some.is.read;
    usable = (usable_matches some.rrset.owner some.is.records key number some.is.leads supported).0 some.is.matching;
  };
}

pub delegated_supported : (delegations : List ReceivedRrset) (key : DnskeyRecord) → IsDelegatedBySome delegations key
    → IsTrue (is_supported key.dnskey.algorithm.0)
delegated_supported delegations key some =
    let has = some.delegates.usable in
    subst (λ (algorithm : ℕ). IsTrue (is_supported algorithm)) has.matching.algorithm has.usable.algorithm

by_its_type : (delegations : List ReceivedRrset) (key : DnskeyRecord) (some : IsDelegatedBySome delegations key)
    → HasSome (λ ds. DelegatesByType ds some.delegates.usable.ds.digest_type.0 key) delegations
by_its_type delegations key some =
    let has = some.delegates.usable in
    record {
      rrset = some.ds;
      among = some.among;
      is = record {
        rtype = some.delegates.rtype;
        records = some.delegates.records;
        read = some.delegates.read;
        leads = record {
          supported = has.usable.digest_type;
          ds = has.ds;
          among = has.among;
          is = refl;
          first = λ other among before. has.usable.counts record { other = other; among = among; before = before };
        };
        matching = record { ds = has.ds; among = has.among; is = refl; matching = has.matching };
      };
    }

pub delegated_by_one : (delegations : List ReceivedRrset) (key : DnskeyRecord) → IsDelegatedBySome delegations key
    → HasSome (λ ds. DelegatesByType ds 1 key) delegations
    ⊎ (HasSome (λ ds. DelegatesByType ds 2 key) delegations ⊎ HasSome (λ ds. DelegatesByType ds 4 key) delegations)
delegated_by_one delegations key some =
    let By : ℕ → Type 0 = λ number. HasSome (λ ds. DelegatesByType ds number key) delegations in
    let number : ℕ = some.delegates.usable.ds.digest_type.0 in
    let type = some.delegates.usable.usable.digest_type in
    let same : number ≡ number_of type.0 = number_by number (number == 1) (number == 2) (number == 4) type.0 refl refl refl type.1 in
    of_three type.0 By (subst By same (by_its_type delegations key some))
