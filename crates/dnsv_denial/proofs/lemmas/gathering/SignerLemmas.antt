-- The zones that secured RRsets of NSEC and NSEC3 records, and the numbers of these.
use Rattle.std.proofs.Common.{◌≡◌, ℕ, ◌+◌, ◌-◌, ◌<◌, ◌≤◌, Bool, true, List, [], ◌∷◌, ◌++◌, if◌then◌else◌, length, get_or, refl, sym, ap, ◌∙◌, subst, inl, inr, ⊎_elim, arith}
use Rattle.std.specs.Prelude.{⊤, Contains, Some, slice_get}
use Rattle.std.specs.List.{AllZip}
use Rattle.std.proofs.lemmas.Bool.{cases_lt}
use Rattle.std.proofs.lemmas.List.Elements.{Contains-append_right}
use Rattle.std.proofs.lemmas.Option.{slice_get-get_or, slice_get_read, slice_get_within}
use Rattle.dnsv_names.specs.Name.{Labels, SameName, same_name}
use Rattle.dnsv_names.specs.Order.OrderLaws.{same_name_Decides}
use Rattle.dnsv_records.specs.Rrsig.{IsRrsig}
use Rattle.dnsv_records.specs.declared.rrsig.Rrsig.{Rrsig}
use Rattle.dnsv_canonical.specs.Rrsets.{IsNumbered, ReceivedRrset}
use Rattle.dnsv_denial.specs.gathering.Evidence.{HasZoneSignature, IsNsecAt, IsNsec3At, IsSecuredBy}
use Rattle.dnsv_denial.specs.gathering.Gathered.{AreListed, AreNsecsOf, AreNsec3sOf, IsDenialType}
use Rattle.dnsv_proof_forms.specs.records.Record.{read_entry, read_nsec3}
use Rattle.dnsv_denial.proofs.lemmas.gathering.EvidenceLemmas.{all_none}
use Rattle.dnsv_canonical.proofs.NumberLemmas.{one_numbered}
use Rattle.dnsv_denial.proofs.lemmas.gathering.GatherLemmas.{its_zone_signature, with_number}

module _ (Secured : ℕ → ℕ → Type 0) (rrsets : List ReceivedRrset) where
  -- of so many RRsets those that a zone secured are listed for it
  abbrev pub AreListedTo : ℕ → (Labels → List ℕ) → Type 0
  AreListedTo place listed =
      (zone : Labels) (k : ℕ) (by : IsSecuredBy Secured rrsets zone k) → IsDenialType by.rrset.rtype → k ≤ place
      → Contains (listed zone) k

  pub listed_begin : (listed : Labels → List ℕ) → AreListedTo 0 listed
  listed_begin listed zone k by denies early = let from_one = by.is_rrset.0 in absurd (omega (arith, from_one, early))

  -- of the next RRset too
  one_more : (place : ℕ) (rrset : ReceivedRrset) (listed next : Labels → List ℕ) → IsNumbered rrsets (place + 1) rrset
      → ((zone : Labels) (k : ℕ) → Contains (listed zone) k → Contains (next zone) k)
      → ((zone : Labels) → IsDenialType rrset.rtype → HasZoneSignature (Secured (place + 1)) rrset zone → Contains (next zone) (place + 1))
      → AreListedTo place listed → AreListedTo (place + 1) next
  one_more place rrset listed next numbered kept last so_far zone k by denies early =
      ⊎_elim (λ (before : k < place + 1). kept zone k (so_far zone k by denies (omega (arith, before))))
      (λ (from : place + 1 ≤ k).
      let is : k ≡ place + 1 = omega (arith, from, early) in
      let one : by.rrset ≡ rrset = one_numbered rrsets (place + 1) by.rrset rrset (subst (λ n. IsNumbered rrsets n by.rrset) is by.is_rrset) numbered in
      subst (Contains (next zone)) (sym is) (last zone (subst (λ (r : ReceivedRrset). IsDenialType r.rtype) one denies)
      (subst (λ (r : ReceivedRrset). HasZoneSignature (Secured (place + 1)) r zone) one (subst (λ n. HasZoneSignature (Secured n) by.rrset zone) is by.signed))))
      (cases_lt k (place + 1))

  pub listed_pass : (place : ℕ) (rrset : ReceivedRrset) (listed : Labels → List ℕ) → IsNumbered rrsets (place + 1) rrset
      → ¬ IsDenialType rrset.rtype → AreListedTo place listed → AreListedTo (place + 1) listed
  listed_pass place rrset listed numbered other so_far =
      one_more place rrset listed listed numbered (λ zone k there. there) (λ zone denies signed. absurd (other denies)) so_far

  pub listed_more : (place : ℕ) (rrset : ReceivedRrset) (listed next : Labels → List ℕ) → IsNumbered rrsets (place + 1) rrset
      → ((zone : Labels) (k : ℕ) → Contains (listed zone) k → Contains (next zone) k)
      → ((zone : Labels) → HasZoneSignature (Secured (place + 1)) rrset zone → Contains (next zone) (place + 1))
      → AreListedTo place listed → AreListedTo (place + 1) next
  listed_more place rrset listed next numbered kept added so_far =
      one_more place rrset listed next numbered kept (λ zone denies signed. added zone signed) so_far

  pub listed_end : (place : ℕ) (listed : Labels → List ℕ) → length rrsets ≤ place → AreListedTo place listed → AreListed Secured rrsets listed
  listed_end place listed past so_far zone k by denies =
      let within = slice_get_within rrsets (k - 1) by.rrset by.is_rrset.1 in
      let from_one = by.is_rrset.0 in
      so_far zone k by denies (omega (arith, within, from_one, past))

  -- a zone that secured none has no records
  pub no_nsecs : (zone : Labels) → ((k : ℕ) (by : IsSecuredBy Secured rrsets zone k) → ¬ IsDenialType by.rrset.rtype) → AreNsecsOf Secured rrsets zone []
  no_nsecs zone none = all_none (λ entry. entry.number) read_entry (IsNsecAt Secured rrsets zone) (λ n. ⊤)
      (λ n x within is.
      let one : is.is.rrset ≡ is.secured.rrset = one_numbered rrsets n.rrset is.is.rrset is.secured.rrset is.is.at.is_rrset is.secured.is_rrset in
      none n.rrset is.secured (inl (ap (λ (r : ReceivedRrset). r.rtype) (sym one) ∙ is.is.rtype)))

  pub no_nsec3s : (zone : Labels) → ((k : ℕ) (by : IsSecuredBy Secured rrsets zone k) → ¬ IsDenialType by.rrset.rtype) → AreNsec3sOf Secured rrsets zone []
  no_nsec3s zone none = all_none (λ entry. entry.number) read_nsec3 (IsNsec3At Secured rrsets zone) (λ n. ⊤)
      (λ n x within is.
      let one : is.is.rrset ≡ is.secured.rrset = one_numbered rrsets n.rrset is.is.rrset is.secured.rrset is.is.at.is_rrset is.secured.is_rrset in
      none n.rrset is.secured (inr (ap (λ (r : ReceivedRrset). r.rtype) (sym one) ∙ is.is.rtype)))

-- ---- the signatures of an RRset

-- a number that is added for the signer of a signature is there for its zone
pub added_for : (rrset : ReceivedRrset) (zone : Labels) (signature : ℕ) (signatures : List Rrsig) (rrsig : Rrsig)
    → AllZip IsRrsig rrset.signatures signatures → slice_get signatures (signature - 1) ≡ Some rrsig
    → HasZoneSignature (λ s. s ≡ signature) rrset zone → (before after : List ℕ) (number : ℕ)
    → after ≡ before ++ (if same_name zone rrsig.signer then number ∷ [] else []) → Contains after number
added_for rrset zone signature signatures rrsig all at has before after number adds =
    let same : SameName rrsig.signer zone = (its_zone_signature rrset zone signature signatures rrsig all at has).0 in
    let holds : same_name zone rrsig.signer ≡ true = (same_name_Decides zone rrsig.signer).1 (sym same) in
    let grown : after ≡ before ++ number ∷ [] = adds ∙ ap (λ (b : Bool). before ++ (if b then number ∷ [] else [])) holds in
    subst (λ xs. Contains xs number) (sym grown) (Contains-append_right before (number ∷ []) number (0, omega arith, refl))

module _ (rrset : ReceivedRrset) (secured : List ℕ) (number : ℕ) where
  -- those who made so many of the signatures have the RRset's number, and what was there stays
  pub record HasSignersTo (before : Labels → List ℕ) (count : ℕ) (listed : Labels → List ℕ) : Type 0 where
    pub kept : (zone : Labels) (k : ℕ) → Contains (before zone) k → Contains (listed zone) k
    pub added : (i s : ℕ) (zone : Labels) → i < count → slice_get secured i ≡ Some s → HasZoneSignature (λ t. t ≡ s) rrset zone → Contains (listed zone) number

  pub no_signers : (before : Labels → List ℕ) → HasSignersTo before 0 before
  no_signers before = record { kept = λ zone k there. there; added = λ i s zone early at has. absurd (omega (arith, early)) }

  pub signer_more : (before listed next : Labels → List ℕ) (count s : ℕ) → s ≡ get_or secured count 0 → count < length secured
      → ((zone : Labels) (k : ℕ) → Contains (listed zone) k → Contains (next zone) k)
      → ((zone : Labels) → HasZoneSignature (λ t. t ≡ s) rrset zone → Contains (next zone) number)
      → HasSignersTo before count listed → HasSignersTo before (count + 1) next
  signer_more before listed next count s is within kept last so_far = record {
    kept = λ zone k there. kept zone k (so_far.kept zone k there);
    added = λ i r zone early at has. ⊎_elim
        (λ (earlier : i < count). kept zone number (so_far.added i r zone earlier at has))
        (λ (here : count ≤ i).
        let same : i ≡ count = omega (arith, here, early) in
        let there : slice_get secured count ≡ Some r = subst (λ k. slice_get secured k ≡ Some r) same at in
        let found : slice_get secured count ≡ Some (get_or secured count 0) = slice_get-get_or secured count 0 within in
        let one : r ≡ s = cc in
        last zone (subst (λ t. HasZoneSignature (λ u. u ≡ t) rrset zone) one has))
        (cases_lt i count);
  }

  pub all_signers : (before listed : Labels → List ℕ) (count : ℕ) → length secured ≤ count → HasSignersTo before count listed
      → (zone : Labels) → HasZoneSignature (λ s. Contains secured s) rrset zone → Contains (listed zone) number
  all_signers before listed count past so_far zone has =
      let there = has.secured in
      let at : slice_get secured there.0 ≡ Some has.signature = slice_get_read secured (length secured) there.0 has.signature refl there.1 (sym there.2) in
      so_far.added there.0 has.signature zone (omega (arith, there.1, past)) at (with_number rrset zone has)
