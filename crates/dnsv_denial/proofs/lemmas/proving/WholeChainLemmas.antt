-- What the records of a whole chain say is said by the evidence that has them, and the other way round where it has no
-- others.
use Rattle.std.proofs.Common.{◌≡◌, ◌≢◌, ◌⊎◌, ℕ, ◌+◌, List, [], ◌∷◌, inl, inr, ⊎_elim}
use Rattle.std.proofs.lemmas.Bool.Decides.{Decides-eqb}
use Rattle.std.specs.Prelude.{nat_eq}
use Rattle.std.specs.List.{AllByRecursion, AllZip}
use Rattle.dnsv_names.specs.Name.{Labels, SameName, rightmost}
use Rattle.dnsv_names.specs.Tree.{wildcard_of}
use Rattle.dnsv_names.specs.Tree.TreeLaws.{decided}
use Rattle.dnsv_zones.specs.Any.{Any}
use Rattle.dnsv_zones.specs.chains.HashedNames.{sha1_hash}
use Rattle.dnsv_zones.specs.chains.Nsec3Chain.{Nsec3Record, Parameters}
use Rattle.dnsv_zones.specs.chains.NsecChain.{NsecRecord, IsInBitmap}
use Rattle.dnsv_zones.specs.forms.Forms.{Words, NoNameForm, NoDataForms}
use Rattle.dnsv_zones.specs.forms.Nsec.{IsAbsentBy, IsEmptyNonTerminalBy, IsNodeBy, nsec_words}
use Rattle.dnsv_zones.specs.forms.Nsec3.{Matches, Covers, nsec3_words, IsCovered, IsOptedOut, OptOutForm}
use Rattle.dnsv_zones.specs.forms.Parts.{OptsOut}
use Rattle.dnsv_zones.specs.forms.RecordWords.{RecordWords, words}
use Rattle.dnsv_zones.specs.zones.Types.{IsClosed}
use Rattle.dnsv_zones.proofs.lemmas.chains.MoreLemmas.{SayMore}
use Rattle.dnsv_canonical.specs.Rrsets.{ReceivedRrset}
use Rattle.dnsv_canonical.proofs.CanonicalLemmas.{IsMember}
use Rattle.dnsv_denial.specs.gathering.Evidence.{IsNsecAt, IsNsec3At, IsNsecOf, IsNsec3Of}
use Rattle.dnsv_denial.specs.gathering.EvidenceWords.{nsec_said, nsec3_said}
use Rattle.dnsv_canonical.specs.declared.number.RecordNumber.{RecordNumber}
use Rattle.dnsv_proof_forms.proofs.lemmas.forms.PartsForm.{SayNoMore}
use Rattle.dnsv_denial.proofs.meaning.ProofMeaningLemmas.{nsec_say, nsec3_say}

-- a member that is such stands beside its number
pub with_number : {X : Type 0} (Is : RecordNumber → X → Type 0) (P : X → Type 0) (numbers : List RecordNumber) (records : List X)
    → AllZip Is numbers records → Any P records → (n : RecordNumber) × ((x : X) × Is n x × P x)
with_number Is P [] [] all some = absurd some
with_number Is P [] (x ∷ records) all some = absurd all
with_number Is P (n ∷ numbers) [] all some = absurd some
with_number Is P (n ∷ numbers) (x ∷ records) all some =
    ⊎_elim (λ (here : P x). (n, (x, all.0, here))) (λ (rest : Any P records). with_number Is P numbers records all.1 rest) some

zip_as : {X : Type 0} (P Q : RecordNumber → X → Type 0) (numbers : List RecordNumber) (records : List X)
    → ((n : RecordNumber) (x : X) → P n x → Q n x) → AllZip P numbers records → AllZip Q numbers records
zip_as P Q [] [] to all = tt
zip_as P Q [] (x ∷ records) to all = absurd all
zip_as P Q (n ∷ numbers) [] to all = absurd all
zip_as P Q (n ∷ numbers) (x ∷ records) to all = (to n x all.0, zip_as P Q numbers records to all.1)

-- ---- from the list to the evidence

module _ (Secured : ℕ → ℕ → Type 0) (rrsets : List ReceivedRrset) (apex : Labels) (numbers : List RecordNumber) where
  pub nsec_from : (records : List NsecRecord) → AllZip (IsNsecAt Secured rrsets apex) numbers records
      → SayMore (nsec_words apex records) (words (nsec_said Secured rrsets apex))
  nsec_from records are = record {
    encloser = λ x told. ⊎_elim (λ (same : SameName x apex). inl same)
        (λ (some : Any (λ r. IsNodeBy r x) records). inr (with_number (IsNsecAt Secured rrsets apex) (λ r. IsNodeBy r x) numbers records are some)) told;
    absent = λ x. with_number (IsNsecAt Secured rrsets apex) (λ r. IsAbsentBy r x) numbers records are;
    empty_non_terminal = λ x. with_number (IsNsecAt Secured rrsets apex) (λ r. IsEmptyNonTerminalBy r x) numbers records are;
    types_at = λ x Says. with_number (IsNsecAt Secured rrsets apex) (λ r. SameName r.owner x × Says (IsInBitmap r.types)) numbers records are;
  }

  module _ (parameters : Parameters) (records : List Nsec3Record) (are : AllZip (IsNsec3At Secured rrsets apex) numbers records) where
    pub nsec3_from : SayMore (nsec3_words (sha1_hash parameters) records) (words (nsec3_said Secured rrsets apex parameters))
    nsec3_from = record {
      encloser = λ x some. inr (with_number (IsNsec3At Secured rrsets apex) (λ r. Matches (sha1_hash parameters) r x × ¬ IsClosed (IsInBitmap r.types)) numbers records are some);
      absent = λ x. with_number (IsNsec3At Secured rrsets apex) (λ r. Covers (sha1_hash parameters) r x × (r.flags ≡ 0)) numbers records are;
      empty_non_terminal = λ x none. absurd none;
      types_at = λ x Says. with_number (IsNsec3At Secured rrsets apex) (λ r. Matches (sha1_hash parameters) r x × Says (IsInBitmap r.types)) numbers records are;
    }

    opted_out_from : (x : Labels) → IsOptedOut (sha1_hash parameters) records x → (n : RecordNumber) × (nsec3_said Secured rrsets apex parameters).OptedOut x n
    opted_out_from x = with_number (IsNsec3At Secured rrsets apex) (λ r. Covers (sha1_hash parameters) r x × (r.flags ≢ 0)) numbers records are

    -- a cover is without the flag, or has it
    covered_from : (x : Labels) → IsCovered (sha1_hash parameters) records x
        → (words (nsec3_said Secured rrsets apex parameters)).Absent x ⊎ ((n : RecordNumber) × (nsec3_said Secured rrsets apex parameters).OptedOut x n)
    covered_from x some =
        let there = with_number (IsNsec3At Secured rrsets apex) (λ r. Covers (sha1_hash parameters) r x) numbers records are some in
        let n = there.0 in
        let r = there.1.0 in
        ⊎_elim (λ (without_opt_out : r.flags ≡ 0). inl (n, (r, there.1.1, (there.1.2, without_opt_out))))
        (λ (opted : ¬ (r.flags ≡ 0)). inr (n, (r, there.1.1, (there.1.2, opted))))
        (decided (nat_eq r.flags 0) (Decides-eqb r.flags 0))

    pub opts_out_from : (name : Labels) (labels : ℕ) → OptOutForm (sha1_hash parameters) records apex name labels
        → OptsOut (nsec3_said Secured rrsets apex parameters) apex name labels
    opts_out_from name labels form =
        let next_closer = rightmost name (labels + 1) in
        let star = wildcard_of (rightmost name labels) in
        record {
          above = form.above;
          encloser = nsec3_from.encloser (rightmost name labels) form.encloser;
          next_closer = covered_from next_closer form.next_closer;
          opted_out = ⊎_elim (λ (next : IsOptedOut (sha1_hash parameters) records next_closer). inl (opted_out_from next_closer next))
              (λ (wild : IsOptedOut (sha1_hash parameters) records star). inr (opted_out_from star wild)) form.opted_out;
        }

-- ---- from the evidence to the list

module _ (said : RecordWords RecordNumber) (numbers : List RecordNumber) (others : Words) where
  -- whatever is said is said by records with these numbers
  pub record SaidAmong : Type 1 where
    pub encloser : (x : Labels) (n : RecordNumber) → said.Encloser x n → IsMember n numbers
    pub absent : (x : Labels) (n : RecordNumber) → said.Absent x n → IsMember n numbers
    pub empty_non_terminal : (x : Labels) (n : RecordNumber) → said.EmptyNonTerminal x n → IsMember n numbers
    pub types_at : (x : Labels) (Says : (ℕ → Type 0) → Type 0) (n : RecordNumber) → said.TypesAt x Says n → IsMember n numbers

  say_all : SayNoMore said numbers others → SaidAmong → SayMore (words said) others
  say_all say among = record {
    encloser = λ x told. ⊎_elim (λ (none : said.NeedsNone x). say.needs_none x none)
        (λ (some : (n : RecordNumber) × said.Encloser x n). say.encloser x some.0 (among.encloser x some.0 some.1) some.1) told;
    absent = λ x some. say.absent x some.0 (among.absent x some.0 some.1) some.1;
    empty_non_terminal = λ x some. say.empty_non_terminal x some.0 (among.empty_non_terminal x some.0 some.1) some.1;
    types_at = λ x Says some. say.types_at x Says some.0 (among.types_at x Says some.0 some.1) some.1;
  }

module _ (Secured : ℕ → ℕ → Type 0) (rrsets : List ReceivedRrset) (apex : Labels) (numbers : List RecordNumber) where
  pub nsec_to : (records : List NsecRecord) → AllZip (IsNsecAt Secured rrsets apex) numbers records
      → ((n : RecordNumber) (r : NsecRecord) → IsNsecAt Secured rrsets apex n r → IsMember n numbers)
      → SayMore (words (nsec_said Secured rrsets apex)) (nsec_words apex records)
  nsec_to records are all =
      say_all (nsec_said Secured rrsets apex) numbers (nsec_words apex records)
      (nsec_say Secured rrsets apex numbers records (zip_as (IsNsecAt Secured rrsets apex) (IsNsecOf rrsets) numbers records (λ n r at. at.is) are))
      (record {
        encloser = λ x n said. all n said.0 said.1;
        absent = λ x n said. all n said.0 said.1;
        empty_non_terminal = λ x n said. all n said.0 said.1;
        types_at = λ x Says n said. all n said.0 said.1;
      })

  pub nsec3_to : (parameters others : Parameters) (records : List Nsec3Record) → AllZip (IsNsec3At Secured rrsets apex) numbers records
      → AllByRecursion (λ r. r.parameters ≡ others) records
      → ((n : RecordNumber) (r : Nsec3Record) → IsNsec3At Secured rrsets apex n r → IsMember n numbers)
      → SayMore (words (nsec3_said Secured rrsets apex parameters)) (nsec3_words (sha1_hash others) records)
  nsec3_to parameters others records are same all =
      say_all (nsec3_said Secured rrsets apex parameters) numbers (nsec3_words (sha1_hash others) records)
      (nsec3_say Secured rrsets apex numbers apex records (zip_as (IsNsec3At Secured rrsets apex) (IsNsec3Of rrsets apex) numbers records (λ n r at. at.is) are) parameters others same)
      (record {
        encloser = λ x n said. all n said.0 said.1;
        absent = λ x n said. all n said.0 said.1;
        empty_non_terminal = λ x n none. absurd none;
        types_at = λ x Says n said. all n said.0 said.1;
      })
  -- ---- a denial rests on a record

module _ (Secured : ℕ → ℕ → Type 0) (rrsets : List ReceivedRrset) (apex : Labels) where
  -- some NSEC record of the zone is there
  abbrev pub SomeNsec : Type 0
  SomeNsec = (n : RecordNumber) × (r : NsecRecord) × IsNsecAt Secured rrsets apex n r

  abbrev pub SomeNsec3 : Type 0
  SomeNsec3 = (n : RecordNumber) × (r : Nsec3Record) × IsNsec3At Secured rrsets apex n r

  pub no_name_by_nsec : (name : Labels) → NoNameForm (words (nsec_said Secured rrsets apex)) apex name → SomeNsec
  no_name_by_nsec name form = let some = form.wildcard in (some.0, some.1.0, some.1.1)

  pub no_data_by_nsec : (name : Labels) (t : ℕ) → NoDataForms (words (nsec_said Secured rrsets apex)) apex name t → SomeNsec
  no_data_by_nsec name t (inl form) = let some = form.types in (some.0, some.1.0, some.1.1)
  no_data_by_nsec name t (inr (inl form)) = let some = form.empty_non_terminal in (some.0, some.1.0, some.1.1)
  no_data_by_nsec name t (inr (inr (inl form))) = let some = form.types in (some.0, some.1.0, some.1.1)
  no_data_by_nsec name t (inr (inr (inr form))) = let some = form.empty_non_terminal in (some.0, some.1.0, some.1.1)

  pub no_name_by_nsec3 : (parameters : Parameters) (name : Labels) → NoNameForm (words (nsec3_said Secured rrsets apex parameters)) apex name → SomeNsec3
  no_name_by_nsec3 parameters name form = let some = form.wildcard in (some.0, some.1.0, some.1.1)

  pub no_data_by_nsec3 : (parameters : Parameters) (name : Labels) (t : ℕ) → NoDataForms (words (nsec3_said Secured rrsets apex parameters)) apex name t → SomeNsec3
  no_data_by_nsec3 parameters name t (inl form) = let some = form.types in (some.0, some.1.0, some.1.1)
  no_data_by_nsec3 parameters name t (inr (inl form)) = absurd form.empty_non_terminal.1
  no_data_by_nsec3 parameters name t (inr (inr (inl form))) = let some = form.types in (some.0, some.1.0, some.1.1)
  no_data_by_nsec3 parameters name t (inr (inr (inr form))) = absurd form.empty_non_terminal.1
