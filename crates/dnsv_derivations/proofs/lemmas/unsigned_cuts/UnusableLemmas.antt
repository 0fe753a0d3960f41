-- DS RRsets of which no record can be used.
use Rattle.std.proofs.Common.{◌≡◌, ◌<◌, ◌≤◌, ◌+◌, ◌-◌, ◌⊎◌, inl, inr, ℕ, zero, suc, List, [], ◌∷◌, ◌++◌, Option, Some, None, length, map, get_or, refl, sym, ap, ◌∙◌, subst, ⊎_elim, append_assoc, arith}
use Rattle.std.proofs.lemmas.Bool.{cases_lt}
use Rattle.std.proofs.lemmas.List.{length-append, map-append}
use Rattle.std.proofs.lemmas.Option.{get_or_from_slice_get, slice_get_within}
use Rattle.std.specs.List.{AllByRecursion, AllZip, Contains, slice_get}
use Rattle.std.specs.Prelude.{IsTrue}
use Rattle.dnsv_names.specs.Name.{Labels}
use Rattle.dnsv_records.proofs.OneRecord.{one_ds}
use Rattle.dnsv_records.specs.Ds.{IsDs}
use Rattle.dnsv_canonical.proofs.CanonicalLemmas.{canonical_unique}
use Rattle.dnsv_canonical.specs.Canonical.{IsCanonical}
use Rattle.dnsv_canonical.specs.CanonicalRdata.{canonical_form}
use Rattle.dnsv_canonical.specs.Rdata.{rdata_of_type}
use Rattle.dnsv_canonical.specs.Rrsets.{IsNumbered, ReceivedRrset}
use Rattle.dnsv_chain.proofs.ChainLemmas.{same_ds}
use Rattle.dnsv_chain.proofs.ZipLemmas.{zip_at, zip_length}
use Rattle.dnsv_denial.specs.gathering.Evidence.{IsRecordAt}
use Rattle.dnsv_canonical.specs.declared.number.RecordNumber.{RecordNumber}
use Rattle.dnsv_derivations.specs.Explained.{Setting}
use Rattle.dnsv_derivations.specs.derivations.OwnDerivations.{IsSignatureTold, SecuredIn}
use Rattle.dnsv_derivations.specs.derivations.Derivations.{IsLowestSecured}
use Rattle.dnsv_derivations.specs.Following.Parts.{IsUnusableRecord, IsWhy}
use Rattle.dnsv_derivations.specs.Saying.{Adds, AreBoth}
use Rattle.dnsv_derivations.specs.unsigned_cuts.UnsignedCuts.{AreAllTold, AreFirstTold, AreToldFrom, IsCaseTold, IsFirstUnusable, IsUnusableSet, IsUnusableTold}
use Rattle.dnsv_derivations.specs.derivations.Ways.{record_at}
use Rattle.dnsv_derivations.specs.derivations.WaySearch.{MayDelegate}
use Rattle.dnsv_lines.specs.declared.line.Line.{Line}
use Rattle.dnsv_lines.specs.declared.line.Line.TheVariants as line
use Rattle.dnsv_lines.specs.declared.line.cut.InsecureCase.TheVariants as case
use Rattle.dnsv_lines.specs.declared.line.cut.UnusableDs.{UnusableDs}
use Rattle.dnsv_canonical.specs.declared.number.SignatureNumber.{SignatureNumber}
use Rattle.dnsv_derivations.proofs.lemmas.derivations.ClimbLemmas.{number_is}
use Rattle.dnsv_derivations.proofs.lemmas.SayingLemmas.{both_added}
use Rattle.dnsv_canonical.proofs.NumberLemmas.{one_numbered}
use Rattle.dnsv_derivations.proofs.lemmas.derivations.WayLemmas.KeysLemmas.{mapped_long, mapped_there, read_there}
use Rattle.dnsv_derivations.proofs.lemmas.derivations.WayLemmas.RankLemmas.{ds_read, forms_of}
use Rattle.dnsv_records.specs.Algorithm.{is_supported}
use Rattle.dnsv_records.specs.declared.ds.Ds.{Ds}
use Rattle.dnsv_digest.specs.DigestAlgorithm.{IsStronger, digest_algorithm_of, strength_of}
use Rattle.dnsv_digest.specs.declared.digest_algorithm.DigestAlgorithm.{DigestAlgorithm}
use Rattle.dnsv_anchors.specs.Ds.{GoesBefore, HasUsable, IsIgnored, IsSupported, IsUsable}

-- ---- whether a record is ignored is decided

stronger_or_not : (a b : DigestAlgorithm) → IsStronger a b ⊎ ¬ IsStronger a b
stronger_or_not a b = ⊎_elim
    (λ (less : strength_of b < strength_of a). inl less)
    (λ (more : strength_of a ≤ strength_of b). inr (λ less. absurd (omega (arith, less, more))))
    (cases_lt (strength_of b) (strength_of a))

before_by : (a b : ℕ) (first second : Option DigestAlgorithm) → digest_algorithm_of a ≡ first → digest_algorithm_of b ≡ second
    → GoesBefore a b ⊎ ¬ GoesBefore a b
before_by a b None second one two = inr (λ goes. let is = goes.2 in cc)
before_by a b (Some stronger) None one two = inr (λ goes. let is = goes.3 in cc)
before_by a b (Some stronger) (Some weaker) one two = ⊎_elim
    (λ (is : IsStronger stronger weaker). inl (stronger, weaker, one, two, is))
    (λ (isnt : ¬ IsStronger stronger weaker). inr (λ goes.
    let first : stronger ≡ goes.0 = let other = goes.2 in cc in
    let second : weaker ≡ goes.1 = let other = goes.3 in cc in
    let First : DigestAlgorithm → Type 0 = λ each. IsStronger each goes.1 in
    let Second : DigestAlgorithm → Type 0 = λ each. IsStronger stronger each in
    isnt (subst Second (sym second) (subst First (sym first) goes.4))))
    (stronger_or_not stronger weaker)

before_or_not : (a b : ℕ) → GoesBefore a b ⊎ ¬ GoesBefore a b
before_or_not a b = before_by a b (digest_algorithm_of a) (digest_algorithm_of b) refl refl

none_such : (x : Ds) (xs : List Ds) (ds : Ds) → ¬ GoesBefore x.digest_type.0 ds.digest_type.0 → ¬ IsIgnored xs ds
    → (other : Ds) (i : ℕ) → i < length (x ∷ xs) → get_or (x ∷ xs) i other ≡ other → ¬ GoesBefore other.digest_type.0 ds.digest_type.0
none_such x xs ds never none other zero within is before =
    let Before : Ds → Type 0 = λ each. GoesBefore each.digest_type.0 ds.digest_type.0 in never (subst Before (sym is) before)
none_such x xs ds never none other (suc i) within is before =
    none (record { other = other; among = (i, omega (arith, within), is); before = before })

ignored_or_not : (records : List Ds) (ds : Ds) → IsIgnored records ds ⊎ ¬ IsIgnored records ds
ignored_or_not [] ds = inr (λ ignored. let within = ignored.among.1 in absurd (omega (arith, within)))
ignored_or_not (x ∷ xs) ds = ⊎_elim
    (λ (before : GoesBefore x.digest_type.0 ds.digest_type.0). inl (record { other = x; among = (0, omega arith, refl); before = before }))
    (λ (never : ¬ GoesBefore x.digest_type.0 ds.digest_type.0). ⊎_elim
    (λ (ignored : IsIgnored xs ds).
    let within = ignored.among.1 in
    inl (record { other = ignored.other; among = (suc ignored.among.0, omega (arith, within), ignored.among.2); before = ignored.before }))
    (λ (none : ¬ IsIgnored xs ds). inr (λ ignored. none_such x xs ds never none ignored.other ignored.among.0 ignored.among.1 ignored.among.2 ignored.before))
    (ignored_or_not xs ds))
    (before_or_not x.digest_type.0 ds.digest_type.0)

-- what isn't usable for no other reason is ignored
pub ignored : (records : List Ds) (ds : Ds) → ¬ IsUsable records ds → IsTrue (is_supported ds.algorithm.0) → IsSupported ds.digest_type.0
    → IsIgnored records ds
ignored records ds unusable algorithm digest_type = ⊎_elim
    (λ (is : IsIgnored records ds). is)
    (λ (isnt : ¬ IsIgnored records ds).
    absurd (unusable (record { algorithm = algorithm; digest_type = digest_type; counts = isnt })))
    (ignored_or_not records ds)

-- ---- the first RRset without a usable record

module _ (setting : Setting) (name : Labels) where
  abbrev pub NoneTo : ℕ → Type 0
  NoneTo n = (k : ℕ) → k ≤ n → ¬ IsUnusableSet setting name k

  pub none_at_first : NoneTo 0
  none_at_first = λ k below is. let from_one = is.is_ds.0 in absurd (omega (arith, below, from_one))

  pub none_to_next : (n : ℕ) → ¬ IsUnusableSet setting name (n + 1) → NoneTo n → NoneTo (n + 1)
  none_to_next n never none = λ k below is. ⊎_elim
      (λ (later : n < k).
      let Is : ℕ → Type 0 = λ each. IsUnusableSet setting name each in
      let last : k ≡ n + 1 = omega (arith, later, below) in
      never (subst Is last is))
      (λ (earlier : k ≤ n). none k earlier is)
      (cases_lt n k)

  pub first_found : (n : ℕ) → IsUnusableSet setting name (n + 1) → NoneTo n → IsFirstUnusable setting name (n + 1)
  first_found n found none = record {
    is = found;
    first = λ k is. ⊎_elim
        (λ (later : n < k). let least : n + 1 ≤ k = omega (arith, later) in least)
        (λ (earlier : k ≤ n). absurd (none k earlier is))
        (cases_lt n k);
  }

  pub none_at_all : (n : ℕ) → length setting.rrsets ≤ n → NoneTo n → (k : ℕ) → ¬ IsUnusableSet setting name k
  none_at_all n past none = λ k is.
      let within = slice_get_within setting.rrsets (k - 1) is.ds is.is_ds.1 in
      none k (omega (arith, within, past)) is

  module _ (k : ℕ) (ds : ReceivedRrset) (numbered : IsNumbered setting.rrsets k ds) where
    pub its_set : (values : List Ds) → MayDelegate setting k ds name → AllZip IsDs (rdata_of_type 43 ds) values → ¬ HasUsable values
        → IsUnusableSet setting name k
    its_set values may read none = record {
      ds = ds;
      is_ds = numbered;
      rtype = may.rtype;
      owner = may.owner;
      secured = may.secured;
      records = values;
      read = ds_read ds values may.rtype read;
      none = none;
    }

    same_set : (is : IsUnusableSet setting name k) → is.ds ≡ ds
    same_set is = one_numbered setting.rrsets k is.ds ds is.is_ds numbered

    pub set_delegates : IsUnusableSet setting name k → MayDelegate setting k ds name
    set_delegates is =
        let May : ReceivedRrset → Type 0 = λ each. MayDelegate setting k each name in
        subst May (same_set is) (record { rtype = is.rtype; owner = is.owner; secured = is.secured })

    pub set_read : (values : List Ds) → IsUnusableSet setting name k → AllZip IsDs (rdata_of_type 43 ds) values → AllZip IsDs ds.rdata values
    set_read values is read = ds_read ds values (set_delegates is).rtype read

    pub none_usable : (values : List Ds) → IsUnusableSet setting name k → AllZip IsDs (rdata_of_type 43 ds) values → ¬ HasUsable values
    none_usable values is read =
        let Read : ReceivedRrset → Type 0 = λ each. AllZip IsDs each.rdata is.records in
        let None : List Ds → Type 0 = λ each. ¬ HasUsable each in
        subst None (same_ds ds.rdata is.records values (subst Read (same_set is) is.read) (set_read values is read)) is.none

-- ---- why its records can't be used

told_more : (rrsets : List ReceivedRrset) (k place : ℕ) (told : List UnusableDs) (unusable : UnusableDs)
    → AreToldFrom rrsets k place told → unusable.number ≡ record_at k (place + length told) → IsUnusableRecord rrsets unusable
    → AreToldFrom rrsets k place (told ++ unusable ∷ [])
told_more rrsets k place [] unusable each number is =
    let At : ℕ → Type 0 = λ n. unusable.number ≡ record_at k n in
    let here : place + 0 ≡ place = omega arith in
    (subst At here number, is, tt)
told_more rrsets k place (one ∷ told) unusable each number is =
    let At : ℕ → Type 0 = λ n. unusable.number ≡ record_at k n in
    let there : place + suc (length told) ≡ (place + 1) + length told = omega arith in
    (each.0, each.1, told_more rrsets k (place + 1) told unusable each.2 (subst At there number) is)

module _ (rrsets : List ReceivedRrset) (k : ℕ) (old : List Line) where
  pub one_told : (n : ℕ) (mid new : List Line) (unusable : UnusableDs) → new ≡ mid ++ line.Unusable unusable ∷ []
      → unusable.number ≡ record_at k (n + 1) → IsUnusableRecord rrsets unusable → Adds (AreFirstTold rrsets k n) old mid
      → Adds (AreFirstTold rrsets k (n + 1)) old new
  one_told n mid new unusable pushed number is added =
      let said = added.says in
      let size = said.count in
      let At : ℕ → Type 0 = λ place. unusable.number ≡ record_at k place in
      let place : n + 1 ≡ 1 + length said.told = omega (arith, size) in
      let long = length-append said.told (unusable ∷ []) in
      record {
        more = added.more ++ line.Unusable unusable ∷ [];
        is = pushed ∙ ap (λ front. front ++ line.Unusable unusable ∷ []) added.is ∙ append_assoc old added.more (line.Unusable unusable ∷ []);
        says = record {
          told = said.told ++ unusable ∷ [];
          are = ap (λ front. front ++ line.Unusable unusable ∷ []) said.are
              ∙ sym (map-append (λ each. line.Unusable each) said.told (unusable ∷ []));
          count = omega (arith, size, long);
          each = told_more rrsets k 1 said.told unusable said.each (subst At place number) is;
        };
      }

-- the records of a DS RRset, as they are read in canonical order
module _ {X : Type 0} (rdata : X → List ℕ) (record_read : X → Ds) (rrsets : List ReceivedRrset) (k : ℕ) (ds : ReceivedRrset)
    (numbered : IsNumbered rrsets k ds) (rtype : ds.rtype ≡ 43) (values : List Ds) (zip : AllZip IsDs ds.rdata values)
    (records items : List X) (same : items ≡ records) (canonical : IsCanonical ds.rdata (map rdata records))
    (are_read : AllByRecursion (λ x. IsDs (rdata x) (record_read x)) records) where
  ds_at : (place : ℕ) (x : X) → place < length items → x ≡ get_or items place x
      → IsRecordAt rrsets (record_at k (place + 1)) ds (rdata x)
  ds_at place x within at =
      let AtPlace : ℕ → Type 0 = λ p. slice_get (map rdata records) p ≡ Some (rdata x) in
      let here : place ≡ place + 1 - 1 = omega arith in record {
        is_rrset = numbered;
        canonical = map rdata records;
        is_canonical = forms_of ds (map rdata records) rtype canonical;
        is_rdata = (omega arith, subst AtPlace here (mapped_there rdata items records place x same within at));
      }

  pub unusable_at : (place : ℕ) (x : X) (unusable : UnusableDs) → place < length items → x ≡ get_or items place x
      → unusable.number ≡ record_at k (place + 1) → unusable.owner ≡ ds.owner → IsWhy unusable.why values (record_read x)
      → unusable.key.tag.0 ≡ (record_read x).key_tag.0 → unusable.key.algorithm.0 ≡ (record_read x).algorithm.0
      → unusable.digest_type.0 ≡ (record_read x).digest_type.0 → IsUnusableRecord rrsets unusable
  unusable_at place x unusable within at number owner why tag algorithm digest_type =
      let At : RecordNumber → Type 0 = λ each. IsRecordAt rrsets each ds (rdata x) in record {
        rrset = ds;
        rdata = rdata x;
        at = subst At (sym number) (ds_at place x within at);
        rtype = rtype;
        owner = owner;
        ds = record_read x;
        read = read_there (λ each. IsDs (rdata each) (record_read each)) items records place x same are_read within at;
        records = values;
        are_read = zip;
        why = why;
        tag = tag;
        algorithm = algorithm;
        digest_type = digest_type;
      }

  pub all_told : (n : ℕ) (old new : List Line) → length items ≤ n → Adds (AreFirstTold rrsets k n) old new
      → Adds (AreAllTold rrsets k) old new
  all_told n old new past added = record {
    more = added.more;
    is = added.is;
    says = record {
      n = n;
      first = added.says;
      every = λ place rrset octets at.
          let same_rrset : rrset ≡ ds = one_numbered rrsets k rrset ds at.is_rrset numbered in
          let Canonical : ReceivedRrset → Type 0 = λ one. IsCanonical (map (canonical_form one.rtype) one.rdata) at.canonical in
          let lists : at.canonical ≡ map rdata records =
          canonical_unique (map (canonical_form ds.rtype) ds.rdata) at.canonical (map rdata records) (subst Canonical same_rrset at.is_canonical)
          (forms_of ds (map rdata records) rtype canonical) in
          let In : List (List ℕ) → Type 0 = λ one. slice_get one (place - 1) ≡ Some octets in
          let within = slice_get_within (map rdata records) (place - 1) octets (subst In lists at.is_rdata.1) in
          let long = mapped_long rdata items records n same past in
          omega (arith, within, long);
    };
  }

  -- none of its records can be used
  pub never_usable : (place : ℕ) (x : X) → ¬ HasUsable values → place < length items → x ≡ get_or items place x
      → ¬ IsUsable values (record_read x)
  never_usable place x none within at usable =
      let there : slice_get (map rdata records) place ≡ Some (rdata x) = mapped_there rdata items records place x same within at in
      let among : Contains (map rdata records) (rdata x) =
      (place, slice_get_within (map rdata records) place (rdata x) there, get_or_from_slice_get (map rdata records) place (rdata x) (rdata x) there) in
      let received : Contains ds.rdata (rdata x) = (canonical.members (rdata x)).0 among in
      let sizes = zip_length IsDs ds.rdata values zip in
      let long = received.1 in
      let inside : received.0 < length values = omega (arith, sizes, long) in
      let Read : List ℕ → Type 0 = λ octets. IsDs octets (get_or values received.0 (record_read x)) in
      let its : IsDs (rdata x) (get_or values received.0 (record_read x)) =
      subst Read received.2 (zip_at IsDs ds.rdata values received.0 (rdata x) (record_read x) zip received.1) in
      none (record {
        ds = record_read x;
        among = (
          received.0,
          inside,
          one_ds (rdata x) (get_or values received.0 (record_read x)) (record_read x) its
              (read_there (λ each. IsDs (rdata each) (record_read each)) items records place x same are_read within at),
        );
        usable = usable;
      })

-- ---- the lines

pub unusable_told : (setting : Setting) (name : Labels) (k : ℕ) (number : SignatureNumber) (old signed told new : List Line)
    → IsFirstUnusable setting name k → number.rrset ≡ k → IsLowestSecured setting k number.signature
    → Adds (IsSignatureTold setting number) old signed → Adds (IsCaseTold case.UnusableDs name None) signed told
    → Adds (AreAllTold setting.rrsets k) told new → Adds (IsUnusableTold setting name) old new
unusable_told setting name k number old signed told new first same lowest derived case_told all =
    let Of : SignatureNumber → Type 0 = λ each. Adds (IsSignatureTold setting each) old signed in
    let its : SignatureNumber = record { rrset = k; signature = number.signature } in
    let whole = both_added (IsSignatureTold setting its) (AreBoth (IsCaseTold case.UnusableDs name None) (AreAllTold setting.rrsets k)) old signed new
    (subst Of (number_is number k same) derived)
    (both_added (IsCaseTold case.UnusableDs name None) (AreAllTold setting.rrsets k) signed told new case_told all) in
    record {
      more = whole.more;
      is = whole.is;
      says = record { k = k; first = first; s = number.signature; lowest = lowest; told = whole.says };
    }

pub lowest_good : (setting : Setting) (k : ℕ) (number : SignatureNumber) → number.rrset ≡ k → IsLowestSecured setting k number.signature
    → SecuredIn setting number.rrset number.signature
lowest_good setting k number same lowest =
    let Secured : ℕ → Type 0 = λ n. SecuredIn setting n number.signature in subst Secured (sym same) lowest.secured
