-- NSEC3 records that can't be used: why, and those of some RRsets.
use Rattle.std.specs.FinSet as set
use Rattle.std.proofs.Common.{◌≡◌, ◌≢◌, ◌↔◌, ◌⊎◌, ◌<◌, ◌≤◌, ◌+◌, ◌++◌, ℕ, Bool, IsTrue, List, [], ◌∷◌, Option, Some, None, length, inl, inr, refl, sym, ap, ◌∙◌, subst, arith, ⊎_elim}
use Rattle.std.proofs.lemmas.Bool.{cases_lt}
use Rattle.std.proofs.lemmas.Option.{get_or_from_slice_get, slice_get_within}
use Rattle.std.specs.Prelude.{Contains, MatchOption, slice_get}
use Rattle.dnsv_names.specs.Name.{Labels}
use Rattle.dnsv_records.proofs.OneRecord.{one_nsec3}
use Rattle.dnsv_records.specs.Nsec3.{IsNsec3}
use Rattle.dnsv_records.specs.Nsec3 as by_fields
use Rattle.dnsv_records.specs.declared.nsec3.Nsec3.{Nsec3}
use Rattle.dnsv_zones.specs.chains.Nsec3Chain.{Nsec3Record}
use Rattle.dnsv_zones.specs.chains.Rdata.{parameters_of}
use Rattle.dnsv_canonical.proofs.OrderLemmas.{each_of}
use Rattle.dnsv_canonical.specs.Canonical.{IsCanonical}
use Rattle.dnsv_canonical.specs.Rrsets.{IsNumbered, ReceivedRrset}
use Rattle.dnsv_canonical.specs.declared.number.RecordNumber.{RecordNumber}
use Rattle.dnsv_denial.proofs.lemmas.gathering.EvidenceLemmas.{one_record}
use Rattle.dnsv_canonical.proofs.NumberLemmas.{one_numbered}
use Rattle.dnsv_denial.proofs.lemmas.gathering.Gathering.{Grown, UpTo, grown_all, grown_none, grown_not, grown_one, none_in}
use Rattle.dnsv_denial.proofs.lemmas.gathering.NsecGather.{place_within, record_at}
use Rattle.dnsv_denial.proofs.lemmas.gathering.AlikeLemmas.{any_place}
use Rattle.dnsv_denial.specs.gathering.Evidence.{IsHashedOwner, IsNsec3Of, IsRecordAt}
use Rattle.dnsv_denial.proofs.lemmas.gathering.Nsec3Gather.{forms_of}
use Rattle.dnsv_lines.specs.declared.line.fault.denial.WhyNsec3.{WhyNsec3}
use Rattle.dnsv_lines.specs.declared.line.fault.denial.WhyNsec3.TheVariants as why
use Rattle.dnsv_remedies.specs.declared.facts.name.UnusableFacts.{UnusableFacts}
use Rattle.dnsv_gaps.specs.Asking.{Asking}
use Rattle.dnsv_gaps.specs.Denials.{HasSigner, IsDenialNumber}
use Rattle.dnsv_gaps.specs.Unusable.{AreUnusable, IsOfItsParent, IsUnusable, IsUnusableOf, IsWhy}
use Rattle.dnsv_gaps.specs.Unusable.IsWhy.{iterations, unusable}
use Rattle.dnsv_gaps.specs.UnusableSearch.{AreUnused, IsInFront, IsUnusedAt, IsWhyUnused}

-- ---- why

pub not_above : (a b : ℕ) → ¬ (a < b) → b ≤ a
not_above a b never = ⊎_elim (λ (less : a < b). absurd (never less)) (λ (most : b ≤ a). most) (cases_lt a b)

pub one_why : (rrset : ReceivedRrset) (fields : Nsec3) (x y : WhyNsec3) → IsWhy rrset fields x → IsWhy rrset fields y → x ≡ y
one_why rrset fields x y (iterations many) (iterations other) = refl
one_why rrset fields x y (iterations many) (unusable few is) = absurd (omega (arith, many, few))
one_why rrset fields x y (unusable few is) (iterations many) = absurd (omega (arith, many, few))
one_why rrset fields x y (unusable few is) (unusable other too) = refl

pub no_why : (rrset : ReceivedRrset) (fields : Nsec3) → ¬ (500 < fields.parameters.iterations.0) → ¬ IsUnusable rrset fields → (x : WhyNsec3)
    → ¬ IsWhy rrset fields x
no_why rrset fields few usable x (iterations many) = few many
no_why rrset fields few usable x (unusable most is) = usable is

module _ (rrset : ReceivedRrset) (owner : Labels) (its : owner ≡ rrset.owner) where
  pub no_parent : owner ≡ [] → ¬ IsOfItsParent rrset rrset.owner
  no_parent root is = let Of : Labels → Type 0 = IsOfItsParent rrset in subst Of (sym its ∙ root) is

  pub unsigned_parent : (label : List ℕ) (parent : Labels) → owner ≡ label ∷ parent → rrset.signatures ≡ []
      → IsOfItsParent rrset rrset.owner
  unsigned_parent label parent is none =
      let Of : Labels → Type 0 = IsOfItsParent rrset in subst Of (sym is ∙ its) (inl none)

  pub signed_parent : (label : List ℕ) (parent : Labels) → owner ≡ label ∷ parent → rrset.signatures ≢ []
      → HasSigner rrset parent ↔ IsOfItsParent rrset rrset.owner
  signed_parent label parent is some =
      let Of : Labels → Type 0 = IsOfItsParent rrset in (
        λ signer. subst Of (sym is ∙ its) (inr signer),
        λ of. ⊎_elim (λ (none : rrset.signatures ≡ []). absurd (some none)) (λ (signer : HasSigner rrset parent). signer)
            (subst Of (sym its ∙ is) of),
      )

-- ---- those of an RRset

-- what is so of the record with the number
record Told (rrsets : List ReceivedRrset) (zone : Labels) (rrset : ReceivedRrset) (fields : Nsec3) (x : WhyNsec3) : Type 0 where
  unused : ¬ (IsInFront zone rrset.owner × by_fields.IsUsable fields)
  is_why : IsWhy rrset fields x

told_of : (rrsets : List ReceivedRrset) (zone : Labels) (n : RecordNumber) (rrset : ReceivedRrset) (rdata : List ℕ) (fields : Nsec3) (x : WhyNsec3)
    → IsRecordAt rrsets n rrset rdata → IsNsec3 rdata fields → IsUnusedAt rrsets zone n x → Told rrsets zone rrset fields x
told_of rrsets zone n rrset rdata fields x at read its =
    let one = one_record rrsets n its.rrset rrset its.rdata rdata its.at at in
    let same = one_nsec3 rdata its.fields fields (subst (λ r. IsNsec3 r its.fields) one.1 its.read) read in record {
      unused = subst (λ (f : Nsec3). ¬ (IsInFront zone rrset.owner × by_fields.IsUsable f)) same
          (subst (λ (r : ReceivedRrset). ¬ (IsInFront zone r.owner × by_fields.IsUsable its.fields)) one.0 its.unused);
      is_why = subst (λ (f : Nsec3). IsWhy rrset f x) same (subst (λ (r : ReceivedRrset). IsWhy r its.fields x) one.0 its.is_why);
    }

module _ (rrsets : List ReceivedRrset) (zone : Labels) (k : ℕ) (rrset : ReceivedRrset) (canonical : List (List ℕ))
    (numbered : IsNumbered rrsets k rrset) (rtype : rrset.rtype ≡ 50) (is : IsCanonical rrset.rdata canonical) where
  abbrev pub GrownUnused : (RecordNumber → Type 0) → List UnusableFacts → List UnusableFacts → Type 0
  GrownUnused Within before now = Grown (λ each. each.number) (λ each. each.why) (IsUnusedAt rrsets zone) Within before now

  its_record : (place : ℕ) (rdata : List ℕ) → slice_get canonical place ≡ Some rdata
      → IsRecordAt rrsets (record { rrset = k; place = place + 1 }) rrset rdata
  its_record place rdata there = record_at rrsets k place rrset canonical rdata numbered (forms_of rrset canonical rtype is) there

  pub unused_begin : (before : List UnusableFacts) → GrownUnused (UpTo k 0) before before
  unused_begin before =
      grown_none (λ each. each.number) (λ each. each.why) (IsUnusedAt rrsets zone) k before (λ n x its. its.at.is_rdata.0)

  pub unused_added : (place : ℕ) (rdata : List ℕ) (fields : Nsec3) (fact : UnusableFacts) (before now next : List UnusableFacts)
      → slice_get canonical place ≡ Some rdata → IsNsec3 rdata fields → ¬ (IsInFront zone rrset.owner × by_fields.IsUsable fields)
      → IsWhy rrset fields fact.why → fact.number ≡ record { rrset = k; place = place + 1 } → next ≡ now ++ fact ∷ []
      → GrownUnused (UpTo k place) before now → GrownUnused (UpTo k (place + 1)) before next
  unused_added place rdata fields fact before now next there read unused is_why number pushed so_far =
      let at = its_record place rdata there in
      let it : IsUnusedAt rrsets zone (record { rrset = k; place = place + 1 }) fact.why = record {
        rrset = rrset;
        rdata = rdata;
        at = at;
        rtype = rtype;
        fields = fields;
        read = read;
        unused = unused;
        is_why = is_why;
      } in
      grown_one (λ each. each.number) (λ each. each.why) (IsUnusedAt rrsets zone) k place fact before now next number it
      (λ x its. one_why rrset fields fact.why x is_why
      (told_of rrsets zone (record { rrset = k; place = place + 1 }) rrset rdata fields x at read its).is_why)
      pushed so_far

  pub unused_passed : (place : ℕ) (rdata : List ℕ) (fields : Nsec3) (before now : List UnusableFacts)
      → slice_get canonical place ≡ Some rdata → IsNsec3 rdata fields
      → ((x : WhyNsec3) → ¬ (IsInFront zone rrset.owner × by_fields.IsUsable fields) → ¬ IsWhy rrset fields x)
      → GrownUnused (UpTo k place) before now → GrownUnused (UpTo k (place + 1)) before now
  unused_passed place rdata fields before now there read never so_far =
      grown_not (λ each. each.number) (λ each. each.why) (IsUnusedAt rrsets zone) k place before now
      (λ x its.
      let told = told_of rrsets zone (record { rrset = k; place = place + 1 }) rrset rdata fields x (its_record place rdata there) read its in
      never x told.unused told.is_why)
      so_far

  pub unused_end : (place : ℕ) (before now : List UnusableFacts) → length canonical ≤ place → GrownUnused (UpTo k place) before now
      → GrownUnused (λ n. n.rrset ≡ k) before now
  unused_end place before now past so_far =
      grown_all (λ each. each.number) (λ each. each.why) (IsUnusedAt rrsets zone) k place before now
      (λ n x same its.
      let bound = place_within rrsets k rrset its.rrset canonical its.rdata n numbered (forms_of rrset canonical rtype is) same its.at in
      omega (arith, bound, past))
      so_far

module _ (rrsets : List ReceivedRrset) (zone : Labels) (k : ℕ) (before : List UnusableFacts) where
  abbrev pub UnusedOf : List UnusableFacts → Type 0
  UnusedOf now = Grown (λ each. each.number) (λ each. each.why) (IsUnusedAt rrsets zone) (λ n. n.rrset ≡ k) before now

  pub no_rrset : ((rrset : ReceivedRrset) → ¬ IsNumbered rrsets k rrset) → UnusedOf before
  no_rrset none = none_in (λ each. each.number) (λ each. each.why) (IsUnusedAt rrsets zone) k before
      (λ n x same its. none its.rrset (subst (λ m. IsNumbered rrsets m its.rrset) same its.at.is_rrset))

  pub not_nsec3 : (rrset : ReceivedRrset) → IsNumbered rrsets k rrset → ¬ (rrset.rtype ≡ 50) → UnusedOf before
  not_nsec3 rrset numbered other = none_in (λ each. each.number) (λ each. each.why) (IsUnusedAt rrsets zone) k before
      (λ n x same its.
      let one = one_numbered rrsets k its.rrset rrset (subst (λ m. IsNumbered rrsets m its.rrset) same its.at.is_rrset) numbered in
      other (ap (λ (r : ReceivedRrset). r.rtype) (sym one) ∙ its.rtype))

-- ---- those of a zone

module _ (a : Asking) (zone : Labels) where
  pub unusable_to : (n : RecordNumber) (x : WhyNsec3) → IsDenialNumber a zone n.rrset → IsUnusedAt a.basis.rrsets zone n x
      → IsUnusableOf a zone n x
  unusable_to n x denial its = record {
    denial = denial;
    unused = λ nsec3 source.
        let of = source.is in
        let one = one_record a.basis.rrsets n of.rrset its.rrset of.rdata its.rdata of.at its.at in
        let same = one_nsec3 its.rdata of.fields its.fields (subst (λ r. IsNsec3 r of.fields) one.1 of.read) its.read in
        its.unused (
          (nsec3.hash, subst (λ (r : ReceivedRrset). IsHashedOwner zone r.owner nsec3.hash) one.0 of.owner),
          subst by_fields.IsUsable same of.usable,
        );
    rrset = its.rrset;
    rdata = its.rdata;
    at = its.at;
    rtype = its.rtype;
    fields = its.fields;
    read = its.read;
    is_why = its.is_why;
  }

  pub unusable_from : (n : RecordNumber) (x : WhyNsec3) → IsUnusableOf a zone n x → IsUnusedAt a.basis.rrsets zone n x
  unusable_from n x of = record {
    rrset = of.rrset;
    rdata = of.rdata;
    at = of.at;
    rtype = of.rtype;
    fields = of.fields;
    read = of.read;
    unused = λ both.
        let nsec3 : Nsec3Record = record {
          hash = both.0.0;
          next = of.fields.next_hash;
          flags = of.fields.flags.0;
          types = λ t. set.contains of.fields.types t;
          parameters = parameters_of of.fields.parameters;
        } in
        let it : IsNsec3Of a.basis.rrsets zone n nsec3 = record {
          rrset = of.rrset;
          rdata = of.rdata;
          at = of.at;
          rtype = of.rtype;
          owner = both.0.1;
          fields = of.fields;
          read = of.read;
          usable = both.1;
          next = refl;
          flags = refl;
          types = refl;
          parameters = refl;
        } in
        of.unused nsec3 (record { is = it; denial = of.denial });
    is_why = of.is_why;
  }

  pub all_unusable : (Among : ℕ → Type 0) → ((k : ℕ) → Among k ↔ IsDenialNumber a zone k) → (facts : List UnusableFacts)
      → AreUnused a.basis.rrsets zone (λ n. Among n.rrset) facts → AreUnusable a zone facts
  all_unusable Among same facts are = record {
    rising = are.rising;
    members = λ n x. (
      λ there.
          let it = each_of (λ (f : UnusableFacts). Among f.number.rrset × IsUnusedAt a.basis.rrsets zone f.number f.why) facts
          (record { why = x; number = n }) are.each there in
          unusable_to n x ((same n.rrset).0 it.0) it.1,
      λ of.
          let some = any_place (λ (f : UnusableFacts). (f.number ≡ n) × (f.why ≡ x)) facts
          (are.all n x ((same n.rrset).1 of.denial) (unusable_from n x of)) in
          let fact : some.1 ≡ record { why = x; number = n } = λ i. record { why = some.3.1 i; number = some.3.0 i } in
          subst (Contains facts) fact (
            some.0,
            slice_get_within facts some.0 some.1 some.2,
            get_or_from_slice_get facts some.0 some.1 some.1 some.2,
          ),
    );
  }

-- why it can't be used, as it is of no source
pub match_why : (is_hashed : Bool) (rrset : ReceivedRrset) (fields : Nsec3) (found : Option WhyNsec3)
    → ¬ (IsTrue is_hashed × by_fields.IsUsable fields)
    → MatchOption found ((x : WhyNsec3) → ¬ IsWhy rrset fields x) (IsWhy rrset fields)
    → MatchOption found ((x : WhyNsec3) → ¬ IsWhyUnused is_hashed rrset fields x) (IsWhyUnused is_hashed rrset fields)
match_why is_hashed rrset fields None unused told = λ x is. told x is.is_why
match_why is_hashed rrset fields (Some x) unused told = record { unused = unused; is_why = told }
