-- The digest type that leads in a DS RRset, and the records that are usable beside it.
use Rattle.std.proofs.Common.{◌≡◌, ℕ, ◌<◌, List, [], ◌∷◌, ◌++◌, Option, Some, None, refl, sym, ap, ◌∙◌, arith, subst, ◌⊎◌, inl, inr, Bool, true, false, cond, ◌==◌, ◌+◌, get_or, take, length}
use Rattle.std.proofs.lemmas.Bool.Decides.{nat_tests}
use Rattle.std.specs.Prelude.{IsTrue}
use Rattle.std.proofs.lemmas.List.{take_more}
use Rattle.std.proofs.lemmas.List.Elements.{Contains-push, Contains-push_cases, Contains-append_left}
use Rattle.std.specs.List.{Contains}
use Rattle.dnsv_records.specs.Algorithm.{is_supported}
use Rattle.dnsv_records.specs.declared.ds.Ds.{Ds}
use Rattle.dnsv_records.specs.declared.number.DigestType.{DigestType}
use Rattle.dnsv_digest.specs.DigestAlgorithm.{IsStronger, digest_algorithm_of}
use Rattle.dnsv_digest.specs.declared.digest_algorithm.DigestAlgorithm.{DigestAlgorithm as Supported}
use Rattle.dnsv_digest.specs.declared.digest_algorithm.DigestAlgorithm.TheVariants.{Sha1, Sha256, Sha384}
use Rattle.dnsv_anchors.specs.Ds.{GoesBefore, HasUsable, IsSupported, IsUsable}
use Rattle.dnsv_anchors.specs.Ds.DsReading.{HasSupported, IsLeading, Leads, TakesOver}

some_only : {X : Type 0} {o : Option X} {a b : X} → o ≡ Some a → o ≡ Some b → a ≡ b
some_only p q = cc

irreflexive : (number : ℕ) → GoesBefore number number → ⊥
irreflexive number (stronger, weaker, is, also, before) =
    let P : Supported → Type 0 = λ type. IsStronger type weaker in
    let itself : IsStronger weaker weaker = subst P (some_only is also) before in
    omega (arith, itself)

transitive : (a b c : ℕ) → GoesBefore a b → GoesBefore b c → GoesBefore a c
transitive a b c (first, second, a_is, b_is, p) (second', third, b_is', c_is, q) =
    let P : Supported → Type 0 = λ type. IsStronger type third in
    let later : IsStronger second third = subst P (some_only b_is' b_is) q in
    (first, third, a_is, c_is, omega (arith, p, later))

-- a record more, whose digest type takes over
pub takes_lead : (xs : List Ds) (ds : Ds) (leading : Option DigestType) → IsLeading xs leading → TakesOver ds.digest_type.0 leading
    → IsLeading (xs ++ ds ∷ []) (Some ds.digest_type)
takes_lead xs ds None is over = record {
  supported = over;
  ds = ds;
  among = Contains-push xs ds;
  is = refl;
  first = λ other contains before. elim (Contains-push_cases xs ds other contains) [
    | inl earlier ↦ is other earlier (before.0, before.2)
    | inr same ↦ irreflexive ds.digest_type.0 (let P : Ds → Type 0 = λ each. GoesBefore each.digest_type.0 ds.digest_type.0 in subst P (sym same) before)
  ];
}
takes_lead xs ds (Some leading) is over = record {
  supported = (over.0, over.2);
  ds = ds;
  among = Contains-push xs ds;
  is = refl;
  first = λ other contains before. elim (Contains-push_cases xs ds other contains) [
    | inl earlier ↦ is.first other earlier (transitive other.digest_type.0 ds.digest_type.0 leading.0 before over)
    | inr same ↦ irreflexive ds.digest_type.0 (let P : Ds → Type 0 = λ each. GoesBefore each.digest_type.0 ds.digest_type.0 in subst P (sym same) before)
  ];
}

-- a record more, whose digest type doesn't
pub keeps_lead : (xs : List Ds) (ds : Ds) (leading : Option DigestType) → IsLeading xs leading → (TakesOver ds.digest_type.0 leading → ⊥)
    → IsLeading (xs ++ ds ∷ []) leading
keeps_lead xs ds None is none = λ other contains supported. elim (Contains-push_cases xs ds other contains) [
  | inl earlier ↦ is other earlier supported
  | inr same ↦ none (let P : Ds → Type 0 = λ each. IsSupported each.digest_type.0 in subst P (sym same) supported)
]
keeps_lead xs ds (Some leading) is none = record {
  supported = is.supported;
  ds = is.ds;
  among = Contains-append_left xs (ds ∷ []) is.ds is.among;
  is = is.is;
  first = λ other contains before. elim (Contains-push_cases xs ds other contains) [
    | inl earlier ↦ is.first other earlier before
    | inr same ↦ none (let P : Ds → Type 0 = λ each. GoesBefore each.digest_type.0 leading.0 in subst P (sym same) before)
  ];
}

-- the record of the place is the next
pub next_lead : (records : List Ds) (i : ℕ) (ds : Ds) (leading new : Option DigestType) → i < length records → ds ≡ get_or records i ds
    → new ≡ leading → IsLeading (take i records ++ ds ∷ []) leading → IsLeading (take (i + 1) records) new
next_lead records i ds leading new below ds_is new_is is =
    let P : Option DigestType → Type 0 = λ o. IsLeading (take i records ++ ds ∷ []) o in
    let Q : List Ds → Type 0 = λ xs. IsLeading xs new in
    let both : take (i + 1) records ≡ take i records ++ ds ∷ [] = take_more records i ds below ∙ ap (λ z. take i records ++ z ∷ []) (sym ds_is) in
    subst Q (sym both) (subst P (sym new_is) is)

pub number_of : Supported → ℕ
number_of Sha1 = 1
number_of Sha256 = 2
number_of Sha384 = 4

pub number_by : (number : ℕ) (first second third : Bool) (supported : Supported) → (number == 1) ≡ first
    → (number == 2) ≡ second → (number == 4) ≡ third
    → cond first (Some Sha1) (cond second (Some Sha256) (cond third (Some Sha384) None)) ≡ Some supported
    → number ≡ number_of supported
unfolding number_of
number_by number true second third Sha1 one two four e = grind (arith, nat_tests)
number_by number true second third supported one two four e = cc
number_by number false true third Sha256 one two four e = grind (arith, nat_tests)
number_by number false true third supported one two four e = cc
number_by number false false true Sha384 one two four e = grind (arith, nat_tests)
number_by number false false true supported one two four e = cc
number_by number false false false supported one two four e = cc

-- what holds of the number of a digest type holds of one of the three
pub of_three : (supported : Supported) (By : ℕ → Type 0) → By (number_of supported) → By 1 ⊎ (By 2 ⊎ By 4)
unfolding number_of
of_three Sha1 By by = inl by
of_three Sha256 By by = inr (inl by)
of_three Sha384 By by = inr (inr by)

-- numbers of one digest type are equal
pub one_number : (a b : ℕ) (supported : Supported) → digest_algorithm_of a ≡ Some supported → digest_algorithm_of b ≡ Some supported → a ≡ b
one_number a b supported p q =
    number_by a (a == 1) (a == 2) (a == 4) supported refl refl refl p
    ∙ sym (number_by b (b == 1) (b == 2) (b == 4) supported refl refl refl q)

-- two digest types are one, or one is stronger
pub compared : (s t : Supported) → IsStronger s t ⊎ (IsStronger t s ⊎ (s ≡ t))
compared Sha1 Sha1 = inr (inr refl)
compared Sha1 Sha256 = inr (inl (omega arith))
compared Sha256 Sha256 = inr (inr refl)
compared s Sha1 = inl (omega arith)
compared Sha384 Sha256 = inl (omega arith)
compared Sha384 Sha384 = inr (inr refl)
compared s Sha384 = inr (inl (omega arith))

-- a record with the digest type that leads is usable where its algorithm is supported
pub usable_leader : (records : List Ds) (leading : ℕ) (ds : Ds) → Leads records leading → ds.digest_type.0 ≡ leading
    → IsTrue (is_supported ds.algorithm.0) → IsUsable records ds
usable_leader records leading ds leads same algorithm =
    let P : ℕ → Type 0 = λ number. IsSupported number in
    record {
      algorithm = algorithm;
      digest_type = subst P (sym same) leads.supported;
      counts = λ ignored.
          let Q : ℕ → Type 0 = λ number. GoesBefore ignored.other.digest_type.0 number in
          leads.first ignored.other ignored.among (subst Q same ignored.before);
    }

-- a usable record has the digest type that leads
pub usable_leads : (records : List Ds) (leading : ℕ) (ds : Ds) → Leads records leading → Contains records ds → IsUsable records ds
    → ds.digest_type.0 ≡ leading
usable_leads records leading ds leads among usable =
    let type = usable.digest_type in
    let lead = leads.supported in
    elim (compared type.0 lead.0) [
      | inl stronger ↦ absurd (leads.first ds among (type.0, lead.0, type.1, lead.1, stronger))
      | inr (inl weaker) ↦
          absurd (usable.counts record { other = leads.ds; among = leads.among; before = (lead.0, type.0, ap digest_algorithm_of leads.is ∙ lead.1, type.1, weaker) })
      | inr (inr same) ↦ one_number ds.digest_type.0 leading lead.0 (type.1 ∙ ap Some same) lead.1
    ]

pub usable_ones : (records : List Ds) (leading : ℕ) → Leads records leading
    → (HasSupported records leading → HasUsable records) × (HasUsable records → HasSupported records leading)
usable_ones records leading leads = (
  λ has. record { ds = has.ds; among = has.among; usable = usable_leader records leading has.ds leads has.is has.algorithm },
  λ has. record { ds = has.ds; among = has.among; is = usable_leads records leading has.ds leads has.among has.usable; algorithm = has.usable.algorithm },
)

-- where no digest type leads nothing is usable
pub none_usable : (records : List Ds) → IsLeading records None → HasUsable records → ⊥
none_usable records none has = none has.ds has.among has.usable.digest_type
