-- The RRsets of a message that can be read are as those of a capture are.
use Rattle.std.proofs.Common.{◌≡◌, ℕ, ◌<◌, ◌==◌, Bool, true, false, cond, List, [], ◌∷◌, ◌++◌, length, map, take, refl, sym, ap, ◌∙◌, subst, arith, inl, inr, ⊎_elim}
use Rattle.std.specs.Prelude.{filter}
use Rattle.std.specs.Int.{w16, to_be_bytes}
use Rattle.std.specs.Int.Digits.{number_from_digits}
use Rattle.std.specs.List.{AllByRecursion}
use Rattle.std.specs.Str.{bytes_eq}
use Rattle.std.proofs.lemmas.List.{length-map}
use Rattle.std.proofs.lemmas.Bool.{and_parts, eqb-true}
use Rattle.std.proofs.lemmas.Slice.Eq.{bytes_eq-Decides}
use Rattle.dnsv_names.specs.Name.{Labels}
use Rattle.dnsv_names.specs.Octets.{number_at}
use Rattle.dnsv_message.specs.Fits.{FitsMessage, FitsRecord}
use Rattle.dnsv_message.specs.Message.{Contents, records_of}
use Rattle.dnsv_message.specs.Parts.{HasParts}
use Rattle.dnsv_message.specs.declared.record.Record.{Record}
use Rattle.dnsv_message.specs.declared.record.Section.{Section}
use Rattle.dnsv_message.specs.declared.record.Section.TheVariants.{Answer, Authority, Additional}
use Rattle.dnsv_names.specs.PartLaws.{recursion-append}
use Rattle.dnsv_records.specs.declared.rrsig.Rrsig.{Rrsig}
use Rattle.dnsv_records.specs.Rrsig.{IsRrsig}
use Rattle.dnsv_canonical.specs.Evidence.{IsReadable}
use Rattle.dnsv_canonical.specs.Rdata.{IsLaidOut, IsRdata, IsSignatureOver, IsWellFormed}
use Rattle.dnsv_canonical.specs.Rrsets.{is_grouped, same_rrset, is_signature, first_appearances, rrset_of, rrsets_in, message_rrsets}
use Rattle.dnsv_canonical.proofs.CanonicalLemmas.{IsMember, each_map}
use Rattle.dnsv_canonical.proofs.ListLemmas.{each_behind, each_chosen, each_front}
use Rattle.dnsv_canonical.proofs.GroupLemmas.{same_rrset_itself}
use Rattle.dnsv_canonical.proofs.EvidenceLemmas.{first_appearances_kept}

-- ---- a record that can be read

-- what is true of each record of a message whose records can be read
pub record IsGood (r : Record) : Type 0 where
  pub fits : FitsRecord r
  pub can : IsReadable r

each_good : (rs : List Record) → AllByRecursion FitsRecord rs → AllByRecursion IsReadable rs → AllByRecursion IsGood rs
each_good [] fits can = tt
each_good (r ∷ rs) fits can = (record { fits = fits.0; can = can.0 }, each_good rs fits.1 can.1)

-- ---- what an RRset's records hold

pub own_parts : (first r : Record) → FitsRecord r → is_grouped r ≡ true → same_rrset first r ≡ true → HasParts first.rtype.0 1 r.rdata
own_parts first r fits grouped same =
    let class : r.class.0 ≡ 1 = eqb-true _ _ (and_parts _ _ grouped).0 in
    let rtype : r.rtype.0 ≡ first.rtype.0 = sym (eqb-true _ _ (and_parts (first.rtype.0 == r.rtype.0) _ same).0) in
    subst (λ n. HasParts n 1 r.rdata) rtype (subst (λ n. HasParts r.rtype.0 n r.rdata) class fits.parts)

own_rdata : (first r : Record) → IsGood r → is_grouped r ≡ true → same_rrset first r ≡ true → IsRdata first.rtype.0 r.rdata
own_rdata first r good grouped same =
    let class : r.class.0 ≡ 1 = eqb-true _ _ (and_parts _ _ grouped).0 in
    let rtype : r.rtype.0 ≡ first.rtype.0 = sym (eqb-true _ _ (and_parts (first.rtype.0 == r.rtype.0) _ same).0) in
    record {
      octets = good.fits.octets;
      at_most_65535 = good.fits.size;
      parts = own_parts first r good.fits grouped same;
      laid_out = subst (λ n. IsLaidOut n r.rdata) rtype (good.can class);
    }

two_octets : (n : ℕ) → n < 65536 → number_from_digits 256 (to_be_bytes w16 n) ≡ n
two_octets n small = omega arith

-- RDATA that begins with the type's octets covers it
covered : (rtype : ℕ) (rdata : List ℕ) → rtype < 65536 → bytes_eq (to_be_bytes w16 rtype) (take 2 rdata) ≡ true → number_at rdata 0 2 ≡ rtype
covered rtype rdata small begins =
    ap (λ octets. number_from_digits 256 octets) (sym ((bytes_eq-Decides (to_be_bytes w16 rtype) (take 2 rdata)).0 begins)) ∙ two_octets rtype small

own_signature : (owner : Labels) (rtype : ℕ) → rtype < 65536 → (r : Record) → IsGood r → is_signature owner rtype r ≡ true → IsSignatureOver rtype r.rdata
own_signature owner rtype small r good signs =
    let covers = and_parts _ _ signs in
    let begins = and_parts _ _ covers.0 in
    let kinds = and_parts _ _ begins.0 in
    let found = (good.can (eqb-true _ _ kinds.1)).rrsig (eqb-true _ _ kinds.0) in
    record {
      octets = good.fits.octets;
      at_most_65535 = good.fits.size;
      rrsig = found.0;
      is = found.1;
      covers = found.1.type_covered ∙ covered rtype r.rdata small begins.1;
    }

-- a record is among those that are the same as it
some_same : (x : Record) (xs : List Record) → IsMember x xs → 0 < length (filter (same_rrset x) xs)
some_same x [] member = absurd member
some_same x (y ∷ ys) member = test (λ later. some_same x ys later) (same_rrset x y) refl where
  test : (IsMember x ys → 0 < length (filter (same_rrset x) ys)) → (same : Bool) → same_rrset x y ≡ same → 0 < length (cond same (y ∷ filter (same_rrset x) ys) (filter (same_rrset x) ys))
  test behind true is = omega arith
  test behind false is =
      ⊎_elim (λ here. let other : true ≡ false = sym (same_rrset_itself x) ∙ ap (same_rrset x) here ∙ is in cc) behind member

members_in : (ys xs : List Record) → ((x : Record) → IsMember x ys → IsMember x xs) → AllByRecursion (λ x. IsMember x xs) ys
members_in [] xs to = tt
members_in (y ∷ ys) xs to = (to y (inl refl), members_in ys xs (λ x later. to x (inr later)))

-- what is true of the first record of an RRset
pub record IsFirst (records : List Record) (first : Record) : Type 0 where
  pub good : IsGood first
  pub grouped : is_grouped first ≡ true
  pub member : IsMember first (filter is_grouped records)

first_of : (records ys : List Record) → AllByRecursion (λ r. IsGood r × (is_grouped r ≡ true)) ys → AllByRecursion (λ r. IsMember r (filter is_grouped records)) ys → AllByRecursion (IsFirst records) ys
first_of records [] good members = tt
first_of records (y ∷ ys) good members = (record { good = good.0.0; grouped = good.0.1; member = members.0 }, first_of records ys good.1 members.1)

firsts : (records : List Record) → AllByRecursion IsGood records → AllByRecursion (IsFirst records) (first_appearances same_rrset (filter is_grouped records))
firsts records good =
    first_appearances_kept same_rrset (IsFirst records) (filter is_grouped records)
    (first_of records (filter is_grouped records)
    (each_chosen is_grouped IsGood (λ r. IsGood r × (is_grouped r ≡ true)) (λ r is grouped. (is, grouped)) records good)
    (members_in (filter is_grouped records) (filter is_grouped records) (λ x member. member)))

rrset_well_formed : (number : ℕ) (section : Section) (records : List Record) (first : Record) → AllByRecursion IsGood records → IsFirst records first → IsWellFormed (rrset_of number section records first)
rrset_well_formed number section records first good is =
    let typed : first.rtype.0 < 65536 = omega (arith, is.good.fits.rtype) in
    record {
      typed = omega (arith, typed);
      forms = (and_parts (first.class.0 == 1) _ is.grouped).1;
      named = is.good.fits.name;
      not_empty = omega (arith, length-map (filter (same_rrset first) (filter is_grouped records)) (λ (r : Record). r.rdata), some_same first (filter is_grouped records) is.member);
      each_rdata =
          each_map (λ (r : Record). r.rdata) (IsRdata first.rtype.0) _
          (each_chosen (same_rrset first) (λ r. IsGood r × (is_grouped r ≡ true)) (λ r. IsRdata first.rtype.0 r.rdata) (λ r own. own_rdata first r own.0 own.1) (filter is_grouped records)
          (each_chosen is_grouped IsGood (λ r. IsGood r × (is_grouped r ≡ true)) (λ r own grouped. (own, grouped)) records good));
      each_signature =
          first_appearances_kept bytes_eq (IsSignatureOver first.rtype.0) _
          (each_map (λ (r : Record). r.rdata) (IsSignatureOver first.rtype.0) _
          (each_chosen (is_signature first.name first.rtype.0) IsGood (λ r. IsSignatureOver first.rtype.0 r.rdata) (own_signature first.name first.rtype.0 typed) records good));
    }

section_well_formed : (number : ℕ) (section : Section) (records ys : List Record) → AllByRecursion IsGood records → AllByRecursion (IsFirst records) ys → AllByRecursion IsWellFormed (map (rrset_of number section records) ys)
section_well_formed number section records [] good are = tt
section_well_formed number section records (y ∷ ys) good are =
    (rrset_well_formed number section records y good are.0, section_well_formed number section records ys good are.1)

-- the RRsets of a message whose records can be read
pub message_well_formed : (number : ℕ) (message : Contents) → FitsMessage message → AllByRecursion IsReadable (records_of message) → AllByRecursion IsWellFormed (message_rrsets number message)
message_well_formed number message fits can =
    let good = each_good (records_of message) fits.records can in
    let front = each_front IsGood (message.answer ++ message.authority) message.additional good in
    let answer = each_front IsGood message.answer message.authority front in
    let authority = each_behind IsGood message.answer message.authority front in
    let additional = each_behind IsGood (message.answer ++ message.authority) message.additional good in
    recursion-append IsWellFormed (rrsets_in number Answer message.answer ++ rrsets_in number Authority message.authority) (rrsets_in number Additional message.additional)
    (recursion-append IsWellFormed (rrsets_in number Answer message.answer) (rrsets_in number Authority message.authority)
    (section_well_formed number Answer message.answer _ answer (firsts message.answer answer))
    (section_well_formed number Authority message.authority _ authority (firsts message.authority authority)))
    (section_well_formed number Additional message.additional _ additional (firsts message.additional additional))

-- ---- what follows for signatures and lengths

abbrev pub HasRrsig : List ℕ → Type 0
HasRrsig rdata = (rrsig : Rrsig) × IsRrsig rdata rrsig

pub signatures_read : (rtype : ℕ) (signatures : List (List ℕ)) → AllByRecursion (IsSignatureOver rtype) signatures → AllByRecursion HasRrsig signatures
signatures_read rtype [] each = tt
signatures_read rtype (rdata ∷ others) each = ((each.0.rrsig, each.0.is), signatures_read rtype others each.1)

-- RDATA that is laid out as its type asks is a record of the type
pub laid_out_as : {T : Type 0} (R : List ℕ → T → Type 0) (rtype : ℕ) → ((rdata : List ℕ) → IsLaidOut rtype rdata → (value : T) × R rdata value) → (received : List (List ℕ))
    → AllByRecursion (IsLaidOut rtype) received → AllByRecursion (λ rdata. (value : T) × R rdata value) received
laid_out_as R rtype leads [] each = tt
laid_out_as R rtype leads (rdata ∷ others) each = (leads rdata each.0, laid_out_as R rtype leads others each.1)
