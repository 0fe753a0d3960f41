-- Canonical form in terms of names, and that RDATA of messages has them.
use Rattle.std.proofs.Common.{◌≡◌, ℕ, suc, ◌-◌, ◌==◌, Bool, true, false, List, [], ◌∷◌, ◌++◌, length, map, refl, sym, ap, ◌∙◌, subst, arith, append_assoc, length-append, if◌then◌else◌, Some, None}
use Rattle.std.specs.Prelude.{Contains, flat_map, filter, unwrap_or}
use Rattle.std.specs.Char.{to_ascii_lowercase}
use Rattle.std.specs.List.{AllByRecursion, list_any}
use Rattle.std.proofs.lemmas.Bool.{eqb-true}
use Rattle.std.proofs.lemmas.List.{take_at, drop_at, map-append}
use Rattle.std.proofs.lemmas.List.Elements.{All-contains, All-from_recursion}
use Rattle.std.proofs.lemmas.Map.Views.{Contains-from_any}
use Rattle.dnsv_names.specs.Name.{Labels, IsName, wire, lower_case}
use Rattle.dnsv_names.specs.Name.WireLaws.{lower_case-wire}
use Rattle.dnsv_message.specs.declared.record.Record.{Record}
use Rattle.dnsv_message.specs.declared.record.Section.{Section}
use Rattle.dnsv_message.specs.declared.record.Section.TheVariants.{Answer, Authority, Additional}
use Rattle.dnsv_message.specs.Grammar.{IsMessage, IsTail}
use Rattle.dnsv_message.specs.Message.{Contents, records_of}
use Rattle.dnsv_message.specs.Fits.{FitsMessage, FitsRecord}
use Rattle.dnsv_message.specs.Parts.{AreParts, HasParts, head_size, rdata_of, tail_size}
use Rattle.dnsv_names.specs.PartLaws.{recursion-append}
use Rattle.dnsv_canonical.specs.Rrsets.{ReceivedRrset, is_grouped, same_rrset, rrset_of, rrsets_in, message_rrsets, rrsets_from}
use Rattle.dnsv_canonical.proofs.CanonicalLemmas.{each_map}
use Rattle.dnsv_canonical.proofs.ReadableLemmas.WellFormedLemmas.{own_parts}
use Rattle.dnsv_canonical.proofs.ListLemmas.{each_behind, each_chosen, each_front}
use Rattle.dnsv_canonical.specs.CanonicalRdata.{lowered_types, lowered_but_last, names_lowered, canonical_form}

-- ---- the form of RDATA that is laid out

lower_names : (names : List Labels) → AllByRecursion IsName names → map to_ascii_lowercase (flat_map wire names) ≡ flat_map wire (map lower_case names)
lower_names [] each = refl
lower_names (name ∷ names) each =
    map-append to_ascii_lowercase (wire name) (flat_map wire names) ∙ (λ i. lower_case-wire name each.0.each i ++ lower_names names each.1 i)

lowered_end : (behind : ℕ) (octets end : List ℕ) → length end ≡ behind → lowered_but_last behind (octets ++ end) ≡ map to_ascii_lowercase octets ++ end
lowered_end behind octets end size =
    let upto : length (octets ++ end) - behind ≡ length octets = omega (arith, size, length-append octets end) in
    let place = length (octets ++ end) - behind in
    (λ i. map to_ascii_lowercase (take_at octets end place (sym upto) i) ++ drop_at octets end place (sym upto) i)

module _ (before : List ℕ) (names : List Labels) (behind : List ℕ) where
  abbrev Lowers : ℕ → Type 0
  Lowers rtype =
      AreParts rtype 1 before names behind → canonical_form rtype (rdata_of before names behind) ≡ rdata_of before (map lower_case names) behind

  by_sizes : (rtype head tail : ℕ) → head_size rtype 1 ≡ head → tail_size rtype 1 ≡ Some tail → AreParts rtype 1 before names behind
      → names_lowered (Some (head, tail)) (rdata_of before names behind) ≡ rdata_of before (map lower_case names) behind
  by_sizes rtype head tail at_head at_tail parts =
      let rest : List ℕ = flat_map wire names ++ behind in
      let headed : length before ≡ head = parts.head ∙ at_head in
      let ends : length behind ≡ tail = subst (λ size. IsTail size (length behind)) at_tail parts.tail in
      ap (λ rdata. names_lowered (Some (head, tail)) rdata) (append_assoc before (flat_map wire names) behind)
      ∙ (λ i. take_at before rest head headed i ++ lowered_but_last tail (drop_at before rest head headed i))
      ∙ ap (λ octets. before ++ octets) (lowered_end tail (flat_map wire names) behind ends ∙ ap (λ octets. octets ++ behind) (lower_names names parts.each))
      ∙ sym (append_assoc before (flat_map wire (map lower_case names)) behind)

  -- NS, CNAME, SOA, PTR, MX, SRV and DNAME
  each_lowers : AllByRecursion Lowers lowered_types
  each_lowers = (
    by_sizes 2 0 0 refl refl,
    (by_sizes 5 0 0 refl refl, (by_sizes 6 0 20 refl refl, (by_sizes 12 0 0 refl refl, (by_sizes 15 2 0 refl refl, (by_sizes 33 6 0 refl refl, (by_sizes 39 0 0 refl refl, tt)))))),
  )

pub lowered_types_lower : (rtype : ℕ) → Contains lowered_types rtype → (before : List ℕ) (names : List Labels) (behind : List ℕ)
    → AreParts rtype 1 before names behind → canonical_form rtype (rdata_of before names behind) ≡ rdata_of before (map lower_case names) behind
lowered_types_lower rtype listed before names behind =
    All-contains (Lowers before names behind) lowered_types rtype (All-from_recursion (Lowers before names behind) lowered_types (each_lowers before names behind)) listed

pub other_types_keep : (rtype : ℕ) → ¬ Contains lowered_types rtype → (rdata : List ℕ) → canonical_form rtype rdata ≡ rdata
other_types_keep rtype none rdata = test (list_any (λ other. other == rtype) lowered_types) refl where
  test : (is : Bool) → list_any (λ other. other == rtype) lowered_types ≡ is
      → names_lowered (if is then Some (head_size rtype 1, unwrap_or (tail_size rtype 1) 0) else None) rdata ≡ rdata
  test true is = absurd (none (Contains-from_any {eq = λ q other. other == q} (λ x y same. sym (eqb-true y x same)) rtype lowered_types is))
  test false is = refl

-- ---- the RDATA of messages

-- what holds of each RRset of a section whose records are of a kind holds of each RRset of a message of such records
module _ (IsKind : Record → Type 0) (P : ReceivedRrset → Type 0)
    (one : (number : ℕ) (section : Section) (records : List Record) (first : Record) → AllByRecursion IsKind records → P (rrset_of number section records first)) where
  each_in_section : (number : ℕ) (section : Section) (records firsts : List Record) → AllByRecursion IsKind records → AllByRecursion P (map (rrset_of number section records) firsts)
  each_in_section number section records [] each = tt
  each_in_section number section records (first ∷ firsts) each = (one number section records first each, each_in_section number section records firsts each)

  pub each_rrset : (number : ℕ) (message : Contents) → AllByRecursion IsKind (records_of message) → AllByRecursion P (message_rrsets number message)
  each_rrset number message each =
      let front = each_front IsKind (message.answer ++ message.authority) message.additional each in
      recursion-append P (rrsets_in number Answer message.answer ++ rrsets_in number Authority message.authority) (rrsets_in number Additional message.additional)
      (recursion-append P (rrsets_in number Answer message.answer) (rrsets_in number Authority message.authority)
      (each_in_section number Answer message.answer _ (each_front IsKind message.answer message.authority front))
      (each_in_section number Authority message.authority _ (each_behind IsKind message.answer message.authority front)))
      (each_in_section number Additional message.additional _ (each_behind IsKind (message.answer ++ message.authority) message.additional each))

abbrev AllHaveParts : ReceivedRrset → Type 0
AllHaveParts rrset = AllByRecursion (HasParts rrset.rtype 1) rrset.rdata

rrset_parts : (number : ℕ) (section : Section) (records : List Record) (first : Record) → AllByRecursion FitsRecord records → AllHaveParts (rrset_of number section records first)
rrset_parts number section records first each =
    each_map (λ (r : Record). r.rdata) (HasParts first.rtype.0 1) _
    (each_chosen (same_rrset first) (λ r. FitsRecord r × (is_grouped r ≡ true)) (λ r. HasParts first.rtype.0 1 r.rdata) (λ r fits. own_parts first r fits.0 fits.1) (filter is_grouped records)
    (each_chosen is_grouped FitsRecord (λ r. FitsRecord r × (is_grouped r ≡ true)) (λ r fits grouped. (fits, grouped)) records each))

pub messages_parts : ((message : Contents) → IsMessage message → FitsMessage message) → (number : ℕ) (messages : List Contents) → AllByRecursion IsMessage messages
    → AllByRecursion (λ rrset. AllByRecursion (HasParts rrset.rtype 1) rrset.rdata) (rrsets_from number messages)
messages_parts fit number [] are = tt
messages_parts fit number (message ∷ messages) are =
    recursion-append AllHaveParts (message_rrsets number message) (rrsets_from (suc number) messages)
    (each_rrset FitsRecord AllHaveParts rrset_parts number message (fit message are.0).records)
    (messages_parts fit (suc number) messages are.1)
