-- A whole NSEC3 chain of a zone proves each denial of its lookup, or that an unsigned delegation may be there.
use Rattle.std.proofs.Common.{◌≡◌, ◌≢◌, ℕ, ◌+◌, ◌<◌, ◌≤◌, ◌⊎◌, Bool, List, [], ◌∷◌, map, length, refl, sym, ap, ◌∙◌, inl, inr, ⊎_elim, arith, subst}
use Rattle.std.proofs.lemmas.Cmp.{tied_itself, nat_list_cmp_total}
use Rattle.std.specs.Prelude.{nat_eq}
use Rattle.std.specs.declared.cmp.Ordering.TheVariants.{Equal}
use Rattle.std.specs.Cmp.Lexicographic.{pointwise, bytes_decides}
use Rattle.std.specs.List.{AllByRecursion}
use Rattle.dnsv_names.specs.Name.{Labels, SameName, IsAtOrBelow, rightmost}
use Rattle.dnsv_names.specs.Order.{label_cmp, IsBelow}
use Rattle.dnsv_names.specs.Tree.{wildcard_of}
use Rattle.dnsv_names.specs.Circle.{Gap, has, IsSuccessor}
use Rattle.dnsv_names.specs.Tree.KeyLaws.{label_cmp_exact}
use Rattle.dnsv_names.specs.Circle.CircleLaws.{lies_in_a_gap_among}
use Rattle.dnsv_names.specs.Tree.TreeLaws.{same_at_or_below, at_or_below_trans, at_or_below_length, same_or_not, at_or_below_or_not, decided}
use Rattle.dnsv_names.specs.Tree.AncestorLaws.{rightmost_above, rightmost_below, rightmost_same, rightmost_length, rightmost_rightmost, rightmost_in_line}
use Rattle.dnsv_zones.specs.zones.TypeNumbers.{ns, cname, soa, ds, rrsig, nsec}
use Rattle.dnsv_zones.specs.Any.{Any}
use Rattle.dnsv_zones.specs.zones.Types.{IsClosed, Denies, IsUnsignedDelegation}
use Rattle.dnsv_zones.specs.zones.Zone.{Zone, Holds, IsNode, IsClosedAt}
use Rattle.dnsv_zones.specs.zones.Lookup.{IsElsewhere, IsClosestEncloser, IsSource, HasNoSource, IsLookup}
use Rattle.dnsv_zones.specs.zones.Lookup.Answer.{NoData, NoName}
use Rattle.dnsv_zones.specs.zones.Lookup.IsElsewhere.{outside}
use Rattle.dnsv_zones.specs.zones.Lookup.IsSource.{itself, wildcard}
use Rattle.dnsv_zones.specs.chains.NsecChain.{IsInBitmap, IsBitmapOf}
use Rattle.dnsv_zones.specs.chains.Nsec3Chain.{Nsec3Record, NameHash, IsUnsignedEnd, IsChained, IsInNsec3Chain, IsNsec3ChainOf, IsAsked, HasNoCollision}
use Rattle.dnsv_zones.specs.chains.Nsec3Chain.IsAsked.{itself as asked_above, wildcard as asked_wildcard}
use Rattle.dnsv_zones.specs.chains.Nsec3Chain.IsUnsignedEnd.{delegation, non_terminal}
use Rattle.dnsv_zones.specs.forms.Nsec3.{Matches, Covers, nsec3_words, IsCovered, IsOptedOut, OptOutForm}
use Rattle.dnsv_zones.specs.forms.Forms.{IsAbove, EndsAt, NoNameForm, NoDataForm, NoDataForms, UnsignedCutForm}
use Rattle.dnsv_zones.proofs.lemmas.AnyLemmas.{any_map, any_both}
use Rattle.dnsv_zones.proofs.lemmas.zones.ZoneLemmas.{holds_owner, holds_respects, owner_node, apex_node, node_above, node_not_below, node_respects, closest, name_no_node}
use Rattle.dnsv_zones.proofs.lemmas.zones.LookupLemmas.{one_encloser, open_above_here}
use Rattle.dnsv_zones.proofs.lemmas.zones.AnswerLemmas.{Decided, any_decided, HasMostLabels, most_labels_part}
use Rattle.dnsv_zones.proofs.lemmas.meaning.MeaningLemmas.{no_name, any_no_data}
use Rattle.dnsv_zones.proofs.lemmas.meaning.Nsec3Truth.{matched, absent, absent_or_opted_out, nsec3_true}
use Rattle.dnsv_zones.proofs.lemmas.chains.BitmapLemmas.{plain_type, bits_closed, denies_bits, may_deny_here, may_deny_wildcard}

-- a name of the chain with this hash
pub record Hashed (hash : NameHash) (names : List Labels) (value : List ℕ) : Type 0 where
  pub name : Labels
  pub is_chained : IsChained names name
  pub is_hash : hash.of name ≡ value

chained_first : (hash : NameHash) (first : Labels) (names : List Labels) (value : List ℕ) → Hashed hash names value → Hashed hash (first ∷ names) value
chained_first hash first names value some =
    record { name = some.name; is_chained = record { entry = inr some.is_chained.entry }; is_hash = some.is_hash }

member_hashed : (hash : NameHash) (names : List Labels) (value : List ℕ) → has label_cmp (map hash.of names) value → Hashed hash names value
member_hashed hash [] value some = absurd some
member_hashed hash (first ∷ names) value some =
    ⊎_elim (λ (tied : label_cmp value (hash.of first) ≡ Equal).
    record { name = first; is_chained = record { entry = inl refl }; is_hash = sym (label_cmp_exact value (hash.of first) tied) })
    (λ (rest : has label_cmp (map hash.of names) value). chained_first hash first names value (member_hashed hash names value rest))
    some

pub hashed_decided : (hash : NameHash) (names : List Labels) (value : List ℕ) → Decided (Hashed hash names value)
hashed_decided hash [] value = inr (λ some. some.is_chained.entry)
hashed_decided hash (first ∷ names) value =
    ⊎_elim (λ (same : hash.of first ≡ value). inl (record { name = first; is_chained = record { entry = inl refl }; is_hash = same }))
    (λ (other : ¬ (hash.of first ≡ value)).
    ⊎_elim (λ (later : Hashed hash names value). inl (chained_first hash first names value later))
    (λ (none : ¬ Hashed hash names value). inr (λ some.
    ⊎_elim (λ (here : SameName first some.name). other (hash.respects_case first some.name here ∙ some.is_hash))
    (λ (rest : Any (λ each. SameName each some.name) names).
    none (record { name = some.name; is_chained = record { entry = rest }; is_hash = some.is_hash }))
    some.is_chained.entry))
    (hashed_decided hash names value))
    (decided (pointwise nat_eq (hash.of first) value) (bytes_decides (hash.of first) value))

hashed_member : (hash : NameHash) (names : List Labels) (value : List ℕ) → Hashed hash names value → has label_cmp (map hash.of names) value
hashed_member hash [] value some = absurd some.is_chained.entry
hashed_member hash (first ∷ names) value some =
    ⊎_elim (λ (here : SameName first some.name).
    let same : hash.of first ≡ value = hash.respects_case first some.name here ∙ some.is_hash in
    inl (ap (label_cmp value) same ∙ tied_itself nat_list_cmp_total value))
    (λ (rest : Any (λ each. SameName each some.name) names).
    inr (hashed_member hash names value (record { name = some.name; is_chained = record { entry = rest }; is_hash = some.is_hash })))
    some.is_chained.entry

pub chained_decided : (names : List Labels) (name : Labels) → Decided (IsChained names name)
chained_decided names name =
    ⊎_elim (λ (some : Any (λ each. SameName each name) names). inl (record { entry = some }))
    (λ (none : ¬ Any (λ each. SameName each name) names). inr (λ chained. none chained.entry))
    (any_decided (λ each. SameName each name) (λ each. same_or_not each name) names)

chained_respects : (names : List Labels) (a b : Labels) → SameName a b → IsChained names a → IsChained names b
chained_respects names a b same chained =
    record { entry = any_map (λ each. SameName each a) (λ each. SameName each b) names (λ each there. there ∙ same) chained.entry }

-- a record of the chain covers the name
abbrev HasCover : Zone → NameHash → List Labels → List Nsec3Record → Labels → Type 0
HasCover zone hash names records x = Any (λ r. Covers hash r x × IsInNsec3Chain zone hash names r) records

module _ (zone : Zone) (apex : Labels) (hash : NameHash) (records : List Nsec3Record) (chain : IsNsec3ChainOf zone apex hash records) where
  inside : (x : Labels) → IsAtOrBelow x zone.apex → IsAtOrBelow x apex
  inside x within = at_or_below_trans x zone.apex apex within (same_at_or_below zone.apex apex (sym chain.has_records.same_apex))

  -- the apex is of the chain
  no_end : ¬ IsUnsignedEnd zone zone.apex
  no_end (delegation unsigned) = unsigned.delegation.no_apex chain.has_records.well_formed.apex
  no_end (non_terminal none all) = none (holds_owner zone zone.apex soa chain.has_records.well_formed.apex)

  apex_chained : IsChained chain.has_records.names zone.apex
  apex_chained =
      ⊎_elim (λ (chained : IsChained chain.has_records.names zone.apex). chained) (λ (end : IsUnsignedEnd zone zone.apex). absurd (no_end end))
      (chain.has_records.chain_names.all zone.apex (apex_node zone chain.has_records.well_formed))

  -- the record of a name of the chain
  record_at : (name : Labels) → IsChained chain.has_records.names name → Any (λ r. (r.hash ≡ hash.of name) × IsInNsec3Chain zone hash chain.has_records.names r) records
  record_at name chained =
      any_both (λ r. r.hash ≡ hash.of name) (IsInNsec3Chain zone hash chain.has_records.names) records chain.has_records.in_chain (chain.each_name name chained)

  -- what has no hash of the chain is covered
  covered : (x : Labels) → ¬ Hashed hash chain.has_records.names (hash.of x) → HasCover zone hash chain.has_records.names records x
  covered x none =
      let at_apex : Hashed hash chain.has_records.names (hash.of zone.apex) = record { name = zone.apex; is_chained = apex_chained; is_hash = refl } in
      let some = lies_in_a_gap_among nat_list_cmp_total (map hash.of chain.has_records.names) (hash.of zone.apex) (hash.of x)
      (record { there = hashed_member hash chain.has_records.names (hash.of zone.apex) at_apex })
      (λ member. none (member_hashed hash chain.has_records.names (hash.of x) member.there)) in
      let owner = member_hashed hash chain.has_records.names some.0 some.1.there in
      any_map (λ r. (r.hash ≡ hash.of owner.name) × IsInNsec3Chain zone hash chain.has_records.names r)
      (λ r. Covers hash r x × IsInNsec3Chain zone hash chain.has_records.names r) records
      (λ r there.
      let same : some.0 ≡ r.hash = sym (there.0 ∙ owner.is_hash) in (
        record {
          same_parameters = there.1.same_parameters;
          gap = subst (λ (h : List ℕ). Gap label_cmp h r.next (hash.of x)) same
              (some.2 r.next (subst (λ (h : List ℕ). IsSuccessor label_cmp (map hash.of chain.has_records.names) h r.next) (sym same) there.1.next));
        },
        there.1,
      ))
      (record_at owner.name owner.is_chained)

  module _ (name : Labels) (apart : HasNoCollision zone hash name) where
    -- an asked name is of the chain, or covered
    chained_or_covered : (x : Labels) → IsAsked name x → IsChained chain.has_records.names x ⊎ HasCover zone hash chain.has_records.names records x
    chained_or_covered x asked =
        ⊎_elim (λ (some : Hashed hash chain.has_records.names (hash.of x)).
        inl (chained_respects chain.has_records.names some.name x
        (apart x some.name asked (chain.has_records.chain_names.nodes some.name some.is_chained) some.is_hash) some.is_chained))
        (λ (none : ¬ Hashed hash chain.has_records.names (hash.of x)). inr (covered x none))
        (hashed_decided hash chain.has_records.names (hash.of x))

    -- what a bitmap says of a name of the chain
    types_at : (x : Labels) (Says : (ℕ → Type 0) → Type 0) → IsAsked name x → IsChained chain.has_records.names x → ((types : ℕ → Bool) → IsBitmapOf zone x types → Says (IsInBitmap types)) → Any (λ r. Matches hash r x × Says (IsInBitmap r.types)) records
    types_at x Says asked chained say =
        any_map (λ r. (r.hash ≡ hash.of x) × IsInNsec3Chain zone hash chain.has_records.names r) (λ r. Matches hash r x × Says (IsInBitmap r.types)) records
        (λ r there.
        let matches : Matches hash r x = record { same_parameters = there.1.same_parameters; same_hash = there.0 } in
        (matches, say r.types (matched zone hash chain.has_records.names chain.has_records.chain_names r there.1 name x apart asked matches).types))
        (record_at x chained)

    encloser_at : (x : Labels) → IsAsked name x → IsChained chain.has_records.names x → ¬ IsClosedAt zone x → (nsec3_words hash records).Encloser x
    encloser_at x asked chained open_here =
        types_at x (λ has. ¬ IsClosed has) asked chained (λ types bitmap closed. open_here (bits_closed zone x types bitmap closed))

    -- a cover is without Opt-Out, or with it, and of a node always with it
    without_opt_out_or_opted_out : (x : Labels) → HasCover zone hash chain.has_records.names records x
        → (((nsec3_words hash records).Absent x × ¬ IsNode zone x) ⊎ (IsOptedOut hash records x × IsCovered hash records x))
    without_opt_out_or_opted_out x some =
        let cover : IsCovered hash records x =
        any_map (λ r. Covers hash r x × IsInNsec3Chain zone hash chain.has_records.names r) (λ r. Covers hash r x) records (λ r both. both.0) some in
        ⊎_elim (λ (none : (nsec3_words hash records).Absent x). inl (none, absent zone hash chain.has_records.names records chain.has_records.in_chain x none))
        (λ (opted : IsOptedOut hash records x). inr (opted, cover)) (absent_or_opted_out hash x records cover)

    asked_part : (labels : ℕ) → IsAsked name (rightmost name labels)
    asked_part labels = asked_above (rightmost name labels) (rightmost_above name labels)

    asked_star : (labels : ℕ) → labels < length name → IsAsked name (wildcard_of (rightmost name labels))
    asked_star labels proper = asked_wildcard (rightmost name labels) (rightmost_below name labels proper)

    -- the closest name of the chain above, where the name itself is none of it
    pub record Above (labels : ℕ) : Type 0 where
      pub above : IsAbove apex name labels
      pub node : IsNode zone (rightmost name labels)
      pub encloser : (nsec3_words hash records).Encloser (rightmost name labels)
      pub cover : HasCover zone hash chain.has_records.names records (rightmost name (labels + 1))

    above_by : (labels : ℕ) → labels < length name → IsChained chain.has_records.names (rightmost name labels) → ¬ IsChained chain.has_records.names (rightmost name (labels + 1)) → ¬ IsClosedAt zone (rightmost name labels) → Above labels
    above_by labels proper chained next open_here =
        let node : IsNode zone (rightmost name labels) = chain.has_records.chain_names.nodes (rightmost name labels) chained in
        record {
          above = record { proper = proper; within = inside (rightmost name labels) node.within };
          node = node;
          encloser = encloser_at (rightmost name labels) (asked_part labels) chained open_here;
          cover =
              ⊎_elim (λ (is : IsChained chain.has_records.names (rightmost name (labels + 1))). absurd (next is))
              (λ (some : HasCover zone hash chain.has_records.names records (rightmost name (labels + 1))). some)
              (chained_or_covered (rightmost name (labels + 1)) (asked_part (labels + 1)));
        }

    part_above : IsAtOrBelow name zone.apex → ¬ IsChained chain.has_records.names name → HasMostLabels (IsChained chain.has_records.names) name
    part_above within none =
        most_labels_part (IsChained chain.has_records.names) (chained_decided chain.has_records.names) name (length zone.apex) (at_or_below_length name zone.apex within)
        (chained_respects chain.has_records.names zone.apex (rightmost name (length zone.apex)) (sym (rightmost_same name zone.apex within)) apex_chained) none

    opted_out_form : (labels : ℕ) → Above labels → IsOptedOut hash records (rightmost name (labels + 1)) ⊎ IsOptedOut hash records (wildcard_of (rightmost name labels)) → OptOutForm hash records apex name labels
    opted_out_form labels some opted = record {
      above = some.above;
      encloser = some.encloser;
      next_closer = any_map (λ r. Covers hash r (rightmost name (labels + 1)) × IsInNsec3Chain zone hash chain.has_records.names r) (λ r. Covers hash r (rightmost name (labels + 1))) records (λ r both. both.0) some.cover;
      opted_out = opted;
    }

    -- the name ends at its closest name of the chain, or Opt-Out stands there
    ends_or_opted_out : (labels : ℕ) → Above labels → (EndsAt (nsec3_words hash records) apex name labels × IsClosestEncloser zone name labels) ⊎ OptOutForm hash records apex name labels
    ends_or_opted_out labels some =
        ⊎_elim (λ (without_opt_out : (nsec3_words hash records).Absent (rightmost name (labels + 1)) × ¬ IsNode zone (rightmost name (labels + 1))). inl (
          record { above = some.above; encloser = some.encloser; next_closer = without_opt_out.0 },
          closest zone name labels some.above.proper some.node without_opt_out.1,
        ))
        (λ (opted : IsOptedOut hash records (rightmost name (labels + 1)) × IsCovered hash records (rightmost name (labels + 1))). inr (opted_out_form labels some (inl opted.0)))
        (without_opt_out_or_opted_out (rightmost name (labels + 1)) some.cover)

    here_above : (t : ℕ) → ¬ IsElsewhere zone name t → (part : HasMostLabels (IsChained chain.has_records.names) name) → Above part.labels
    here_above t here part =
        above_by part.labels part.proper part.holds (part.most_labels (part.labels + 1) (omega arith) (omega (arith, part.proper)))
        (λ closed. open_above_here zone name t here name (rightmost name part.labels) (same_at_or_below name name refl) (rightmost_below name part.labels part.proper) closed)

    no_name_from : (labels t : ℕ) → Above labels → HasNoSource zone name → NoNameForm (nsec3_words hash records) apex name ⊎ ((n : ℕ) × OptOutForm hash records apex name n)
    no_name_from labels t some none =
        let star = wildcard_of (rightmost name labels) in
        ⊎_elim (λ (ends : EndsAt (nsec3_words hash records) apex name labels × IsClosestEncloser zone name labels).
        let no_star : ¬ IsNode zone star =
        subst (λ (n : ℕ). ¬ IsNode zone (wildcard_of (rightmost name n))) (one_encloser zone name none.labels labels none.encloser ends.1) none.no_wildcard in
        ⊎_elim (λ (chained : IsChained chain.has_records.names star). absurd (no_star (chain.has_records.chain_names.nodes star chained)))
        (λ (cover : HasCover zone hash chain.has_records.names records star).
        ⊎_elim (λ (without_opt_out : (nsec3_words hash records).Absent star × ¬ IsNode zone star). inl (record { labels = labels; ends = ends.0; wildcard = without_opt_out.0 }))
        (λ (opted : IsOptedOut hash records star × IsCovered hash records star). inr (labels, opted_out_form labels some (inr opted.0)))
        (without_opt_out_or_opted_out star cover))
        (chained_or_covered star (asked_star labels some.above.proper)))
        (λ (form : OptOutForm hash records apex name labels). inr (labels, form))
        (ends_or_opted_out labels some)

    within_zone : (t : ℕ) → ¬ IsElsewhere zone name t → IsAtOrBelow name zone.apex
    within_zone t here =
        ⊎_elim (λ (within : IsAtOrBelow name zone.apex). within) (λ (out : ¬ IsAtOrBelow name zone.apex). absurd (here (outside out)))
        (at_or_below_or_not name zone.apex)

    pub no_name_proved : (t : ℕ) → IsLookup zone name t NoName → NoNameForm (nsec3_words hash records) apex name ⊎ ((labels : ℕ) × OptOutForm hash records apex name labels)
    no_name_proved t lookup =
        let none : ¬ IsChained chain.has_records.names name = λ chained.
        name_no_node zone name lookup.1.labels lookup.1.encloser (chain.has_records.chain_names.nodes name chained) in
        let part = part_above (within_zone t lookup.0) none in
        no_name_from part.labels t (here_above t lookup.0 part) lookup.1

    -- at a name of the chain its record says it
    no_data_here : (t : ℕ) → t ≢ rrsig → t ≢ nsec → ¬ IsElsewhere zone name t → IsChained chain.has_records.names name → ¬ Holds zone name t → ¬ Holds zone name cname → NoDataForm (nsec3_words hash records) apex name t
    no_data_here t other another here chained no_type no_alias = record {
      within = inside name (within_zone t here);
      types = types_at name (λ has. Denies has t) (asked_above name (same_at_or_below name name refl)) chained
          (λ types bitmap. denies_bits zone name types t other another bitmap (may_deny_here zone name t (chain.has_records.well_formed) here no_type no_alias));
    }

    no_data_at_star : (labels t : ℕ) → t ≢ rrsig → t ≢ nsec → Above labels → EndsAt (nsec3_words hash records) apex name labels → IsNode zone (wildcard_of (rightmost name labels)) → ¬ Holds zone (wildcard_of (rightmost name labels)) t → ¬ Holds zone (wildcard_of (rightmost name labels)) cname → NoDataForms (nsec3_words hash records) apex name t ⊎ ((n : ℕ) × OptOutForm hash records apex name n)
    no_data_at_star labels t other another some ends node no_type no_alias =
        let star = wildcard_of (rightmost name labels) in
        ⊎_elim (λ (chained : IsChained chain.has_records.names star). inl (inr (inr (inl (record {
          labels = labels;
          ends = ends;
          types = types_at star (λ has. Denies has t) (asked_star labels some.above.proper) chained
              (λ types bitmap. denies_bits zone star types t other another bitmap (may_deny_wildcard zone (rightmost name labels) t chain.has_records.well_formed chain.wildcards some.node.within no_type no_alias));
        })))))
        (λ (cover : HasCover zone hash chain.has_records.names records star).
        ⊎_elim (λ (without_opt_out : (nsec3_words hash records).Absent star × ¬ IsNode zone star). absurd (without_opt_out.1 node))
        (λ (opted : IsOptedOut hash records star × IsCovered hash records star). inr (labels, opted_out_form labels some (inr opted.0)))
        (without_opt_out_or_opted_out star cover))
        (chained_or_covered star (asked_star labels some.above.proper))

    no_data_from : (labels t : ℕ) (source : Labels) → t ≢ rrsig → t ≢ nsec → Above labels → IsSource zone name source → ¬ Holds zone source t → ¬ Holds zone source cname → NoDataForms (nsec3_words hash records) apex name t ⊎ ((n : ℕ) × OptOutForm hash records apex name n)
    no_data_from labels t source other another some (itself node) no_type no_alias =
        ⊎_elim (λ (ends : EndsAt (nsec3_words hash records) apex name labels × IsClosestEncloser zone name labels). absurd (name_no_node zone name labels ends.1 node))
        (λ (form : OptOutForm hash records apex name labels). inr (labels, form))
        (ends_or_opted_out labels some)
    no_data_from labels t source other another some (wildcard n encloser node) no_type no_alias =
        ⊎_elim (λ (ends : EndsAt (nsec3_words hash records) apex name labels × IsClosestEncloser zone name labels).
        let same : n ≡ labels = one_encloser zone name n labels encloser ends.1 in
        no_data_at_star labels t other another some ends.0
        (subst (λ (k : ℕ). IsNode zone (wildcard_of (rightmost name k))) same node)
        (subst (λ (k : ℕ). ¬ Holds zone (wildcard_of (rightmost name k)) t) same no_type)
        (subst (λ (k : ℕ). ¬ Holds zone (wildcard_of (rightmost name k)) cname) same no_alias))
        (λ (form : OptOutForm hash records apex name labels). inr (labels, form))
        (ends_or_opted_out labels some)

    at_source : (t : ℕ) (source : Labels) → t ≢ rrsig → t ≢ nsec → ¬ IsElsewhere zone name t → IsChained chain.has_records.names name → IsSource zone name source → ¬ Holds zone source t → ¬ Holds zone source cname → NoDataForm (nsec3_words hash records) apex name t
    at_source t source other another here chained (itself node) no_type no_alias = no_data_here t other another here chained no_type no_alias
    at_source t source other another here chained (wildcard n encloser node) no_type no_alias =
        absurd (name_no_node zone name n encloser (chain.has_records.chain_names.nodes name chained))

    pub no_data_proved : (t : ℕ) (source : Labels) → t ≢ rrsig → t ≢ nsec → IsLookup zone name t (NoData source) → NoDataForms (nsec3_words hash records) apex name t ⊎ ((labels : ℕ) × OptOutForm hash records apex name labels)
    no_data_proved t source other another lookup =
        ⊎_elim (λ (chained : IsChained chain.has_records.names name).
        inl (inl (at_source t source other another lookup.0 chained lookup.1.0 lookup.1.1 lookup.1.2)))
        (λ (none : ¬ IsChained chain.has_records.names name).
        let part = part_above (within_zone t lookup.0) none in
        no_data_from part.labels t source other another (here_above t lookup.0 part) lookup.1.0 lookup.1.1 lookup.1.2)
        (chained_decided chain.has_records.names name)

    -- a delegation without DS is told, or Opt-Out stands above it
    told_cut : (cut : Labels) → IsAtOrBelow name cut → IsUnsignedDelegation (Holds zone cut) → IsChained chain.has_records.names cut → UnsignedCutForm (nsec3_words hash records) apex name cut
    told_cut cut under unsigned chained = record {
      at_or_above = under;
      below_apex = (
        inside cut (chain.has_records.well_formed.within cut (holds_owner zone cut ns unsigned.delegation.servers)),
        λ same. unsigned.delegation.no_apex (holds_respects zone zone.apex cut soa (sym (same ∙ chain.has_records.same_apex)) chain.has_records.well_formed.apex),
      );
      types = types_at cut IsUnsignedDelegation (asked_above cut under) chained (λ types bitmap. record {
        delegation = record {
          servers = bitmap.all ns unsigned.delegation.servers;
          no_apex = λ bit. unsigned.delegation.no_apex (plain_type zone cut types soa (λ is. omega arith) (λ is. omega arith) bitmap bit);
        };
        no_ds = λ bit. unsigned.no_ds (plain_type zone cut types ds (λ is. omega arith) (λ is. omega arith) bitmap bit);
      });
    }

    opted_out_above : (cut : Labels) → IsAtOrBelow name cut → IsNode zone cut → ¬ IsChained chain.has_records.names cut → (labels : ℕ) × OptOutForm hash records apex name labels
    opted_out_above cut under node none =
        let size = length cut in
        let long : size ≤ length name = at_or_below_length name cut under in
        let same : SameName (rightmost name size) cut = rightmost_same name cut under in
        let part_node : IsNode zone (rightmost name size) = node_respects zone cut (rightmost name size) (sym same) node in
        let size_part : length (rightmost name size) ≡ size = rightmost_length name size long in
        let within : IsAtOrBelow (rightmost name size) zone.apex = part_node.within in
        let no_part : ¬ IsChained chain.has_records.names (rightmost name size) = λ chained. none (chained_respects chain.has_records.names (rightmost name size) cut same chained) in
        let part : HasMostLabels (IsChained chain.has_records.names) (rightmost name size) =
        most_labels_part (IsChained chain.has_records.names) (chained_decided chain.has_records.names) (rightmost name size) (length zone.apex)
        (at_or_below_length (rightmost name size) zone.apex within)
        (chained_respects chain.has_records.names zone.apex (rightmost (rightmost name size) (length zone.apex)) (sym (rightmost_same (rightmost name size) zone.apex within)) apex_chained)
        no_part in
        let labels = part.labels in
        let fewer : labels < size = omega (arith, part.proper) in
        let ce : rightmost (rightmost name size) labels ≡ rightmost name labels = rightmost_rightmost name size labels (omega arith) in
        let nc : rightmost (rightmost name size) (labels + 1) ≡ rightmost name (labels + 1) = rightmost_rightmost name size (labels + 1) (omega arith) in
        let open_here : ¬ IsClosedAt zone (rightmost name labels) = λ closed.
        node_not_below zone (rightmost name labels) (rightmost name size) chain.has_records.well_formed closed part_node
        (subst (λ (above : Labels). IsBelow (rightmost name size) above) ce (rightmost_below (rightmost name size) labels part.proper)) in
        let some : Above labels =
        above_by labels (omega arith) (subst (λ (x : Labels). IsChained chain.has_records.names x) ce part.holds)
        (subst (λ (x : Labels). ¬ IsChained chain.has_records.names x) nc (part.most_labels (labels + 1) (omega arith) (omega arith))) open_here in
        let next : IsNode zone (rightmost name (labels + 1)) =
        node_above zone (rightmost name size) (rightmost name (labels + 1)) part_node (rightmost_in_line name size (labels + 1) (omega arith))
        (at_or_below_trans (rightmost name (labels + 1)) (rightmost name labels) zone.apex (rightmost_in_line name (labels + 1) labels (omega arith)) some.node.within) in (
          labels,
          ⊎_elim (λ (without_opt_out : (nsec3_words hash records).Absent (rightmost name (labels + 1)) × ¬ IsNode zone (rightmost name (labels + 1))). absurd (without_opt_out.1 next))
              (λ (opted : IsOptedOut hash records (rightmost name (labels + 1)) × IsCovered hash records (rightmost name (labels + 1))). opted_out_form labels some (inl opted.0))
              (without_opt_out_or_opted_out (rightmost name (labels + 1)) some.cover),
        )

    pub unsigned_cut_proved : (cut : Labels) → IsAtOrBelow name cut → IsUnsignedDelegation (Holds zone cut) → UnsignedCutForm (nsec3_words hash records) apex name cut ⊎ ((labels : ℕ) × OptOutForm hash records apex name labels)
    unsigned_cut_proved cut under unsigned =
        ⊎_elim (λ (chained : IsChained chain.has_records.names cut). inl (told_cut cut under unsigned chained))
        (λ (none : ¬ IsChained chain.has_records.names cut).
        inr (opted_out_above cut under
        (owner_node zone cut chain.has_records.well_formed (holds_owner zone cut ns unsigned.delegation.servers)) none))
        (chained_decided chain.has_records.names cut)

    -- and nothing else
    pub no_name_meant : (t : ℕ) → NoNameForm (nsec3_words hash records) apex name → IsLookup zone name t NoName
    no_name_meant t form =
        no_name zone (nsec3_words hash records) apex name chain.has_records.well_formed chain.has_records.same_apex
        (nsec3_true zone hash chain.has_records.names records name chain.has_records.well_formed chain.has_records.chain_names apart chain.has_records.in_chain) t form

    pub no_data_meant : (t : ℕ) → NoDataForms (nsec3_words hash records) apex name t → (source : Labels) × IsLookup zone name t (NoData source)
    no_data_meant t form =
        any_no_data zone (nsec3_words hash records) apex name chain.has_records.well_formed chain.has_records.same_apex
        (nsec3_true zone hash chain.has_records.names records name chain.has_records.well_formed chain.has_records.chain_names apart chain.has_records.in_chain) t form

-- without the Opt-Out flag no such form stands
pub no_opt_out : (hash : NameHash) (records : List Nsec3Record) (apex name : Labels) (labels : ℕ) → AllByRecursion (λ r. r.flags ≡ 0) records → ¬ OptOutForm hash records apex name labels
no_opt_out hash records apex name labels all form =
    ⊎_elim (none (rightmost name (labels + 1)) records all) (none (wildcard_of (rightmost name labels)) records all) form.opted_out
  where
    none : (x : Labels) (list : List Nsec3Record) → AllByRecursion (λ r. r.flags ≡ 0) list → ¬ IsOptedOut hash list x
    none x [] every some = some
    none x (r ∷ list) every some =
        ⊎_elim (λ (here : Covers hash r x × (r.flags ≢ 0)). here.1 every.0) (λ (rest : IsOptedOut hash list x). none x list every.1 rest) some
