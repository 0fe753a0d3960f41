-- The whole NSEC chain of a zone proves each denial of its lookup.
use Rattle.std.proofs.Common.{◌≢◌, ℕ, ◌+◌, Bool, List, sym, ◌∙◌, inl, inr, ⊎_elim, arith}
use Rattle.std.proofs.lemmas.Cmp.{tied_itself}
use Rattle.dnsv_names.specs.Name.{Labels, SameName, IsAtOrBelow, rightmost}
use Rattle.dnsv_names.specs.Order.{IsBelow}
use Rattle.dnsv_names.specs.Order.OrderLaws.{canonical_cmp_total, SameName_Equal}
use Rattle.dnsv_names.specs.Tree.{wildcard_of}
use Rattle.dnsv_names.specs.Circle.CircleLaws.{gap_respects, successor_respects, lies_in_a_gap_among}
use Rattle.dnsv_names.specs.Circle.NameCircleLaws.{next_at_or_below}
use Rattle.dnsv_names.specs.Tree.TreeLaws.{same_at_or_below, at_or_below_trans}
use Rattle.dnsv_names.specs.Tree.AncestorLaws.{rightmost_above, rightmost_below, rightmost_in_line, wildcard_below}
use Rattle.dnsv_zones.specs.zones.TypeNumbers.{ns, cname, soa, ds, rrsig, nsec}
use Rattle.dnsv_zones.specs.Any.{Any}
use Rattle.dnsv_zones.specs.zones.Types.{Denies, IsUnsignedDelegation}
use Rattle.dnsv_zones.specs.zones.Zone.{Zone, IsOwner, Holds, IsNode, IsClosedAt, IsWellFormed}
use Rattle.dnsv_zones.specs.zones.Lookup.{IsElsewhere, IsClosestEncloser, IsSource, IsLookup}
use Rattle.dnsv_zones.specs.zones.Lookup.Answer.{NoData, NoName}
use Rattle.dnsv_zones.specs.zones.Lookup.IsSource.{itself, wildcard}
use Rattle.dnsv_zones.specs.chains.NsecChain.{NsecRecord, IsInBitmap, IsBitmapOf, owners, IsInNsecChain, IsNsecChainOf}
use Rattle.dnsv_zones.specs.forms.Nsec.{Covers, IsNoCutAbove, IsAbsentBy, IsEmptyNonTerminalBy, IsNodeBy, nsec_words}
use Rattle.dnsv_zones.specs.forms.Forms.{EndsAt, NoNameForm, NoDataForms, UnsignedCutForm}
use Rattle.dnsv_zones.proofs.lemmas.AnyLemmas.{any_map, any_both}
use Rattle.dnsv_zones.proofs.lemmas.zones.ZoneLemmas.{holds_owner, holds_respects, owner_under, owner_node, node_of_owner, node_not_below}
use Rattle.dnsv_zones.proofs.lemmas.zones.AnswerLemmas.{owner_decided}
use Rattle.dnsv_zones.proofs.lemmas.chains.NsecLemmas.{member_of_owner, owner_of_member}
use Rattle.dnsv_zones.proofs.lemmas.meaning.MeaningLemmas.{no_name, any_no_data}
use Rattle.dnsv_zones.proofs.lemmas.meaning.NsecTruth.{nsec_true}
use Rattle.dnsv_zones.proofs.lemmas.chains.BitmapLemmas.{plain_type, bits_closed, bitmap_respects, denies_bits, may_deny_here, may_deny_wildcard}
use Rattle.dnsv_zones.proofs.lemmas.zones.LookupLemmas.{open_above_here, open_above_wildcard}

module _ (zone : Zone) (apex : Labels) (records : List NsecRecord) (chain : IsNsecChainOf zone apex records) where
  well : IsWellFormed zone
  well = chain.has_records.well_formed

  inside : (x : Labels) → IsAtOrBelow x zone.apex → IsAtOrBelow x apex
  inside x within = at_or_below_trans x zone.apex apex within (same_at_or_below zone.apex apex (sym chain.has_records.same_apex))

  -- an owner's record
  record_at : (owner : Labels) → IsOwner zone owner → Any (λ r. SameName r.owner owner × IsInNsecChain zone r) records
  record_at owner is_owner =
      any_both (λ r. SameName r.owner owner) (IsInNsecChain zone) records chain.has_records.in_chain (chain.each_owner owner is_owner)

  -- what is no owner is covered
  covered : (x : Labels) → ¬ IsOwner zone x → Any (λ r. Covers r x × IsInNsecChain zone r) records
  covered x none =
      let some = lies_in_a_gap_among canonical_cmp_total (owners zone) zone.apex x (member_of_owner zone zone.apex (holds_owner zone zone.apex soa well.apex)) (λ member. none (owner_of_member zone x member)) in
      any_map (λ r. SameName r.owner some.0 × IsInNsecChain zone r) (λ r. Covers r x × IsInNsecChain zone r) records
      (λ r there. (
        gap_respects canonical_cmp_total r.owner r.next x (SameName_Equal some.0 r.owner (sym there.0)) (tied_itself canonical_cmp_total r.next) (tied_itself canonical_cmp_total x)
            (some.2 r.next (successor_respects canonical_cmp_total some.0 (SameName_Equal r.owner some.0 there.0) there.1.next)),
        there.1,
      ))
      (record_at some.0 (owner_of_member zone some.0 some.1))

  no_cut_above : (r : NsecRecord) (x : Labels) → IsInNsecChain zone r → ((cut : Labels) → IsBelow x cut → ¬ IsClosedAt zone cut) → IsNoCutAbove r x
  no_cut_above r x there open_above below closed = open_above r.owner below (bits_closed zone r.owner r.types there.types closed)

  absent : (x : Labels) → IsAtOrBelow x zone.apex → ¬ IsNode zone x → ((cut : Labels) → IsBelow x cut → ¬ IsClosedAt zone cut) → Any (λ r. IsAbsentBy r x) records
  absent x within none open_above =
      any_map (λ r. Covers r x × IsInNsecChain zone r) (λ r. IsAbsentBy r x) records
      (λ r there. record {
        covers = there.0;
        no_cut_above = no_cut_above r x there.1 open_above;
        nothing_below = λ under. none (node_of_owner zone r.next x (owner_of_member zone r.next there.1.next.member) under within);
      })
      (covered x (λ owner. none (owner_node zone x well owner)))

  -- the next owner behind an empty non-terminal is below it
  next_below : (r : NsecRecord) (x : Labels) → Covers r x → IsInNsecChain zone r → IsNode zone x → IsAtOrBelow r.next x
  next_below r x covers there node =
      let some = owner_under zone x node in
      next_at_or_below r.owner r.next x some.owner (there.next.none_between some.owner (member_of_owner zone some.owner some.is_owner)) covers some.under

  empty_non_terminal : (x : Labels) → IsNode zone x → ¬ IsOwner zone x → Any (λ r. IsEmptyNonTerminalBy r x) records
  empty_non_terminal x node none =
      any_map (λ r. Covers r x × IsInNsecChain zone r) (λ r. IsEmptyNonTerminalBy r x) records
      (λ r there. record {
        covers = there.0;
        no_cut_above = no_cut_above r x there.1 (λ cut below closed. node_not_below zone cut x well closed node below);
        some_below = next_below r x there.0 there.1 node;
      })
      (covered x none)

  shown : (x : Labels) → IsNode zone x → Any (λ r. IsNodeBy r x) records
  shown x node =
      let some = owner_under zone x node in
      any_map (λ r. SameName r.owner some.owner × IsInNsecChain zone r) (λ r. IsNodeBy r x) records
      (λ r there. inl (at_or_below_trans r.owner some.owner x (same_at_or_below r.owner some.owner there.0) some.under))
      (record_at some.owner some.is_owner)

  types_at : (x : Labels) (Says : (ℕ → Type 0) → Type 0) → IsOwner zone x → ((types : ℕ → Bool) → IsBitmapOf zone x types → Says (IsInBitmap types)) → Any (λ r. SameName r.owner x × Says (IsInBitmap r.types)) records
  types_at x Says owner say =
      any_map (λ r. SameName r.owner x × IsInNsecChain zone r) (λ r. SameName r.owner x × Says (IsInBitmap r.types)) records
      (λ r there. (there.0, say r.types (bitmap_respects zone r.owner x r.types there.0 there.1.types)))
      (record_at x owner)

  ends_at : (name : Labels) (labels t : ℕ) → ¬ IsElsewhere zone name t → IsClosestEncloser zone name labels → EndsAt (nsec_words apex records) apex name labels
  ends_at name labels t here encloser =
      let next = rightmost name (labels + 1) in
      let within : IsAtOrBelow next zone.apex = at_or_below_trans next (rightmost name labels) zone.apex (rightmost_in_line name (labels + 1) labels (omega arith)) encloser.node.within in
      record {
        above = record { proper = encloser.proper; within = inside (rightmost name labels) encloser.node.within };
        encloser = inr (shown (rightmost name labels) encloser.node);
        next_closer = absent next within (encloser.closest (labels + 1) (omega arith) (omega (arith, encloser.proper)))
            (λ cut below. open_above_here zone name t here next cut (rightmost_above name (labels + 1)) below);
      }

  pub no_name_proved : (name : Labels) (t : ℕ) → IsLookup zone name t NoName → NoNameForm (nsec_words apex records) apex name
  no_name_proved name t lookup =
      let labels = lookup.1.labels in
      let encloser = lookup.1.encloser in
      let ce = rightmost name labels in
      record {
        labels = labels;
        ends = ends_at name labels t lookup.0 encloser;
        wildcard = absent (wildcard_of ce) (at_or_below_trans (wildcard_of ce) ce zone.apex (wildcard_below ce).0 encloser.node.within) lookup.1.no_wildcard
            (λ cut below. open_above_wildcard zone name t lookup.0 ce cut (rightmost_below name labels encloser.proper) below);
      }

  no_data_from : (name source : Labels) (t : ℕ) → t ≢ rrsig → t ≢ nsec → ¬ IsElsewhere zone name t → IsSource zone name source → ¬ Holds zone source t → ¬ Holds zone source cname → NoDataForms (nsec_words apex records) apex name t
  no_data_from name source t other another here (itself node) no_type no_alias =
      ⊎_elim (λ (owner : IsOwner zone name). inl (record {
        within = inside name node.within;
        types = types_at name (λ has. Denies has t) owner (λ types bitmap. denies_bits zone name types t other another bitmap (may_deny_here zone name t well here no_type no_alias));
      }))
      (λ (none : ¬ IsOwner zone name). inr (inl (record { within = inside name node.within; empty_non_terminal = empty_non_terminal name node none })))
      (owner_decided zone name)
  no_data_from name source t other another here (wildcard labels encloser node) no_type no_alias =
      let ce = rightmost name labels in
      ⊎_elim (λ (owner : IsOwner zone (wildcard_of ce)). inr (inr (inl (record {
        labels = labels;
        ends = ends_at name labels t here encloser;
        types = types_at (wildcard_of ce) (λ has. Denies has t) owner
            (λ types bitmap. denies_bits zone (wildcard_of ce) types t other another bitmap (may_deny_wildcard zone ce t well chain.wildcards encloser.node.within no_type no_alias));
      }))))
      (λ (none : ¬ IsOwner zone (wildcard_of ce)). inr (inr (inr (record {
        labels = labels;
        ends = ends_at name labels t here encloser;
        empty_non_terminal = empty_non_terminal (wildcard_of ce) node none;
      }))))
      (owner_decided zone (wildcard_of ce))

  pub no_data_proved : (name source : Labels) (t : ℕ) → t ≢ rrsig → t ≢ nsec → IsLookup zone name t (NoData source) → NoDataForms (nsec_words apex records) apex name t
  no_data_proved name source t other another lookup = no_data_from name source t other another lookup.0 lookup.1.0 lookup.1.1 lookup.1.2

  pub unsigned_cut_proved : (name cut : Labels) → IsAtOrBelow name cut → IsUnsignedDelegation (Holds zone cut) → UnsignedCutForm (nsec_words apex records) apex name cut
  unsigned_cut_proved name cut under unsigned =
      let owner : IsOwner zone cut = holds_owner zone cut ns unsigned.delegation.servers in
      record {
        at_or_above = under;
        below_apex = (
          inside cut (well.within cut owner),
          λ same. unsigned.delegation.no_apex (holds_respects zone zone.apex cut soa (sym (same ∙ chain.has_records.same_apex)) well.apex),
        );
        types = types_at cut IsUnsignedDelegation owner (λ types bitmap. record {
          delegation = record {
            servers = bitmap.all ns unsigned.delegation.servers;
            no_apex = λ bit. unsigned.delegation.no_apex (plain_type zone cut types soa (λ is. omega arith) (λ is. omega arith) bitmap bit);
          };
          no_ds = λ bit. unsigned.no_ds (plain_type zone cut types ds (λ is. omega arith) (λ is. omega arith) bitmap bit);
        });
      }

  -- and nothing else
  pub no_name_meant : (name : Labels) (t : ℕ) → NoNameForm (nsec_words apex records) apex name → IsLookup zone name t NoName
  no_name_meant name t form =
      no_name zone (nsec_words apex records) apex name well chain.has_records.same_apex
      (nsec_true zone apex name records well chain.has_records.same_apex chain.has_records.in_chain) t form

  pub no_data_meant : (name : Labels) (t : ℕ) → NoDataForms (nsec_words apex records) apex name t → (source : Labels) × IsLookup zone name t (NoData source)
  no_data_meant name t form =
      any_no_data zone (nsec_words apex records) apex name well chain.has_records.same_apex
      (nsec_true zone apex name records well chain.has_records.same_apex chain.has_records.in_chain) t form
