-- What NSEC records of a zone's chain say is so.
use Rattle.std.proofs.Common.{ℕ, ◌+◌, ◌⊎◌, List, sym, ◌∙◌, ⊎_elim}
use Rattle.std.specs.List.{AllByRecursion}
use Rattle.dnsv_names.specs.Name.{Labels, SameName, IsAtOrBelow, rightmost}
use Rattle.dnsv_names.specs.Order.{IsBelow}
use Rattle.dnsv_names.specs.Tree.TreeLaws.{below_trans_at}
use Rattle.dnsv_names.specs.Tree.AncestorLaws.{rightmost_next_below}
use Rattle.dnsv_zones.specs.Any.{Any}
use Rattle.dnsv_zones.specs.zones.Zone.{Zone, IsNode, IsClosedAt, IsWellFormed}
use Rattle.dnsv_zones.specs.zones.Lookup.{IsClosestEncloser}
use Rattle.dnsv_zones.specs.chains.NsecChain.{NsecRecord, IsInBitmap, IsInNsecChain}
use Rattle.dnsv_zones.specs.forms.Nsec.{IsAbsentBy, IsEmptyNonTerminalBy, IsNodeBy, nsec_words}
use Rattle.dnsv_zones.proofs.lemmas.AnyLemmas.{found_of}
use Rattle.dnsv_zones.proofs.lemmas.zones.ZoneLemmas.{owner_respects, apex_node, closed_node, encloser_below, node_respects, owner_node}
use Rattle.dnsv_zones.proofs.lemmas.chains.NsecLemmas.{covered_no_owner, covered_open_above, absent_no_node, empty_non_terminal_node, told_node}
use Rattle.dnsv_zones.proofs.lemmas.meaning.MeaningLemmas.{Told, IsEmptyNonTerminal, AreTrue}
use Rattle.dnsv_zones.proofs.lemmas.chains.BitmapLemmas.{bitmap_respects}

module _ (zone : Zone) (apex name : Labels) (records : List NsecRecord) (well : IsWellFormed zone) (same : SameName apex zone.apex) (all : AllByRecursion (IsInNsecChain zone) records) where
  pub absent : (x : Labels) → Any (λ r. IsAbsentBy r x) records → ¬ IsNode zone x
  absent x some =
      let by = found_of (λ (r : NsecRecord). IsAbsentBy r x) (IsInNsecChain zone) records all some in
      absent_no_node zone by.member by.kind x by.holds

  open_above : (labels : ℕ) → IsClosestEncloser zone name labels → Any (λ r. IsAbsentBy r (rightmost name (labels + 1))) records → (cut : Labels) → IsBelow name cut → ¬ IsClosedAt zone cut
  open_above labels encloser some cut below closed =
      let by = found_of (λ (r : NsecRecord). IsAbsentBy r (rightmost name (labels + 1))) (IsInNsecChain zone) records all some in
      let line : IsAtOrBelow (rightmost name labels) cut = encloser_below zone name cut labels encloser below.0 (closed_node zone cut well closed) in
      let under : IsBelow (rightmost name (labels + 1)) cut =
      below_trans_at (rightmost name (labels + 1)) (rightmost name labels) cut (rightmost_next_below name labels encloser.proper) line in
      covered_open_above zone by.member by.kind (rightmost name (labels + 1)) cut well by.holds.covers by.holds.no_cut_above under closed

  encloser : (x : Labels) → IsAtOrBelow x zone.apex → SameName x apex ⊎ Any (λ r. IsNodeBy r x) records → IsNode zone x
  encloser x within told =
      ⊎_elim (λ (is : SameName x apex). node_respects zone zone.apex x (sym (is ∙ same)) (apex_node zone well))
      (λ (some : Any (λ r. IsNodeBy r x) records).
      let by = found_of (λ (r : NsecRecord). IsNodeBy r x) (IsInNsecChain zone) records all some in
      told_node zone by.member by.kind x within by.holds) told

  empty_non_terminal : (x : Labels) → IsAtOrBelow x zone.apex → Any (λ r. IsEmptyNonTerminalBy r x) records → IsEmptyNonTerminal zone x
  empty_non_terminal x within some =
      let by = found_of (λ (r : NsecRecord). IsEmptyNonTerminalBy r x) (IsInNsecChain zone) records all some in
      record { node = empty_non_terminal_node zone by.member by.kind x within by.holds; no_owner = covered_no_owner zone by.member by.kind x by.holds.covers }

  types : (x : Labels) (Says : (ℕ → Type 0) → Type 0) → Any (λ r. SameName r.owner x × Says (IsInBitmap r.types)) records → Told zone x Says
  types x Says some =
      let by = found_of (λ (r : NsecRecord). SameName r.owner x × Says (IsInBitmap r.types)) (IsInNsecChain zone) records all some in
      record {
        node = owner_node zone x well (owner_respects zone by.member.owner x by.holds.0 by.kind.owner);
        types = by.member.types;
        bitmap = bitmap_respects zone by.member.owner x by.member.types by.holds.0 by.kind.types;
        said = by.holds.1;
      }

  pub nsec_true : AreTrue zone (nsec_words apex records) name
  nsec_true = record {
    encloser = λ x asked within told. encloser x within told;
    absent = absent;
    empty_non_terminal = empty_non_terminal;
    types = λ x Says asked some. types x Says some;
    open_above = λ labels ce told some cut below closed. open_above labels ce some cut below closed;
  }
