-- The text of a name written where it stands, label by label.
use Rattle.std.proofs.Common.{◌≡◌, ℕ, ◌+◌, ◌*◌, ◌<◌, ◌≤◌, List, [], ◌∷◌, ◌++◌, length, get_or, sym, ap, ◌∙◌, arith, length-append}
use Rattle.std.specs.List.{flat_map}
use Rattle.std.proofs.lemmas.List.{append-nil}
use Rattle.dnsv_names.specs.Name.{Labels, wire}
use Rattle.dnsv_names.specs.Name.WireLaws.{wire_not_empty}
use Rattle.dnsv_names.specs.Text.{label_text, text_of}
use Rattle.dnsv_message.specs.Following.{labels_at, StandsAt, label_at}
use Rattle.dnsv_message.proofs.FollowLemmas.{has_root, has_label}

-- what is written for labels, each with its dot
abbrev pub texts : Labels → List ℕ
texts labels = flat_map (λ each. label_text each ++ 46 ∷ []) labels

-- so much of a name's text is written behind what was there, the labels at the place are left, and there is room for them
pub record Writes (octets : List ℕ) (place : ℕ) (before : List ℕ) (start : ℕ) (text : List ℕ) (size : ℕ) (next : ℕ) : Type 0 where
  pub stands : StandsAt octets next
  pub written : before ++ texts (labels_at octets place) ≡ text ++ texts (labels_at octets next)
  pub room : size + 4 * length (wire (labels_at octets next)) ≤ start + 1020

module _ (octets : List ℕ) (place : ℕ) (before : List ℕ) (start : ℕ) (text : List ℕ) (size next : ℕ) (so_far : Writes octets place before start text size next) (some : 0 < get_or octets next 0) where
  pub room_for_text : (label : List ℕ) → label ≡ label_at octets next → size + 4 * length label + 1 ≤ start + 1016
  room_for_text label is =
      let has = has_label octets next so_far.stands.named some so_far.stands.plain in
      omega (
        arith,
        so_far.room,
        ap length is,
        ap (λ labels. length (wire labels)) has.labels,
        length-append (label_at octets next) (wire (labels_at octets (next + (1 + get_or octets next 0)))),
        wire_not_empty (labels_at octets (next + (1 + get_or octets next 0))),
      )

pub text_of_some : (labels : Labels) (first : List ℕ) (rest : Labels) → labels ≡ first ∷ rest → texts labels ≡ text_of labels
text_of_some labels first rest is = ap texts is ∙ sym (ap text_of is)

-- at the root the text is written
pub all_written : (octets : List ℕ) (place : ℕ) (before : List ℕ) (start : ℕ) (text : List ℕ) (size next : ℕ) → Writes octets place before start text size next → get_or octets next 0 ≡ 0
    → StandsAt octets place → 0 < get_or octets place 0 → text ≡ before ++ text_of (labels_at octets place)
all_written octets place before start text size next so_far root stands some =
    let has = has_label octets place stands.named some stands.plain in
    sym (append-nil text) ∙ ap (λ labels. text ++ texts labels) (sym (has_root octets next so_far.stands.named root).none) ∙ sym so_far.written
    ∙ ap (λ xs. before ++ xs) (text_of_some (labels_at octets place) _ _ has.labels)

pub room_kept : {octets : List ℕ} {place : ℕ} {before : List ℕ} {start : ℕ} {text : List ℕ} {size next : ℕ} → Writes octets place before start text size next → size ≤ start + 1016
room_kept {octets} {next = next} so_far = omega (arith, so_far.room, wire_not_empty (labels_at octets next))
