-- RDATA with its names written out: how long it is, and that it is laid out as it was.
use Rattle.std.proofs.Common.{◌≡◌, ◌⊎◌, inl, inr, ⊎_elim, ℕ, ◌+◌, ◌*◌, ◌≤◌, List, [], ◌∷◌, ◌++◌, length, take, drop, refl, sym, ap, subst, ◌∙◌, arith, length-append, length-take, length-drop, Option, Some, None, Bool, true, false, if◌then◌else◌, ◌==◌}
use Rattle.std.specs.Prelude.{flat_map}
use Rattle.std.proofs.lemmas.List.{length-take-le, drop-drop}
use Rattle.std.specs.List.{AllByRecursion}
use Rattle.dnsv_names.specs.Name.{Labels, IsLabel, IsName, wire}
use Rattle.dnsv_message.specs.declared.rdata.Layout.{Layout}
use Rattle.dnsv_message.specs.Layout.{layout_of, internet_layout}
use Rattle.dnsv_message.specs.Parts.{head_size, name_count, tail_size, HasParts}
use Rattle.dnsv_message.specs.NameAt.{PartAt, NameAt, root, label, pointer, NameFrom, pointer_limit}
use Rattle.dnsv_message.specs.Grammar.{InOrder, RdataNameAt, RdataAt, IsTail, part_of}
use Rattle.dnsv_message.proofs.RdataLemmas.{part_split, plain_at, rdata_name, head_fits}

-- a part that stands at a place
pub record Stands (octets : List ℕ) (place : ℕ) (part : List ℕ) : Type 0 where
  pub form : PartAt octets place part

pub Stands-split : {octets : List ℕ} {place : ℕ} (a b : List ℕ) → Stands octets place (a ++ b) → Stands octets place a × Stands octets (place + length a) b
Stands-split {octets} {place} a b stands =
    let parts = part_split a b (drop place octets) stands.form in
    (record { form = parts.0 }, record { form = ap (take (length b)) (sym (drop-drop (length a) place octets)) ∙ parts.1 })

-- the same from the end, whose place is known
pub Stands-end : {octets : List ℕ} {place : ℕ} (a b : List ℕ) (end : ℕ) → place + length a ≡ end → Stands octets place (a ++ b) → Stands octets place a × Stands octets end b
Stands-end {octets} a b end ends stands =
    let parts = Stands-split a b stands in
    (parts.0, subst (λ n. Stands octets n b) ends parts.1)

-- things that stand one after another are as many octets as their parts together
module _ {X : Type 0} (At : ℕ → X → ℕ → Type 0) (octets : List ℕ) (limit : ℕ) (octets_of : X → List ℕ) (Fit : X → Type 0)
    (one : (place : ℕ) (x : X) → Fit x → Stands octets place (octets_of x) → place + length (octets_of x) ≤ limit → At place x (place + length (octets_of x))) where
  pub InOrder-stands : (xs : List X) (place : ℕ) → AllByRecursion Fit xs → Stands octets place (flat_map octets_of xs) → place + length (flat_map octets_of xs) ≤ limit → InOrder At place xs (place + length (flat_map octets_of xs))
  InOrder-stands [] place fits stands within = omega arith
  InOrder-stands (x ∷ xs) place fits stands within =
      let parts = Stands-split (octets_of x) (flat_map octets_of xs) stands in
      let ends : place + length (octets_of x) + length (flat_map octets_of xs) ≡ place + length (octets_of x ++ flat_map octets_of xs) = omega (arith, length-append (octets_of x) (flat_map octets_of xs)) in (
        place + length (octets_of x),
        one place x fits.0 parts.0 (omega (arith, length-append (octets_of x) (flat_map octets_of xs))),
        subst (InOrder At (place + length (octets_of x)) xs) ends
            (InOrder-stands xs (place + length (octets_of x)) fits.1 parts.1 (omega (arith, length-append (octets_of x) (flat_map octets_of xs)))),
      )

-- a fact of each thing that stands is one of all of them
pub InOrder-each : {X : Type 0} (At : ℕ → X → ℕ → Type 0) (Fit : X → Type 0) → ((place : ℕ) (x : X) (end : ℕ) → At place x end → Fit x) → (xs : List X) (place end : ℕ) → InOrder At place xs end → AllByRecursion Fit xs
InOrder-each At Fit fits [] place end order = tt
InOrder-each At Fit fits (x ∷ xs) place end order = (fits place x order.0 order.1, InOrder-each At Fit fits xs order.0 end order.2)

pub InOrder-map : {X : Type 0} (At To : ℕ → X → ℕ → Type 0) → ((place : ℕ) (x : X) (end : ℕ) → At place x end → To place x end) → (xs : List X) (place end : ℕ) → InOrder At place xs end → InOrder To place xs end
InOrder-map At To leads [] place end order = order
InOrder-map At To leads (x ∷ xs) place end order = (order.0, leads place x order.0 order.1, InOrder-map At To leads xs order.0 end order.2)

module _ (octets : List ℕ) where
  pub labels_are : (place run pointers : ℕ) (labels : Labels) (end : ℕ) → NameAt octets place run pointers labels end → AllByRecursion IsLabel labels
  labels_are place run pointers labels end (root at) = tt
  labels_are place run pointers labels end (label at more) = (at.0, labels_are _ _ _ _ _ more)
  labels_are place run pointers labels end (pointer at back more) = labels_are _ _ _ _ _ more

  -- what is read as a name is one
  pub name_is : (place : ℕ) (name : Labels) (end : ℕ) → NameFrom octets place name end → IsName name
  name_is place name end at = record { each = labels_are _ _ _ _ _ at.0; at_most_255 = at.1 }

  -- a name's wire form is read as the name
  pub name_stands : (place : ℕ) (name : Labels) → IsName name → Stands octets place (wire name) → NameFrom octets place name (place + length (wire name))
  name_stands place name named stands = (plain_at octets name place place pointer_limit named.each stands.form, named.at_most_255)

  rdata_name_stands : (limit : ℕ) (pointers : Bool) (place : ℕ) (name : Labels) → IsName name → Stands octets place (wire name) → place + length (wire name) ≤ limit → RdataNameAt octets limit pointers place name (place + length (wire name))
  rdata_name_stands limit true place name named stands within = (name_stands place name named stands, within)
  rdata_name_stands limit false place name named stands within = (named, stands.form, refl, within)

  -- names of an RDATA have at most 255 octets each, and where none is compressed, as many as they take
  names_short : (limit : ℕ) (pointers : Bool) (names : List Labels) (place end : ℕ) → InOrder (RdataNameAt octets limit pointers) place names end → length (flat_map wire names) ≤ length names * 255
  names_short limit pointers [] place end order = omega arith
  names_short limit pointers (name ∷ names) place end order =
      omega (arith, length-append (wire name) (flat_map wire names), (rdata_name octets limit pointers place name order.0 order.1).0.1, names_short limit pointers names order.0 end order.2)

  plain_names : (limit : ℕ) (names : List Labels) (place end : ℕ) → InOrder (RdataNameAt octets limit false) place names end → end ≡ place + length (flat_map wire names)
  plain_names limit [] place end order = omega (arith, order)
  plain_names limit (name ∷ names) place end order =
      omega (arith, length-append (wire name) (flat_map wire names), order.1.2, plain_names limit names order.0 end order.2)

-- where its names may be compressed, an RDATA is short even with all of them written out
pub record IsShort (layout : Layout) : Type 0 where
  pub either : (layout.pointers ≡ false) ⊎ ((tail : ℕ) × (layout.tail ≡ Some tail) × (layout.head + layout.names * 255 + tail ≤ 65535))

if_either : (b : Bool) (x y : Layout) → IsShort x → IsShort y → IsShort (if b then x else y)
if_either true x y first second = first
if_either false x y first second = second

internet_short : (rtype : ℕ) → IsShort (internet_layout rtype)
internet_short rtype =
    if_either (rtype == 1) _ _ (record { either = inl refl })
    (if_either (rtype == 2) _ _ (record { either = inr (0, refl, omega arith) })
    (if_either (rtype == 5) _ _ (record { either = inr (0, refl, omega arith) })
    (if_either (rtype == 6) _ _ (record { either = inr (20, refl, omega arith) })
    (if_either (rtype == 12) _ _ (record { either = inr (0, refl, omega arith) })
    (if_either (rtype == 15) _ _ (record { either = inr (0, refl, omega arith) })
    (if_either (rtype == 28) _ _ (record { either = inl refl })
    (if_either (rtype == 33) _ _ (record { either = inr (0, refl, omega arith) })
    (if_either (rtype == 39) _ _ (record { either = inl refl })
    (if_either (rtype == 46) _ _ (record { either = inl refl })
    (if_either (rtype == 47) _ _ (record { either = inl refl }) (record { either = inl refl })))))))))))

pub layout_short : (rtype class : ℕ) → IsShort (layout_of rtype class)
layout_short rtype class = if_either (class == 1) _ _ (internet_short rtype) (record { either = inl refl })

tail_is : (tail : Option ℕ) (rest size : ℕ) → tail ≡ Some size → IsTail tail rest → rest ≡ size
tail_is None rest size same ends = absurd (cc same)
tail_is (Some tail) rest size same ends = ends ∙ cc same

module _ (octets : List ℕ) (layout : Layout) (start size : ℕ) (rdata : List ℕ) (at : RdataAt octets layout start size rdata) where
  part_short : (place n : ℕ) → length (part_of octets place n) ≤ n
  part_short place n = omega (arith, length-take n (drop place octets))

  pub rdata_short : size ≤ 65535 → IsShort layout → length rdata ≤ 65535
  rdata_short small short =
      let names = length (flat_map wire at.names) in
      let parts : length rdata ≤ layout.head + names + at.rest =
      omega (arith, ap length at.written, length-append (part_of octets start layout.head ++ flat_map wire at.names) (part_of octets at.after_names at.rest), length-append (part_of octets start layout.head) (flat_map wire at.names), part_short start layout.head, part_short at.after_names at.rest) in
      ⊎_elim
      (λ (plain : layout.pointers ≡ false).
      let ends : at.after_names ≡ start + layout.head + names = plain_names octets (start + size) at.names (start + layout.head) at.after_names
      (subst (λ b. InOrder (RdataNameAt octets (start + size) b) (start + layout.head) at.names at.after_names) plain at.named) in
      omega (arith, parts, ends, at.filled))
      (λ (fixed : (tail : ℕ) × (layout.tail ≡ Some tail) × (layout.head + layout.names * 255 + tail ≤ 65535)).
      omega (arith, parts, names_short octets (start + size) layout.pointers at.names (start + layout.head) at.after_names at.named, at.counted, tail_is layout.tail at.rest fixed.0 fixed.1 at.ends, fixed.2))
      short.either

-- RDATA that is read has the parts of its layout
module _ (octets : List ℕ) (rtype class start size : ℕ) (rdata : List ℕ) (at : RdataAt octets (layout_of rtype class) start size rdata) where
  pub rdata_parts : start + size ≤ length octets → HasParts rtype class rdata
  rdata_parts within =
      let layout = layout_of rtype class in
      let head : length (part_of octets start layout.head) ≡ layout.head = length-take-le layout.head (drop start octets) (omega (arith, head_fits octets layout start size rdata at, length-drop start octets)) in
      let tail : length (part_of octets at.after_names at.rest) ≡ at.rest = length-take-le at.rest (drop at.after_names octets) (omega (arith, at.filled, length-drop at.after_names octets)) in (
        part_of octets start layout.head,
        at.names,
        part_of octets at.after_names at.rest,
        record {
          head = head;
          count = at.counted;
          each = InOrder-each (RdataNameAt octets (start + size) layout.pointers) IsName (λ place name end named. name_is octets place name end (rdata_name octets (start + size) layout.pointers place name end named).0)
              at.names (start + layout.head) at.after_names at.named;
          tail = subst (IsTail layout.tail) (sym tail) at.ends;
        },
        at.written,
      )

-- RDATA that has the parts of its layout is read as what it is, whether or not its names might be compressed
pub rdata_stands : (octets : List ℕ) (rtype class : ℕ) (pointers : Bool) (start : ℕ) (rdata : List ℕ) → HasParts rtype class rdata → Stands octets start rdata
    → RdataAt octets (record { head = head_size rtype class; names = name_count rtype class; pointers = pointers; tail = tail_size rtype class }) start (length rdata) rdata
rdata_stands octets rtype class pointers start rdata has stands =
    let before = has.0 in
    let names = flat_map wire has.1 in
    let behind = has.2 in
    let parts = has.3 in
    let head = head_size rtype class in
    let front = before ++ names in
    let fronts : length front ≡ head + length names = omega (arith, length-append before names, parts.head) in
    let size : length rdata ≡ head + length names + length behind = omega (arith, ap length has.4, length-append front behind, fronts) in
    let after = start + head + length names in
    let ends = Stands-end front behind after (omega (arith, fronts)) (subst (Stands octets start) has.4 stands) in
    let more = Stands-end before names (start + head) (omega (arith, parts.head)) ends.0 in
    record {
      names = has.1;
      after_names = after;
      rest = length behind;
      counted = parts.count;
      named = InOrder-stands (RdataNameAt octets (start + length rdata) pointers) octets (start + length rdata) wire IsName
          (λ place name named at within. rdata_name_stands octets (start + length rdata) pointers place name named at within)
          has.1 (start + head) parts.each more.1 (omega (arith, size));
      filled = omega (arith, size);
      ends = parts.tail;
      written = has.4
          ∙ ap (λ xs. xs ++ names ++ behind) (sym more.0.form ∙ ap (λ n. take n (drop start octets)) parts.head)
          ∙ ap (λ xs. part_of octets start head ++ names ++ xs) (sym ends.1.form);
    }
