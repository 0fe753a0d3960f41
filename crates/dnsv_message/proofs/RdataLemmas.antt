-- The names of an RDATA, and that octets hold at most one RDATA at a place.
pub mod RdataWritten
use Rattle.std.proofs.Common.{◌≡◌, ℕ, suc, ◌+◌, ◌-◌, ◌<◌, ◌≤◌, List, [], ◌∷◌, ◌++◌, length, get_or, take, drop, refl, sym, ap, subst, ◌∙◌, arith, add-zero, length-append, Option, Some, None, Bool, true, false, Result, Ok, Err, unwrap_or}
use Rattle.std.specs.Prelude.{flat_map}
use Rattle.std.specs.Result.{IfOk, IfErr, result_ok}
use Rattle.std.proofs.lemmas.List.{append-nil, get_or-take, get_or-drop, drop-drop, take-take, take-append-drop, flat_map_more}
use Rattle.std.proofs.lemmas.Option.{none-some}
use Rattle.std.specs.List.{AllByRecursion}
use Rattle.dnsv_names.specs.Name.{Labels, IsLabel, IsName, wire}
use Rattle.dnsv_message.specs.declared.errors.NameFault.{NameFault}
use Rattle.dnsv_message.specs.declared.rdata.Layout.{Layout}
use Rattle.dnsv_message.specs.NameAt.{PartAt, NameAt, root, label, NameFrom, NameFaultFrom, pointer_limit}
use Rattle.dnsv_message.specs.Grammar.{InOrder, FirstFault, RdataNameAt, RdataAt, IsTail, part_of}
use Rattle.dnsv_message.specs.Tail.TailLaws.{name_rises}
use Rattle.dnsv_message.proofs.NameLaws.NameWalk.{part_within}
use Rattle.dnsv_message.proofs.NameLaws.{NameAt_same, NameAt_sound}
use Rattle.dnsv_message.proofs.Sequences.{Reading, Reading-start, Reading-next, Reading-fault, Reading-order, InOrder-same, InOrder-sound}
use Rattle.dnsv_message.proofs.Numbers.{part_same, number_from}

-- octets that begin with two parts begin with the first, and then with the second
pub part_split : (a b octets : List ℕ) → take (length (a ++ b)) octets ≡ a ++ b → (take (length a) octets ≡ a) × (take (length b) (drop (length a) octets) ≡ b)
part_split [] b octets at = (refl, at)
part_split (x ∷ a) b [] at = absurd (cc at)
part_split (x ∷ a) b (y ∷ octets) at =
    let rest = part_split a b octets (ap (drop 1) at) in
    (ap (λ z. z ∷ take (length a) octets) (ap (λ l. get_or l 0 0) at) ∙ ap (λ l. x ∷ l) rest.0, rest.1)

module _ (octets : List ℕ) where
  -- a wire form that stands at a place is read there without a pointer
  pub plain_at : (labels : Labels) (place run pointers : ℕ) → AllByRecursion IsLabel labels → PartAt octets place (wire labels) → NameAt octets place run pointers labels (place + length (wire labels))
  plain_at [] place run pointers each at =
      let octet : get_or octets place 0 ≡ 0 =
      ap (λ n. get_or octets n 0) (sym (add-zero place)) ∙ sym (get_or-drop place octets 0 0)
      ∙ sym (get_or-take 1 (drop place octets) 0 0 (omega arith)) ∙ ap (λ xs. get_or xs 0 0) at in
      root (number_from octets place 1 0 (part_within octets place (0 ∷ []) (omega arith) at) (omega (arith, octet)))
  plain_at (first ∷ labels) place run pointers each at =
      let parts = part_split (length first ∷ first) (wire labels) (drop place octets) at in
      let counts : place + (1 + length first) ≡ place + suc (length first) = omega arith in
      let behind : PartAt octets (place + (1 + length first)) (wire labels) =
      ap (λ n. take (length (wire labels)) (drop n octets)) counts ∙ ap (take (length (wire labels))) (sym (drop-drop (suc (length first)) place octets)) ∙ parts.1 in
      let ends : place + (1 + length first) + length (wire labels) ≡ place + length (wire (first ∷ labels)) = omega (arith, length-append first (wire labels)) in
      subst (λ end. NameAt octets place run pointers (first ∷ labels) end) ends
      (label (each.0, parts.0) (plain_at labels (place + (1 + length first)) run pointers each.1 behind))

  -- a name of an RDATA is a name of the message
  pub rdata_name : (limit : ℕ) (pointers : Bool) (place : ℕ) (name : Labels) (end : ℕ) → RdataNameAt octets limit pointers place name end → NameFrom octets place name end × (end ≤ limit)
  rdata_name limit true place name end at = (at.0, at.1)
  rdata_name limit false place name end at =
      ((subst (λ n. NameAt octets place place pointer_limit name n) (sym at.2) (plain_at name place place pointer_limit at.0.each at.1), at.0.at_most_255), at.3)

  pub names_rise : (limit : ℕ) (pointers : Bool) (names : List Labels) (place end : ℕ) → InOrder (RdataNameAt octets limit pointers) place names end → place ≤ end
  names_rise limit pointers [] place end order = omega (arith, order)
  names_rise limit pointers (name ∷ names) place end order =
      omega (arith, name_rises octets _ _ _ _ _ (rdata_name limit pointers place name order.0 order.1).0.0, names_rise limit pointers names order.0 end order.2)

  -- no name of an RDATA stands at the place
  abbrev pub NoName : (limit : ℕ) (pointers : Bool) → ℕ → ℕ → Unit {0} → Type 0
  NoName limit pointers number place error = (name : Labels) (end : ℕ) → RdataNameAt octets limit pointers place name end → ⊥

  -- an RDATA has as many octets as stand before its names
  pub head_fits : (layout : Layout) (start size : ℕ) (rdata : List ℕ) → RdataAt octets layout start size rdata → layout.head ≤ size
  head_fits layout start size rdata at =
      omega (arith, names_rise (start + size) layout.pointers at.names (start + layout.head) at.after_names at.named, at.filled)

module _ (octets : List ℕ) (fit : (i : ℕ) → get_or octets i 0 < 256) where
  pub rdata_name_same : (limit : ℕ) (pointers : Bool) (place : ℕ) (name other : Labels) (end after : ℕ) → RdataNameAt octets limit pointers place name end → RdataNameAt octets limit pointers place other after → (name ≡ other) × (end ≡ after)
  rdata_name_same limit pointers place name other end after at also =
      NameAt_same octets fit place place pointer_limit name other end after (rdata_name octets limit pointers place name end at).0.0 (rdata_name octets limit pointers place other after also).0.0

  pub names_same : (limit : ℕ) (pointers : Bool) (names others : List Labels) (place end after : ℕ) → length names ≡ length others → InOrder (RdataNameAt octets limit pointers) place names end → InOrder (RdataNameAt octets limit pointers) place others after → (names ≡ others) × (end ≡ after)
  names_same limit pointers = InOrder-same (RdataNameAt octets limit pointers) (NoName octets limit pointers)
      (rdata_name_same limit pointers) (λ number place name end error at none. none name end at) (λ number place error other none also. refl)

  -- where one of the names is missing, there is no RDATA
  pub names_missing : (limit : ℕ) (pointers : Bool) (names : List Labels) (count place end : ℕ) → length names ≡ count → InOrder (RdataNameAt octets limit pointers) place names end → FirstFault (RdataNameAt octets limit pointers) (NoName octets limit pointers) count 1 place tt → ⊥
  names_missing limit pointers names count place end = InOrder-sound (RdataNameAt octets limit pointers) (NoName octets limit pointers)
      (rdata_name_same limit pointers) (λ number place name end error at none. none name end at) (λ number place error other none also. refl) names count 1 place end tt

  -- a place has one RDATA
  pub RdataAt_same : (layout : Layout) (start size : ℕ) (rdata other : List ℕ) → RdataAt octets layout start size rdata → RdataAt octets layout start size other → rdata ≡ other
  RdataAt_same layout start size rdata other at also =
      let both = names_same (start + size) layout.pointers at.names also.names (start + layout.head) at.after_names also.after_names (at.counted ∙ sym also.counted) at.named also.named in
      let rests : at.rest ≡ also.rest = omega (arith, both.1, at.filled, also.filled) in
      at.written ∙ ap (λ names. part_of octets start layout.head ++ flat_map wire names ++ part_of octets at.after_names at.rest) both.0
      ∙ ap (λ n. part_of octets start layout.head ++ flat_map wire also.names ++ part_of octets n at.rest) both.1
      ∙ ap (λ n. part_of octets start layout.head ++ flat_map wire also.names ++ part_of octets also.after_names n) rests
      ∙ sym also.written

  -- no name of an RDATA stands where a name has a fault
  pub faulty_name : (limit : ℕ) (pointers : Bool) (place : ℕ) (answer : Result (Labels × ℕ) NameFault) (found : Option (Labels × ℕ)) → found ≡ result_ok answer → found ≡ None
      → IfErr answer (NameFaultFrom octets place) → (name : Labels) (end : ℕ) → RdataNameAt octets limit pointers place name end → ⊥
  faulty_name limit pointers place (Ok name) found gave none fault = absurd (none-some name (sym none ∙ gave))
  faulty_name limit pointers place (Err fault) found gave none wrong = λ name end at.
      let from = rdata_name octets limit pointers place name end at in
      NameAt_sound octets fit place place pointer_limit 0 name end fault (omega (arith, from.0.1)) from.0.0 wrong

  -- nor where a name leaves the RDATA
  pub name_past_limit : (limit : ℕ) (pointers : Bool) (place : ℕ) (answer : Result (Labels × ℕ) NameFault) (found : Option (Labels × ℕ)) (name : Labels × ℕ) → found ≡ result_ok answer → found ≡ Some name
      → IfOk answer (λ name. NameFrom octets place name.0 name.1) → limit < name.1 → (other : Labels) (end : ℕ) → RdataNameAt octets limit pointers place other end → ⊥
  name_past_limit limit pointers place (Ok read) found name gave some at past = λ other end also.
      let from = rdata_name octets limit pointers place other end also in
      let same : read.1 ≡ name.1 = ap (λ (o : Option (Labels × ℕ)). (unwrap_or {T = Labels × ℕ} o name).1) (sym gave ∙ some) in
      omega (arith, from.1, (NameAt_same octets fit place place pointer_limit other read.0 end read.1 from.0.0 at.0).1)
  name_past_limit limit pointers place (Err fault) found name gave some at past = absurd (none-some name (sym gave ∙ some))

module _ (octets : List ℕ) where
  -- nor, where none may be compressed, at a place where no wire form stands
  pub no_wire_form : (limit : ℕ) (pointers : Bool) (place : ℕ) (found : Option (Labels × ℕ)) → pointers ≡ false → found ≡ None
      → ((labels : Labels) (rest : List ℕ) → IsName labels → take (limit - place) (drop place octets) ≡ wire labels ++ rest → found ≡ Some (labels, length (wire labels)))
      → (name : Labels) (end : ℕ) → RdataNameAt octets limit pointers place name end → ⊥
  no_wire_form limit true place found plain none every name end at = absurd (cc plain)
  no_wire_form limit false place found plain none every name end at =
      let part = take (limit - place) (drop place octets) in
      let front : take (length (wire name)) part ≡ wire name =
      take-take (length (wire name)) (limit - place) (drop place octets) (omega (arith, at.2, at.3)) ∙ at.1 in
      none-some (name, length (wire name)) (sym none ∙ every name (drop (length (wire name)) part) at.0
      (sym (take-append-drop (length (wire name)) part) ∙ ap (λ xs. xs ++ drop (length (wire name)) part) front))

-- some names of an RDATA are read and written behind its first octets, and the others stand from the place on
pub record NamesRead (octets : List ℕ) (layout : Layout) (start size place : ℕ) (written : List ℕ) (done : ℕ) : Type 0 where
  pub names : List Labels
  pub reading : Reading (RdataNameAt octets (start + size) layout.pointers) (NoName octets (start + size) layout.pointers) layout.names 1 (start + layout.head) names place done
  pub within : place ≤ start + size
  pub spelled : written ≡ part_of octets start layout.head ++ flat_map wire names

pub NamesRead-start : (octets : List ℕ) (layout : Layout) (start size : ℕ) (written : List ℕ) → layout.head ≤ size → written ≡ take (start + layout.head - start) (drop start octets) → NamesRead octets layout start size (start + layout.head) written 0
NamesRead-start octets layout start size written within head = record {
  names = [];
  reading = Reading-start;
  within = omega arith;
  spelled = head ∙ part_same octets start layout.head ∙ sym (append-nil (part_of octets start layout.head));
}

module _ (octets : List ℕ) (layout : Layout) (start size place : ℕ) (written : List ℕ) (done : ℕ) (read : NamesRead octets layout start size place written done) where
  pub NamesRead-next : (name : Labels) (end : ℕ) (now : List ℕ) → done < layout.names → RdataNameAt octets (start + size) layout.pointers place name end → now ≡ written ++ wire name → NamesRead octets layout start size end now (done + 1)
  NamesRead-next name end now more at grown = record {
    names = read.names ++ name ∷ [];
    reading = Reading-next read.reading name end more at;
    within = (rdata_name octets (start + size) layout.pointers place name end at).1;
    spelled = grown ∙ ap (λ xs. xs ++ wire name) read.spelled ∙ flat_map_more wire (part_of octets start layout.head) read.names name;
  }

  -- the names and what stands behind them are the RDATA
  pub NamesRead-found : (now : List ℕ) → done ≡ layout.names → unwrap_or layout.tail (start + size - place) ≡ start + size - place
      → now ≡ written ++ take (start + size - place) (drop place octets) → RdataAt octets layout start size now
  NamesRead-found now all tail grown = record {
    names = read.names;
    after_names = place;
    rest = start + size - place;
    counted = read.reading.size ∙ all;
    named = Reading-order read.reading;
    filled = omega (arith, read.within);
    ends = tail_fits layout.tail (start + size - place) tail;
    written = grown ∙ ap (λ xs. xs ++ part_of octets place (start + size - place)) read.spelled;
  } where
    tail_fits : (tail : Option ℕ) (rest : ℕ) → unwrap_or tail rest ≡ rest → IsTail tail rest
    tail_fits None rest same = tt
    tail_fits (Some tail) rest same = sym same

  module _ (fit : (i : ℕ) → get_or octets i 0 < 256) where
    pub NamesRead-missing : done < layout.names → ((name : Labels) (end : ℕ) → RdataNameAt octets (start + size) layout.pointers place name end → ⊥) → (rdata : List ℕ) → RdataAt octets layout start size rdata → ⊥
    NamesRead-missing more none rdata at =
        names_missing octets fit (start + size) layout.pointers at.names layout.names (start + layout.head) at.after_names at.counted at.named
        (Reading-fault read.reading tt more none)

    pub NamesRead-tail : done ≡ layout.names → (unwrap_or layout.tail (start + size - place) ≡ start + size - place → ⊥) → (rdata : List ℕ) → RdataAt octets layout start size rdata → ⊥
    NamesRead-tail all other rdata at =
        let both = names_same octets fit (start + size) layout.pointers at.names read.names (start + layout.head) at.after_names place (at.counted ∙ sym all ∙ sym read.reading.size) at.named (Reading-order read.reading) in
        let rests : at.rest ≡ start + size - place = omega (arith, both.1, at.filled) in
        other (tail_is layout.tail at.rest (start + size - place) rests at.ends) where
          tail_is : (tail : Option ℕ) (rest size : ℕ) → rest ≡ size → IsTail tail rest → unwrap_or tail size ≡ size
          tail_is None rest size same ends = refl
          tail_is (Some tail) rest size same ends = sym ends ∙ same
