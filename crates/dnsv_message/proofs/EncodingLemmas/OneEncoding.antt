-- Octets that are a message and have no pointer are those that are written for it.
use Rattle.std.proofs.Common.{◌≡◌, ℕ, ◌+◌, ◌<◌, ◌≤◌, false, List, [], ◌∷◌, ◌++◌, length, get_or, take, drop, refl, sym, ap, ◌∙◌, arith, length-append, length-drop}
use Rattle.std.specs.Prelude.{flat_map}
use Rattle.std.specs.Int.{w16, w32, to_be_bytes, from_be_bytes}
use Rattle.std.proofs.Math.Seq.{take-add}
use Rattle.std.proofs.lemmas.List.{length-take-le, drop-drop, take_all}
use Rattle.std.proofs.lemmas.Nat.{be_bytes_2, be_bytes_4}
use Rattle.byteorder.specs.Endian.{big_from}
use Rattle.byteorder.specs.Numbers.{big_from-take}
use Rattle.dnsv_names.specs.Name.{Labels, wire}
use Rattle.dnsv_message.specs.declared.rdata.Layout.{Layout}
use Rattle.dnsv_message.specs.declared.record.Question.{Question}
use Rattle.dnsv_message.specs.declared.record.Record.{Record}
use Rattle.dnsv_message.specs.Layout.{layout_of}
use Rattle.dnsv_message.specs.Message.{Contents, records_of}
use Rattle.dnsv_message.specs.NameAt.{NameFrom, NumberAt, pointer_limit}
use Rattle.dnsv_message.specs.Grammar.{InOrder, RdataNameAt, RdataAt, part_of}
use Rattle.dnsv_message.specs.Encoding.{question_octets, record_octets, header_octets, message_octets, plain_layout, PlainQuestionAt, PlainRecordAt, PlainMessageOf}
use Rattle.dnsv_message.proofs.Numbers.{number_behind, octet_fits, octets_of_part}
use Rattle.dnsv_message.proofs.NameLaws.{NameAt_same}
use Rattle.dnsv_message.proofs.RdataLemmas.{head_fits}
use Rattle.dnsv_message.proofs.RecordParts.{up_to_type, up_to_class, up_to_ttl, up_to_size, length-up_to_type, length-up_to_class, length-up_to_ttl, length-up_to_size}
use Rattle.dnsv_message.proofs.RdataLemmas.RdataWritten.{Stands, name_is, name_stands}

-- the identifier and the flags of a message
abbrev begun_by : Contents → List ℕ
begun_by message = to_be_bytes w16 message.id ++ to_be_bytes w16 message.flags

module _ (octets : List ℕ) where
  -- a part behind a part
  pub Stands-join : (place : ℕ) (a b : List ℕ) (here : ℕ) → place + length a ≡ here → Stands octets place a → Stands octets here b → Stands octets place (a ++ b)
  Stands-join place a b here ends first second = record {
    form = ap (λ n. take n (drop place octets)) (length-append a b) ∙ take-add (length a) (length b) (drop place octets)
        ∙ ap (λ xs. xs ++ take (length b) (drop (length a) (drop place octets))) first.form
        ∙ ap (λ xs. a ++ xs) (ap (take (length b)) (drop-drop (length a) place octets ∙ ap (λ n. drop n octets) ends) ∙ second.form);
  }

  -- things that stand one after another, each as its octets
  Spelled : ℕ → List ℕ → ℕ → Type 0
  Spelled place part end = Stands octets place part × (end ≡ place + length part)

  InOrder-spelled : {X : Type 0} (At : ℕ → X → ℕ → Type 0) (octets_of : X → List ℕ) → ((place : ℕ) (x : X) (end : ℕ) → At place x end → Spelled place (octets_of x) end)
      → (xs : List X) (place end : ℕ) → InOrder At place xs end → Spelled place (flat_map octets_of xs) end
  unfolding Spelled
  InOrder-spelled At octets_of one [] place end order = (record { form = refl }, omega (arith, order))
  InOrder-spelled At octets_of one (x ∷ xs) place end order =
      let first = one place x order.0 order.1 in
      let rest = InOrder-spelled At octets_of one xs order.0 end order.2 in (
        Stands-join place (octets_of x) (flat_map octets_of xs) order.0 (sym first.1) first.0 rest.0,
        omega (arith, first.1, rest.1, length-append (octets_of x) (flat_map octets_of xs)),
      )

  -- a part of the octets stands at its place
  part_stands : (place n : ℕ) → length (part_of octets place n) ≡ n → Stands octets place (part_of octets place n)
  part_stands place n size = record { form = ap (λ m. take m (drop place octets)) size }

  names_spelled : (limit : ℕ) (names : List Labels) (place end : ℕ) → InOrder (RdataNameAt octets limit false) place names end → Spelled place (flat_map wire names) end
  unfolding Spelled
  names_spelled limit = InOrder-spelled (RdataNameAt octets limit false) wire (λ place name end at. (record { form = at.1 }, at.2))

  -- an RDATA no name of which is compressed
  rdata_spelled : (layout : Layout) (start size : ℕ) (rdata : List ℕ) → RdataAt octets (plain_layout layout) start size rdata → start + size ≤ length octets → Stands octets start rdata × (length rdata ≡ size)
  unfolding Spelled
  rdata_spelled layout start size rdata at within =
      let front = part_of octets start layout.head in
      let names = flat_map wire at.names in
      let behind = part_of octets at.after_names at.rest in
      let headed : length front ≡ layout.head = length-take-le layout.head (drop start octets) (omega (arith, head_fits octets (plain_layout layout) start size rdata at, length-drop start octets)) in
      let tailed : length behind ≡ at.rest = length-take-le at.rest (drop at.after_names octets) (omega (arith, at.filled, length-drop at.after_names octets)) in
      let spelled = names_spelled (start + size) at.names (start + layout.head) at.after_names at.named in
      let two = Stands-join start front names (start + layout.head) (omega (arith, headed)) (part_stands start layout.head headed) spelled.0 in
      let three = Stands-join start (front ++ names) behind at.after_names (omega (arith, headed, spelled.1, length-append front names)) two (part_stands at.after_names at.rest tailed) in (
        rw at.written three,
        omega (arith, ap length at.written, length-append (front ++ names) behind, length-append front names, headed, tailed, spelled.1, at.filled),
      )

module _ (octets : List ℕ) (fit : (i : ℕ) → get_or octets i 0 < 256) where
  u16_spelled : (place number : ℕ) → NumberAt octets place 2 number → Stands octets place (to_be_bytes w16 number)
  u16_spelled place number at =
      let part = part_of octets place 2 in
      let size : length part ≡ 2 = length-take-le 2 (drop place octets) (omega (arith, at.0, length-drop place octets)) in
      let same : big_from 0 2 part ≡ from_be_bytes w16 part = omega arith in
      let is : number ≡ from_be_bytes w16 part = at.1 ∙ number_behind octets place 2 at.0 ∙ sym (big_from-take 0 2 2 (drop place octets) (omega arith)) ∙ same in
      record { form = sym (be_bytes_2 part number size (octet_fits part (octets_of_part octets place 2 fit)) is) }

  u32_spelled : (place number : ℕ) → NumberAt octets place 4 number → Stands octets place (to_be_bytes w32 number)
  u32_spelled place number at =
      let part = part_of octets place 4 in
      let size : length part ≡ 4 = length-take-le 4 (drop place octets) (omega (arith, at.0, length-drop place octets)) in
      let same : big_from 0 4 part ≡ from_be_bytes w32 part = omega arith in
      let is : number ≡ from_be_bytes w32 part = at.1 ∙ number_behind octets place 4 at.0 ∙ sym (big_from-take 0 4 4 (drop place octets) (omega arith)) ∙ same in
      record { form = sym (be_bytes_4 part number size (octet_fits part (octets_of_part octets place 4 fit)) is) }

  -- a name without a pointer ends behind its wire form
  name_ends : (place : ℕ) (name : Labels) (end : ℕ) → NameFrom octets place name end → Stands octets place (wire name) → end ≡ place + length (wire name)
  name_ends place name end at stands =
      (NameAt_same octets fit place place pointer_limit name name end (place + length (wire name)) at.0 (name_stands octets place name (name_is octets place name end at) stands).0).1

  question_spelled : (place : ℕ) (question : Question) (end : ℕ) → PlainQuestionAt octets place question end → Spelled octets place (question_octets question) end
  unfolding Spelled
  question_spelled place question end at =
      let stands = at.0 in
      let one = wire question.name in
      let rtype = to_be_bytes w16 question.rtype.0 in
      let class = to_be_bytes w16 question.class.0 in
      let first : Stands octets place one = record { form = at.1 } in
      let after : stands.after_name ≡ place + length one = name_ends place question.name stands.after_name stands.name first in
      let second = Stands-join octets place one rtype stands.after_name (sym after) first (u16_spelled stands.after_name question.rtype.0 stands.rtype) in
      let third = Stands-join octets place (one ++ rtype) class (stands.after_name + 2) (omega (arith, after, length-append one rtype)) second (u16_spelled (stands.after_name + 2) question.class.0 stands.class) in
      (third, omega (arith, stands.ends, after, length-append one rtype, length-append (one ++ rtype) class))

  record_spelled : (place : ℕ) (resource : Record) (end : ℕ) → PlainRecordAt octets place resource end → Spelled octets place (record_octets resource) end
  unfolding Spelled
  record_spelled place resource end at =
      let head = at.stands.head in
      let rtype = to_be_bytes w16 resource.rtype.0 in
      let class = to_be_bytes w16 resource.class.0 in
      let ttl = to_be_bytes w32 resource.ttl.0 in
      let size = to_be_bytes w16 (length resource.rdata) in
      let one = wire resource.name in
      let first : Stands octets place one = record { form = at.name } in
      let after : head.after_name ≡ place + length one = name_ends place resource.name head.after_name head.named first in
      let rdata = rdata_spelled octets (layout_of resource.rtype.0 resource.class.0) at.stands.start at.stands.size resource.rdata at.rdata at.stands.whole in
      let sized : NumberAt octets (head.after_name + 8) 2 (length resource.rdata) = rw rdata.1 head.sized in
      let second = Stands-join octets place one rtype head.after_name (sym after) first (u16_spelled head.after_name resource.rtype.0 head.typed) in
      let third = Stands-join octets place (up_to_type resource) class (head.after_name + 2) (omega (arith, after, length-up_to_type resource)) second (u16_spelled (head.after_name + 2) resource.class.0 head.classed) in
      let fourth = Stands-join octets place (up_to_class resource) ttl (head.after_name + 4) (omega (arith, after, length-up_to_class resource)) third (u32_spelled (head.after_name + 4) resource.ttl.0 head.timed) in
      let fifth = Stands-join octets place (up_to_ttl resource) size (head.after_name + 8) (omega (arith, after, length-up_to_ttl resource)) fourth (u16_spelled (head.after_name + 8) (length resource.rdata) sized) in
      let sixth = Stands-join octets place (up_to_size resource) resource.rdata at.stands.start (omega (arith, after, length-up_to_size resource, head.starts)) fifth rdata.0 in
      (sixth, omega (arith, at.stands.ends, head.starts, after, length-up_to_size resource, rdata.1, length-append (up_to_size resource) resource.rdata))

  -- the octets of a message without pointers
  pub PlainMessageOf-written : (message : Contents) → PlainMessageOf octets message → octets ≡ message_octets message
  unfolding Spelled
  PlainMessageOf-written message at =
      let numbers = at.whole.header in
      let question_count = to_be_bytes w16 (length message.questions) in
      let answer_count = to_be_bytes w16 (length message.answer) in
      let authority_count = to_be_bytes w16 (length message.authority) in
      let additional_count = to_be_bytes w16 (length message.additional) in
      let two = Stands-join octets 0 (to_be_bytes w16 message.id) (to_be_bytes w16 message.flags) 2 refl (u16_spelled 0 message.id numbers.identifier) (u16_spelled 2 message.flags numbers.flag_bits) in
      let three = Stands-join octets 0 (begun_by message) question_count 4 refl two (u16_spelled 4 (length message.questions) numbers.question_count) in
      let four = Stands-join octets 0 (begun_by message ++ question_count) answer_count 6 refl three (u16_spelled 6 (length message.answer) numbers.answer_count) in
      let five = Stands-join octets 0 (begun_by message ++ question_count ++ answer_count) authority_count 8 refl four (u16_spelled 8 (length message.authority) numbers.authority_count) in
      let six = Stands-join octets 0 (begun_by message ++ question_count ++ answer_count ++ authority_count) additional_count 10 refl five (u16_spelled 10 (length message.additional) numbers.additional_count) in
      let header = header_octets message in
      let questions = flat_map question_octets message.questions in
      let records = flat_map record_octets (records_of message) in
      let front = InOrder-spelled octets (PlainQuestionAt octets) question_octets question_spelled message.questions 12 at.after_questions at.questions in
      let behind = InOrder-spelled octets (PlainRecordAt octets) record_octets record_spelled (records_of message) at.after_questions (length octets) at.records in
      let begun = Stands-join octets 0 header questions 12 refl six front.0 in
      let whole = Stands-join octets 0 (header ++ questions) records at.after_questions (omega (arith, length-append header questions, front.1)) begun behind.0 in
      let size : length octets ≤ length (message_octets message) = omega (arith, length-append (header ++ questions) records, length-append header questions, front.1, behind.1) in
      sym (take_all (length (message_octets message)) octets size) ∙ whole.form
