-- What is true of every message, wherever it stands.
use Rattle.std.proofs.Common.{ℕ, ◌+◌, ◌^◌, ◌<◌, List, [], ◌∷◌, ◌++◌, length, get_or, sym, subst, arith}
use Rattle.std.specs.Prelude.{flat_map}
use Rattle.std.specs.List.{AllByRecursion}
use Rattle.byteorder.specs.Numbers.{big_from-lt}
use Rattle.dnsv_names.specs.Name.{Labels, IsLabel, IsName, wire}
use Rattle.dnsv_names.specs.Octets.{AreOctets}
use Rattle.dnsv_message.specs.declared.record.Question.{Question}
use Rattle.dnsv_message.specs.declared.record.Record.{Record}
use Rattle.dnsv_message.specs.Message.{Contents, records_of}
use Rattle.dnsv_message.specs.Layout.{layout_of}
use Rattle.dnsv_message.specs.NameAt.{NumberAt}
use Rattle.dnsv_message.specs.Grammar.{QuestionAt, RdataNameAt, RdataAt, RecordAt, MessageOf, IsMessage, part_of}
use Rattle.dnsv_message.specs.Fits.{FitsQuestion, FitsRecord, FitsMessage}
use Rattle.dnsv_message.proofs.Numbers.{octet_fits, octets_of_part, number_sum}
use Rattle.dnsv_message.proofs.RdataLemmas.{rdata_name}
use Rattle.dnsv_message.proofs.RdataLemmas.RdataWritten.{InOrder-each, name_is, layout_short, rdata_short, rdata_parts}
use Rattle.dnsv_message.proofs.TailLemmas.{records_in_order}

-- ---- what is true of each of two lists is true of both, joined

pub each-append : {X : Type 0} (P : X → Type 0) (xs ys : List X) → AllByRecursion P xs → AllByRecursion P ys → AllByRecursion P (xs ++ ys)
each-append P [] ys front behind = behind
each-append P (x ∷ xs) ys front behind = (front.0, each-append P xs ys front.1 behind)

pub each-front : {X : Type 0} (P : X → Type 0) (xs ys : List X) → AllByRecursion P (xs ++ ys) → AllByRecursion P xs
each-front P [] ys all = tt
each-front P (x ∷ xs) ys all = (all.0, each-front P xs ys all.1)

pub each-behind : {X : Type 0} (P : X → Type 0) (xs ys : List X) → AllByRecursion P (xs ++ ys) → AllByRecursion P ys
each-behind P [] ys all = all
each-behind P (x ∷ xs) ys all = each-behind P xs ys all.1

-- ---- octets

pub wire_octets : (labels : Labels) → AllByRecursion IsLabel labels → AreOctets (wire labels)
wire_octets [] each = (omega arith, tt)
wire_octets (label ∷ labels) each =
    (omega (arith, each.0.at_most_63), each-append (λ octet. octet < 256) label (wire labels) each.0.octets (wire_octets labels each.1))

names_octets : (names : List Labels) → AllByRecursion IsName names → AreOctets (flat_map wire names)
names_octets [] each = tt
names_octets (name ∷ names) each =
    each-append (λ octet. octet < 256) (wire name) (flat_map wire names) (wire_octets name each.0.each) (names_octets names each.1)

-- ---- questions and records

number_fits : (octets : List ℕ) (place n number : ℕ) → ((i : ℕ) → get_or octets i 0 < 256) → NumberAt octets place n number → number < 256 ^ n
number_fits octets place n number fit at = rw (number_sum octets place n number at) (big_from-lt place n octets fit)

module _ (octets : List ℕ) (fit : (i : ℕ) → get_or octets i 0 < 256) where
  rdata_octets : (rtype class start size : ℕ) (rdata : List ℕ) → RdataAt octets (layout_of rtype class) start size rdata → AreOctets rdata
  rdata_octets rtype class start size rdata at =
      let layout = layout_of rtype class in
      let IsOctet : ℕ → Type 0 = λ octet. octet < 256 in
      let names = names_octets at.names
      (InOrder-each (RdataNameAt octets (start + size) layout.pointers) IsName (λ place name end named. name_is octets place name end (rdata_name octets (start + size) layout.pointers place name end named).0)
      at.names (start + layout.head) at.after_names at.named) in
      subst AreOctets (sym at.written)
      (each-append IsOctet (part_of octets start layout.head ++ flat_map wire at.names) (part_of octets at.after_names at.rest)
      (each-append IsOctet (part_of octets start layout.head) (flat_map wire at.names) (octets_of_part octets start layout.head fit) names)
      (octets_of_part octets at.after_names at.rest fit))

  question_fits : (place : ℕ) (question : Question) (end : ℕ) → QuestionAt octets place question end → FitsQuestion question
  question_fits place question end at = record {
    name = name_is octets place question.name at.after_name at.name;
    rtype = number_fits octets at.after_name 2 question.rtype.0 fit at.rtype;
    class = number_fits octets (at.after_name + 2) 2 question.class.0 fit at.class;
  }

  record_fits : (place : ℕ) (resource : Record) (end : ℕ) → RecordAt octets place resource end → FitsRecord resource
  record_fits place resource end at =
      let size : at.size < 256 ^ 2 = number_fits octets (at.head.after_name + 8) 2 at.size fit at.head.sized in
      record {
        name = name_is octets place resource.name at.head.after_name at.head.named;
        rtype = number_fits octets at.head.after_name 2 resource.rtype.0 fit at.head.typed;
        class = number_fits octets (at.head.after_name + 2) 2 resource.class.0 fit at.head.classed;
        ttl = number_fits octets (at.head.after_name + 4) 4 resource.ttl.0 fit at.head.timed;
        size = rdata_short octets (layout_of resource.rtype.0 resource.class.0) at.start at.size resource.rdata at.rdata (omega (arith, size)) (layout_short resource.rtype.0 resource.class.0);
        octets = rdata_octets resource.rtype.0 resource.class.0 at.start at.size resource.rdata at.rdata;
        parts = rdata_parts octets resource.rtype.0 resource.class.0 at.start at.size resource.rdata at.rdata at.whole;
      }

  message_fits : (message : Contents) → MessageOf octets message → FitsMessage message
  message_fits message at = record {
    id = number_fits octets 0 2 message.id fit at.header.identifier;
    flags = number_fits octets 2 2 message.flags fit at.header.flag_bits;
    question_count = number_fits octets 4 2 (length message.questions) fit at.header.question_count;
    answer_count = number_fits octets 6 2 (length message.answer) fit at.header.answer_count;
    authority_count = number_fits octets 8 2 (length message.authority) fit at.header.authority_count;
    additional_count = number_fits octets 10 2 (length message.additional) fit at.header.additional_count;
    questions = InOrder-each (QuestionAt octets) FitsQuestion question_fits message.questions 12 at.after_questions at.questions;
    records = InOrder-each (RecordAt octets) FitsRecord record_fits (records_of message) at.after_questions (length octets) (records_in_order octets message at);
  }

pub IsMessage-fits : (message : Contents) → IsMessage message → FitsMessage message
IsMessage-fits message is = message_fits is.0 (octet_fits is.0 is.1) message is.2

-- ---- the records of each section

module _ (message : Contents) (fits : FitsMessage message) where
  pub answer_fits : AllByRecursion FitsRecord message.answer
  answer_fits = each-front FitsRecord message.answer message.authority (each-front FitsRecord (message.answer ++ message.authority) message.additional fits.records)

  pub authority_fits : AllByRecursion FitsRecord message.authority
  authority_fits = each-behind FitsRecord message.answer message.authority (each-front FitsRecord (message.answer ++ message.authority) message.additional fits.records)

  pub additional_fits : AllByRecursion FitsRecord message.additional
  additional_fits = each-behind FitsRecord (message.answer ++ message.authority) message.additional fits.records
