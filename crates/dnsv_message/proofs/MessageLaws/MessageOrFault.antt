-- Every list of octets is a message, or has a fault.
use Rattle.std.proofs.Common.{◌≡◌, ◌⊎◌, inl, inr, ⊎_elim, ℕ, zero, suc, ◌+◌, ◌-◌, ◌<◌, ◌≤◌, Bool, true, false, Option, Some, None, List, [], ◌∷◌, ◌++◌, length, get_or, take, refl, sym, ap, subst, ◌∙◌, arith, length-append}
use Rattle.std.specs.Prelude.{flat_map}
use Rattle.std.proofs.lemmas.Bool.{cases_lt}
use Rattle.std.proofs.lemmas.List.{drop_more}
use Rattle.dnsv_names.specs.Name.{Labels, wire}
use Rattle.dnsv_names.specs.Octets.{number_at}
use Rattle.dnsv_message.specs.declared.errors.NameFault.{NameFault}
use Rattle.dnsv_message.specs.declared.errors.NameFault.TheVariants as name
use Rattle.dnsv_message.specs.declared.errors.DecodeError.{DecodeError}
use Rattle.dnsv_message.specs.declared.errors.DecodeError.TheVariants.{Short, BadRdata, TrailingBytes}
use Rattle.dnsv_message.specs.declared.rdata.Layout.{Layout}
use Rattle.dnsv_message.specs.declared.record.Question.{Question}
use Rattle.dnsv_message.specs.declared.record.Record.{Record}
use Rattle.dnsv_message.specs.Errors.{decode_error_of}
use Rattle.dnsv_message.specs.Layout.{layout_of}
use Rattle.dnsv_message.specs.Message.{Contents}
use Rattle.dnsv_message.specs.NameAt.{NumberAt, LabelAt, PointerAt, NameAt, root, label, pointer, NameFrom, NameFaultAt, here, after_label, after_pointer, NameFaultFrom, pointer_limit}
use Rattle.dnsv_message.specs.Grammar.{InOrder, FirstFault, QuestionAt, QuestionFaultAt, CutShort, RdataNameAt, RdataAt, IsTail, part_of, RecordHeadAt, RecordAt, RecordFaultAt, HeaderOf, RecordsFault, BodyFault, MessageOf, FaultOf}
use Rattle.dnsv_message.proofs.Numbers.{label_here, number_sum, number_from}
use Rattle.dnsv_message.proofs.NameLaws.{NameAt_same, NameAt_sound}
use Rattle.dnsv_message.proofs.RdataLemmas.{NoName, plain_at, rdata_name, head_fits, names_same, names_missing}
use Rattle.dnsv_message.proofs.RdataLemmas.RdataWritten.{Stands, labels_are}
use Rattle.dnsv_message.proofs.EncodingLemmas.OneEncoding.{Stands-join}
use Rattle.dnsv_message.proofs.Sequences.{InOrder-or_fault, InOrder-within, InOrder-split}

module _ (octets : List ℕ) (fit : (i : ℕ) → get_or octets i 0 < 256) where
  -- ---- names

  -- a name goes on at the place, where `size` octets of it are written out already, or has a fault from there on
  abbrev NameOr : ℕ → ℕ → ℕ → ℕ → Type 0
  NameOr place run pointers size =
      ((labels : Labels) × (end : ℕ) × NameAt octets place run pointers labels end × (size + length (wire labels) ≤ 255))
      ⊎ ((fault : NameFault) × NameFaultAt octets place run pointers size fault)

  -- and so it does where a pointer leads
  abbrev Led : ℕ → Type 0
  Led zero = Unit {0}
  Led (suc left) = (target size : ℕ) → size + 1 ≤ 255 → NameOr target target left size

  label_or : (place run pointers size n : ℕ) → NumberAt octets place 1 n → 0 < n → n < 64
      → ((first : List ℕ) → LabelAt octets place first → size + (1 + length first) + 1 ≤ 255 → NameOr (place + (1 + length first)) run pointers (size + (1 + length first)))
      → NameOr place run pointers size
  label_or place run pointers size n octet some small next = ⊎_elim
      (λ (missing : length octets < place + (1 + n)). inr (name.Short, here (inr (n, octet, inl (some, small, missing)))))
      (λ (whole : place + (1 + n) ≤ length octets).
      let found = label_here octets place n fit octet some (omega (arith, small)) whole in
      ⊎_elim
      (λ (long : 255 < size + (1 + length found.0) + 1). inr (name.LongName, here (found.0, found.1, long)))
      (λ (fits : size + (1 + length found.0) + 1 ≤ 255). ⊎_elim
      (λ (rest : (labels : Labels) × (end : ℕ) × NameAt octets (place + (1 + length found.0)) run pointers labels end × (size + (1 + length found.0) + length (wire labels) ≤ 255)).
      inl (found.0 ∷ rest.0, rest.1, label found.1 rest.2, omega (arith, rest.3, length-append found.0 (wire rest.0))))
      (λ (wrong : (fault : NameFault) × NameFaultAt octets (place + (1 + length found.0)) run pointers (size + (1 + length found.0)) fault).
      inr (wrong.0, after_label found.1 fits wrong.1))
      (next found.0 found.1 fits))
      (cases_lt 255 (size + (1 + length found.0) + 1)))
      (cases_lt (length octets) (place + (1 + n)))

  follow_or : (place run pointers size target : ℕ) → size + 1 ≤ 255 → PointerAt octets place target → target < run → Led pointers → NameOr place run pointers size
  follow_or place run zero size target room at back led = inr (name.TooManyPointers, here (target, at, back, refl))
  follow_or place run (suc left) size target room at back led = ⊎_elim
      (λ (rest : (labels : Labels) × (end : ℕ) × NameAt octets target target left labels end × (size + length (wire labels) ≤ 255)).
      inl (rest.0, place + 2, pointer at back rest.2, rest.3))
      (λ (wrong : (fault : NameFault) × NameFaultAt octets target target left size fault). inr (wrong.0, after_pointer at back wrong.1))
      (led target size room)

  pointer_or : (place run pointers size n : ℕ) → size + 1 ≤ 255 → NumberAt octets place 1 n → 192 ≤ n → Led pointers → NameOr place run pointers size
  pointer_or place run pointers size n room octet top led = ⊎_elim
      (λ (missing : length octets < place + 2). inr (name.Short, here (inr (n, octet, inr (top, missing)))))
      (λ (whole : place + 2 ≤ length octets).
      let first = number_sum octets place 1 n octet in
      let both = number_sum octets place 2 (number_at octets place 2) (whole, refl) in
      let target = number_at octets place 2 - 49152 in
      let at : PointerAt octets place target = (omega (arith, fit place, fit (suc place), first, both), (whole, omega (arith, first, both))) in
      ⊎_elim
      (λ (back : target < run). follow_or place run pointers size target room at back led)
      (λ (forward : run ≤ target). inr (name.BadPointer, here (target, at, forward)))
      (cases_lt target run))
      (cases_lt (length octets) (place + 2))

  name_on : (pointers : ℕ) → Led pointers → (fuel place run size : ℕ) → size + 1 ≤ 255 → 255 ≤ size + fuel → NameOr place run pointers size
  name_on pointers led zero place run size room enough = absurd (omega (arith, room, enough))
  name_on pointers led (suc fuel) place run size room enough = ⊎_elim
      (λ (within : place < length octets).
      let n = get_or octets place 0 in
      let octet : NumberAt octets place 1 n = number_from octets place 1 n (omega (arith, within)) (omega arith) in
      ⊎_elim
      (λ (none : n < 1). inl ([], place + 1, root (octet.0, omega (arith, none)), omega (arith, room)))
      (λ (some : 1 ≤ n). ⊎_elim
      (λ (small : n < 64). label_or place run pointers size n octet (omega (arith, some)) small
      (λ first at fits. name_on pointers led fuel (place + (1 + length first)) run (size + (1 + length first)) fits (omega (arith, enough))))
      (λ (large : 64 ≤ n). ⊎_elim
      (λ (unknown : n < 192). inr (name.BadLabel, here (n, octet, large, unknown)))
      (λ (top : 192 ≤ n). pointer_or place run pointers size n room octet top led)
      (cases_lt n 192))
      (cases_lt n 64))
      (cases_lt n 1))
      (λ (past : length octets ≤ place). inr (name.Short, here (inl past)))
      (cases_lt place (length octets))

  name_or : (pointers place run size : ℕ) → size + 1 ≤ 255 → NameOr place run pointers size
  name_or zero place run size room = name_on zero tt 255 place run size room (omega arith)
  name_or (suc left) place run size room =
      name_on (suc left) (λ target size room. name_or left target target size room) 255 place run size room (omega arith)

  -- a name stands at the place and enough behind it, or it is cut short there
  cut_short_or : (place more : ℕ) → ((name : Labels) × (after_name : ℕ) × NameFrom octets place name after_name × (after_name + more ≤ length octets)) ⊎ ((error : DecodeError) × CutShort octets place more error)
  cut_short_or place more = ⊎_elim
      (λ (found : (labels : Labels) × (end : ℕ) × NameAt octets place place pointer_limit labels end × (0 + length (wire labels) ≤ 255)).
      let at : NameFrom octets place found.0 found.1 = (found.2, omega (arith, found.3)) in
      ⊎_elim
      (λ (missing : length octets < found.1 + more). inr (Short, inr (found.0, found.1, at, missing, refl)))
      (λ (enough : found.1 + more ≤ length octets). inl (found.0, found.1, at, enough))
      (cases_lt (length octets) (found.1 + more)))
      (λ (wrong : (fault : NameFault) × NameFaultFrom octets place fault). inr (decode_error_of wrong.0, inl (wrong.0, wrong.1, refl)))
      (name_or pointer_limit place place 0 (omega arith))

  question_or : (number place : ℕ) → ((question : Question) × (end : ℕ) × QuestionAt octets place question end) ⊎ ((error : DecodeError) × QuestionFaultAt octets number place error)
  question_or number place = ⊎_elim
      (λ (found : (name : Labels) × (after_name : ℕ) × NameFrom octets place name after_name × (after_name + 4 ≤ length octets)).
      let after = found.1 in
      let question : Question = record { name = found.0; rtype = record { 0 = number_at octets after 2 }; class = record { 0 = number_at octets (after + 2) 2 } } in
      inl (question, after + 4, record { after_name = after; name = found.2; rtype = (omega (arith, found.3), refl); class = (omega (arith, found.3), refl); ends = refl }))
      inr
      (cut_short_or place 4)

  -- ---- RDATA

  -- what is read without following a pointer is spelled there
  plain_name : (place run : ℕ) (labels : Labels) (end : ℕ) → NameAt octets place run zero labels end → Stands octets place (wire labels) × (end ≡ place + length (wire labels))
  plain_name place run labels end (root at) = (
    record { form = ap (take 1) (drop_more octets place 0 (omega (arith, at.0))) ∙ ap (λ n. n ∷ []) (omega (arith, number_sum octets place 1 0 at)) },
    omega arith,
  )
  plain_name place run labels end (label {first = first} {labels = rest} at more) =
      let behind = plain_name (place + (1 + length first)) run rest end more in (
        Stands-join octets place (length first ∷ first) (wire rest) (place + (1 + length first)) (omega arith) (record { form = at.1 }) behind.0,
        omega (arith, behind.1, length-append first (wire rest)),
      )

  abbrev RdataNameOr : ℕ → Bool → ℕ → Type 0
  RdataNameOr limit pointers place =
      ((name : Labels) × (end : ℕ) × RdataNameAt octets limit pointers place name end) ⊎ ((error : Unit {0}) × NoName octets limit pointers 1 place error)

  rdata_name_or : (limit : ℕ) (pointers : Bool) (place : ℕ) → RdataNameOr limit pointers place
  rdata_name_or limit true place = ⊎_elim
      (λ (found : (labels : Labels) × (end : ℕ) × NameAt octets place place pointer_limit labels end × (0 + length (wire labels) ≤ 255)). ⊎_elim
      (λ (past : limit < found.1). inr (tt, λ other end at. omega (arith, past, at.1, (NameAt_same octets fit place place pointer_limit found.0 other found.1 end found.2 at.0.0).1)))
      (λ (within : found.1 ≤ limit). inl (found.0, found.1, ((found.2, omega (arith, found.3)), within)))
      (cases_lt limit found.1))
      (λ (wrong : (fault : NameFault) × NameFaultFrom octets place fault).
      inr (tt, λ other end at. NameAt_sound octets fit place place pointer_limit 0 other end wrong.0 (omega (arith, at.0.1)) at.0.0 wrong.1))
      (name_or pointer_limit place place 0 (omega arith))
  rdata_name_or limit false place = ⊎_elim
      (λ (found : (labels : Labels) × (end : ℕ) × NameAt octets place place zero labels end × (0 + length (wire labels) ≤ 255)).
      let spelled = plain_name place place found.0 found.1 found.2 in
      ⊎_elim
      (λ (past : limit < found.1). inr (
        tt,
        λ other end at. omega (arith, past, at.2, at.3, (NameAt_same octets fit place place zero found.0 other found.1 (place + length (wire other)) found.2 (plain_at octets other place place zero at.0.each at.1)).1),
      ))
      (λ (within : found.1 ≤ limit). inl (found.0, found.1, (record { each = labels_are octets place place zero found.0 found.1 found.2; at_most_255 = omega (arith, found.3) }, spelled.0.form, spelled.1, within)))
      (cases_lt limit found.1))
      (λ (wrong : (fault : NameFault) × NameFaultAt octets place place zero 0 fault).
      inr (tt, λ other end at. NameAt_sound octets fit place place zero 0 other (place + length (wire other)) wrong.0 (omega (arith, at.0.at_most_255)) (plain_at octets other place place zero at.0.each at.1) wrong.1))
      (name_or zero place place 0 (omega arith))

  tail_or : (tail : Option ℕ) (size : ℕ) → IsTail tail size ⊎ (IsTail tail size → ⊥)
  tail_or None size = inl tt
  tail_or (Some tail) size = ⊎_elim
      (λ (less : size < tail). inr (λ same. omega (arith, less, same)))
      (λ (least : tail ≤ size). ⊎_elim
      (λ (more : tail < size). inr (λ same. omega (arith, more, same)))
      (λ (most : size ≤ tail). inl (omega (arith, least, most)))
      (cases_lt tail size))
      (cases_lt size tail)

  rdata_or : (layout : Layout) (start size : ℕ) → ((rdata : List ℕ) × RdataAt octets layout start size rdata) ⊎ ((rdata : List ℕ) → RdataAt octets layout start size rdata → ⊥)
  rdata_or layout start size =
      let limit = start + size in
      let At = RdataNameAt octets limit layout.pointers in
      let None_at = NoName octets limit layout.pointers in
      let first = start + layout.head in
      ⊎_elim
      (λ (short : size < layout.head). inr (λ rdata at. omega (arith, short, head_fits octets layout start size rdata at)))
      (λ (room : layout.head ≤ size). ⊎_elim
      (λ (found : (names : List Labels) × (end : ℕ) × InOrder At first names end × (length names ≡ layout.names)).
      let within : found.1 ≤ limit =
      InOrder-within At limit (λ place name end at. (rdata_name octets limit layout.pointers place name end at).1) found.0 first found.1 (omega (arith, room)) found.2 in
      let rest = limit - found.1 in
      ⊎_elim
      (λ (tail : IsTail layout.tail rest). inl (
        part_of octets start layout.head ++ flat_map wire found.0 ++ part_of octets found.1 rest,
        record { names = found.0; after_names = found.1; rest = rest; counted = found.3; named = found.2; filled = omega (arith, within); ends = tail; written = refl },
      ))
      (λ (other : IsTail layout.tail rest → ⊥). inr (λ rdata at.
      let both = names_same octets fit limit layout.pointers found.0 at.names first found.1 at.after_names (found.3 ∙ sym at.counted) found.2 at.named in
      let same : at.rest ≡ rest = omega (arith, both.1, at.filled, within) in
      other (subst (IsTail layout.tail) same at.ends)))
      (tail_or layout.tail rest))
      (λ (missing : (error : Unit {0}) × FirstFault At None_at layout.names 1 first error).
      inr (λ rdata at. names_missing octets fit limit layout.pointers at.names layout.names first at.after_names at.counted at.named missing.1))
      (InOrder-or_fault At None_at (λ number place. rdata_name_or limit layout.pointers place) layout.names 1 first))
      (cases_lt size layout.head)

  -- ---- records and messages

  record_or : (number place : ℕ) → ((resource : Record) × (end : ℕ) × RecordAt octets place resource end) ⊎ ((error : DecodeError) × RecordFaultAt octets number place error)
  record_or number place = ⊎_elim
      (λ (found : (name : Labels) × (after_name : ℕ) × NameFrom octets place name after_name × (after_name + 10 ≤ length octets)).
      let after = found.1 in
      let rtype = number_at octets after 2 in
      let class = number_at octets (after + 2) 2 in
      let ttl = number_at octets (after + 4) 4 in
      let size = number_at octets (after + 8) 2 in
      let start = after + 10 in
      let head : RecordHeadAt octets place found.0 rtype class ttl start size = record {
        after_name = after;
        named = found.2;
        typed = (omega (arith, found.3), refl);
        classed = (omega (arith, found.3), refl);
        timed = (omega (arith, found.3), refl);
        sized = (omega (arith, found.3), refl);
        starts = refl;
      } in
      ⊎_elim
      (λ (missing : length octets < start + size).
      inr (Short, inr (record { name = found.0; rtype = rtype; class = class; ttl = ttl; start = start; size = size; head = head; fault = inl (missing, refl) })))
      (λ (whole : start + size ≤ length octets). ⊎_elim
      (λ (read : (rdata : List ℕ) × RdataAt octets (layout_of rtype class) start size rdata).
      let resource : Record = record { name = found.0; rtype = record { 0 = rtype }; class = record { 0 = class }; ttl = record { 0 = ttl }; rdata = read.0 } in
      inl (resource, start + size, record { start = start; size = size; head = head; whole = whole; rdata = read.1; ends = refl }))
      (λ (none : (rdata : List ℕ) → RdataAt octets (layout_of rtype class) start size rdata → ⊥).
      inr (BadRdata number, inr (record { name = found.0; rtype = rtype; class = class; ttl = ttl; start = start; size = size; head = head; fault = inr (whole, none, refl) })))
      (rdata_or (layout_of rtype class) start size))
      (cases_lt (length octets) (start + size)))
      (λ (cut : (error : DecodeError) × CutShort octets place 10 error). inr (cut.0, inl cut.1))
      (cut_short_or place 10)

  pub some_message_or_fault : ((message : Contents) × MessageOf octets message) ⊎ ((error : DecodeError) × FaultOf octets error)
  some_message_or_fault = ⊎_elim
      (λ (short : length octets < 12). inr (Short, inl (short, refl)))
      (λ (whole : 12 ≤ length octets).
      let id = number_at octets 0 2 in
      let flags = number_at octets 2 2 in
      let question_count = number_at octets 4 2 in
      let answer_count = number_at octets 6 2 in
      let authority_count = number_at octets 8 2 in
      let additional_count = number_at octets 10 2 in
      let total = answer_count + authority_count + additional_count in
      let header : HeaderOf octets id flags question_count answer_count authority_count additional_count = record {
        identifier = (omega (arith, whole), refl);
        flag_bits = (omega (arith, whole), refl);
        question_count = (omega (arith, whole), refl);
        answer_count = (omega (arith, whole), refl);
        authority_count = (omega (arith, whole), refl);
        additional_count = (omega (arith, whole), refl);
      } in
      let faulty : (error : DecodeError) → BodyFault octets question_count total error → FaultOf octets error = λ error fault. inr (record {
        id = id;
        flags = flags;
        question_count = question_count;
        answer_count = answer_count;
        authority_count = authority_count;
        additional_count = additional_count;
        header = header;
        fault = fault;
      }) in
      ⊎_elim
      (λ (asked : (questions : List Question) × (end : ℕ) × InOrder (QuestionAt octets) 12 questions end × (length questions ≡ question_count)).
      let behind : (error : DecodeError) → RecordsFault octets total asked.1 error → FaultOf octets error = λ error fault.
      faulty error (inr (record { questions = asked.0; end = asked.1; stand = asked.2; all = asked.3; fault = fault })) in
      let begins : asked.1 ≤ length octets = InOrder-within (QuestionAt octets) (length octets) (λ place question end at. omega (arith, at.class.0, at.ends)) asked.0 12 asked.1 whole asked.2 in
      ⊎_elim
      (λ (told : (records : List Record) × (end : ℕ) × InOrder (RecordAt octets) asked.1 records end × (length records ≡ total)).
      let within : told.1 ≤ length octets = InOrder-within (RecordAt octets) (length octets) (λ place resource end at. omega (arith, at.whole, at.ends)) told.0 asked.1 told.1 begins told.2 in
      ⊎_elim
      (λ (more : told.1 < length octets). inr (TrailingBytes, behind TrailingBytes (inr (record { records = told.0; end = told.1; stand = told.2; all = told.3; more = more; is = refl }))))
      (λ (filled : length octets ≤ told.1).
      let two = InOrder-split (RecordAt octets) (answer_count + authority_count) additional_count told.0 asked.1 told.1 told.3 told.2 in
      let one = InOrder-split (RecordAt octets) answer_count authority_count two.0 asked.1 two.2 two.3 two.5 in
      let ends : told.1 ≡ length octets = omega (arith, within, filled) in
      let message : Contents = record { id = id; flags = flags; questions = asked.0; answer = one.0; authority = one.1; additional = two.1 } in
      inl (
        message,
        record {
          header = record {
            identifier = header.identifier;
            flag_bits = header.flag_bits;
            question_count = subst (NumberAt octets 4 2) (sym asked.3) header.question_count;
            answer_count = subst (NumberAt octets 6 2) (sym one.3) header.answer_count;
            authority_count = subst (NumberAt octets 8 2) (sym one.4) header.authority_count;
            additional_count = subst (NumberAt octets 10 2) (sym two.4) header.additional_count;
          };
          after_questions = asked.1;
          after_answer = one.2;
          after_authority = two.2;
          questions = asked.2;
          answer = one.5;
          authority = one.6;
          additional = subst (InOrder (RecordAt octets) two.2 two.1) ends two.6;
        },
      ))
      (cases_lt told.1 (length octets)))
      (λ (wrong : (error : DecodeError) × FirstFault (RecordAt octets) (RecordFaultAt octets) total 1 asked.1 error). inr (wrong.0, behind wrong.0 (inl wrong.1)))
      (InOrder-or_fault (RecordAt octets) (RecordFaultAt octets) record_or total 1 asked.1))
      (λ (wrong : (error : DecodeError) × FirstFault (QuestionAt octets) (QuestionFaultAt octets) question_count 1 12 error). inr (wrong.0, faulty wrong.0 (inl wrong.1)))
      (InOrder-or_fault (QuestionAt octets) (QuestionFaultAt octets) question_or question_count 1 12))
      (cases_lt (length octets) 12)
