-- Octets are at most one message, or have one fault, and never both.
pub mod MessageOrFault
use Rattle.std.proofs.Common.{◌≡◌, ◌⊎◌, ℕ, ◌+◌, ◌<◌, ◌≤◌, List, ◌++◌, length, get_or, refl, sym, ap, subst, ◌∙◌, arith, ⊎_elim, length-append, Result, Ok, Err}
use Rattle.std.specs.Result.{IfOk, IfErr, MatchResult}
use Rattle.dnsv_names.specs.Name.{Labels}
use Rattle.dnsv_names.specs.Octets.{number_at}
use Rattle.dnsv_message.specs.declared.errors.NameFault.{NameFault}
use Rattle.dnsv_message.specs.declared.errors.DecodeError.{DecodeError}
use Rattle.dnsv_message.specs.declared.errors.DecodeError.TheVariants.{OutOfMemory, Short, BadRdata}
use Rattle.dnsv_message.specs.declared.record.Question.{Question}
use Rattle.dnsv_message.specs.declared.record.Record.{Record}
use Rattle.dnsv_message.specs.Errors.{decode_error_of}
use Rattle.dnsv_message.specs.Message.{Contents}
use Rattle.dnsv_message.specs.Layout.{layout_of}
use Rattle.dnsv_message.specs.NameAt.{NumberAt, NameFrom, NameFaultFrom, pointer_limit}
use Rattle.dnsv_message.specs.Grammar.{InOrder, FirstFault, QuestionAt, QuestionFaultAt, RecordHeadAt, RecordAt, RecordFaultAt, CutShort, RdataAt, RdataFaultAt, FaultBehindHead, HeaderOf, LeavesOctets, RecordsFault, FaultBehindQuestions, BodyFault, FaultBehindHeader, MessageOf, FaultOf}
use Rattle.dnsv_message.proofs.NameLaws.{NameAt_same, NameAt_sound, NameFaultAt_same}
use Rattle.dnsv_message.proofs.RdataLemmas.{RdataAt_same}
use Rattle.dnsv_message.proofs.Sequences.{InOrder-append, InOrder-same, InOrder-sound, FirstFault-same}

module _ (octets : List ℕ) where
  number_same : (place other width n m : ℕ) → place ≡ other → NumberAt octets place width n → NumberAt octets other width m → n ≡ m
  number_same place other width n m same at also = at.1 ∙ ap (λ p. number_at octets p width) same ∙ sym also.1

module _ (octets : List ℕ) (fit : (i : ℕ) → get_or octets i 0 < 256) where
  name_same : (place : ℕ) (name other : Labels) (end after : ℕ) → NameFrom octets place name end → NameFrom octets place other after → (name ≡ other) × (end ≡ after)
  name_same place name other end after at also = NameAt_same octets fit place place pointer_limit name other end after at.0 also.0

  name_sound : (place : ℕ) (name : Labels) (end : ℕ) (fault : NameFault) → NameFrom octets place name end → NameFaultFrom octets place fault → ⊥
  name_sound place name end fault at wrong = NameAt_sound octets fit place place pointer_limit 0 name end fault (omega (arith, at.1)) at.0 wrong

  question_same : (place : ℕ) (question other : Question) (end after : ℕ) → QuestionAt octets place question end → QuestionAt octets place other after → (question ≡ other) × (end ≡ after)
  question_same place question other end after at also =
      let names = name_same place question.name other.name at.after_name also.after_name at.name also.name in
      let types : question.rtype.0 ≡ other.rtype.0 = number_same octets at.after_name also.after_name 2 _ _ names.1 at.rtype also.rtype in
      let classes : question.class.0 ≡ other.class.0 = number_same octets (at.after_name + 2) (also.after_name + 2) 2 _ _ (ap (λ n. n + 2) names.1) at.class also.class in
      ((λ i. record { name = names.0 i; rtype = record { 0 = types i }; class = record { 0 = classes i } }), omega (arith, names.1, at.ends, also.ends))

  -- a name is read and enough stands behind it, or not
  cut_short_sound : (place : ℕ) (name : Labels) (after more : ℕ) (error : DecodeError) → NameFrom octets place name after → after + more ≤ length octets → CutShort octets place more error → ⊥
  cut_short_sound place name after more error at enough wrong = ⊎_elim
      (λ (faulty : (fault : NameFault) × NameFaultFrom octets place fault × (error ≡ decode_error_of fault)). name_sound place name after faulty.0 at faulty.1)
      (λ (short : (other : Labels) × (end : ℕ) × NameFrom octets place other end × (length octets < end + more) × (error ≡ Short)).
      omega (arith, (name_same place name short.0 after short.1 at short.2).1, short.3))
      wrong

  cut_short_same : (place more : ℕ) (error other : DecodeError) → CutShort octets place more error → CutShort octets place more other → error ≡ other
  cut_short_same place more error other wrong also = ⊎_elim
      (λ (faulty : (fault : NameFault) × NameFaultFrom octets place fault × (error ≡ decode_error_of fault)). ⊎_elim
      (λ (faulty' : (fault : NameFault) × NameFaultFrom octets place fault × (other ≡ decode_error_of fault)).
      faulty.2 ∙ ap decode_error_of (NameFaultAt_same octets fit place place pointer_limit 0 faulty.0 faulty'.0 faulty.1 faulty'.1) ∙ sym faulty'.2)
      (λ (short' : (name : Labels) × (end : ℕ) × NameFrom octets place name end × (length octets < end + more) × (other ≡ Short)).
      absurd (name_sound place short'.0 short'.1 faulty.0 short'.2 faulty.1))
      also)
      (λ (short : (name : Labels) × (end : ℕ) × NameFrom octets place name end × (length octets < end + more) × (error ≡ Short)). ⊎_elim
      (λ (faulty' : (fault : NameFault) × NameFaultFrom octets place fault × (other ≡ decode_error_of fault)).
      absurd (name_sound place short.0 short.1 faulty'.0 short.2 faulty'.1))
      (λ (short' : (name : Labels) × (end : ℕ) × NameFrom octets place name end × (length octets < end + more) × (other ≡ Short)). short.4 ∙ sym short'.4)
      also)
      wrong

  question_sound : (number place : ℕ) (question : Question) (end : ℕ) (error : DecodeError) → QuestionAt octets place question end → QuestionFaultAt octets number place error → ⊥
  question_sound number place question end error at wrong =
      cut_short_sound place question.name at.after_name 4 error at.name (omega (arith, at.class.0)) wrong

  -- what the heads of two records have in common
  record HeadSame (name other : Labels) (rtype rtype' class class' ttl ttl' start start' size size' : ℕ) : Type 0 where
    names : name ≡ other
    types : rtype ≡ rtype'
    classes : class ≡ class'
    ttls : ttl ≡ ttl'
    starts : start ≡ start'
    sizes : size ≡ size'

  head_same : (place : ℕ) (name other : Labels) (rtype rtype' class class' ttl ttl' start start' size size' : ℕ) → RecordHeadAt octets place name rtype class ttl start size → RecordHeadAt octets place other rtype' class' ttl' start' size' → HeadSame name other rtype rtype' class class' ttl ttl' start start' size size'
  head_same place name other rtype rtype' class class' ttl ttl' start start' size size' at also =
      let both = name_same place name other at.after_name also.after_name at.named also.named in
      record {
        names = both.0;
        types = number_same octets at.after_name also.after_name 2 _ _ both.1 at.typed also.typed;
        classes = number_same octets (at.after_name + 2) (also.after_name + 2) 2 _ _ (ap (λ n. n + 2) both.1) at.classed also.classed;
        ttls = number_same octets (at.after_name + 4) (also.after_name + 4) 4 _ _ (ap (λ n. n + 4) both.1) at.timed also.timed;
        starts = omega (arith, both.1, at.starts, also.starts);
        sizes = number_same octets (at.after_name + 8) (also.after_name + 8) 2 _ _ (ap (λ n. n + 8) both.1) at.sized also.sized;
      }

  -- an RDATA is the same by what its record's head says
  rdata_moved : (rtype rtype' class class' start start' size size' : ℕ) (rdata : List ℕ) → rtype ≡ rtype' → class ≡ class' → start ≡ start' → size ≡ size' → RdataAt octets (layout_of rtype class) start size rdata → RdataAt octets (layout_of rtype' class') start' size' rdata
  rdata_moved rtype rtype' class class' start start' size size' rdata types classes starts sizes at =
      subst (λ n. RdataAt octets (layout_of rtype' class') start' n rdata) sizes
      (subst (λ n. RdataAt octets (layout_of rtype' class') n size rdata) starts
      (subst (λ n. RdataAt octets (layout_of rtype' n) start size rdata) classes
      (subst (λ n. RdataAt octets (layout_of n class) start size rdata) types at)))

  record_same : (place : ℕ) (resource other : Record) (end after : ℕ) → RecordAt octets place resource end → RecordAt octets place other after → (resource ≡ other) × (end ≡ after)
  record_same place resource other end after at also =
      let heads = head_same place _ _ _ _ _ _ _ _ _ _ _ _ at.head also.head in
      let rdatas : resource.rdata ≡ other.rdata = RdataAt_same octets fit (layout_of other.rtype.0 other.class.0) also.start also.size resource.rdata other.rdata
      (rdata_moved _ _ _ _ _ _ _ _ _ heads.types heads.classes heads.starts heads.sizes at.rdata) also.rdata in (
        (λ i. record { name = heads.names i; rtype = record { 0 = heads.types i }; class = record { 0 = heads.classes i }; ttl = record { 0 = heads.ttls i }; rdata = rdatas i }),
        omega (arith, heads.starts, heads.sizes, at.ends, also.ends),
      )

  rdata_fault_same : (number rtype class start size : ℕ) (error other : DecodeError) → RdataFaultAt octets number rtype class start size error → RdataFaultAt octets number rtype class start size other → error ≡ other
  rdata_fault_same number rtype class start size error other wrong also = ⊎_elim
      (λ (short : (length octets < start + size) × (error ≡ Short)). ⊎_elim
      (λ (short' : (length octets < start + size) × (other ≡ Short)). short.1 ∙ sym short'.1)
      (λ (bad' : (start + size ≤ length octets) × ((rdata : List ℕ) → RdataAt octets (layout_of rtype class) start size rdata → ⊥) × (other ≡ BadRdata number)). absurd (omega (arith, short.0, bad'.0)))
      also)
      (λ (bad : (start + size ≤ length octets) × ((rdata : List ℕ) → RdataAt octets (layout_of rtype class) start size rdata → ⊥) × (error ≡ BadRdata number)). ⊎_elim
      (λ (short' : (length octets < start + size) × (other ≡ Short)). absurd (omega (arith, short'.0, bad.0)))
      (λ (bad' : (start + size ≤ length octets) × ((rdata : List ℕ) → RdataAt octets (layout_of rtype class) start size rdata → ⊥) × (other ≡ BadRdata number)). bad.2 ∙ sym bad'.2)
      also)
      wrong

  record_sound : (number place : ℕ) (resource : Record) (end : ℕ) (error : DecodeError) → RecordAt octets place resource end → RecordFaultAt octets number place error → ⊥
  record_sound number place resource end error at wrong = ⊎_elim
      (λ (cut : CutShort octets place 10 error). cut_short_sound place resource.name at.head.after_name 10 error at.head.named (omega (arith, at.head.sized.0)) cut)
      (λ (headed : FaultBehindHead octets number place error).
      let heads = head_same place _ _ _ _ _ _ _ _ _ _ _ _ at.head headed.head in
      ⊎_elim (λ (short : (length octets < headed.start + headed.size) × (error ≡ Short)). omega (arith, short.0, at.whole, heads.starts, heads.sizes))
      (λ (bad : (headed.start + headed.size ≤ length octets) × ((rdata : List ℕ) → RdataAt octets (layout_of headed.rtype headed.class) headed.start headed.size rdata → ⊥) × (error ≡ BadRdata number)).
      bad.1 resource.rdata (rdata_moved _ _ _ _ _ _ _ _ _ heads.types heads.classes heads.starts heads.sizes at.rdata))
      headed.fault)
      wrong

  record_fault_same : (number place : ℕ) (error other : DecodeError) → RecordFaultAt octets number place error → RecordFaultAt octets number place other → error ≡ other
  record_fault_same number place error other wrong also = ⊎_elim
      (λ (cut : CutShort octets place 10 error). ⊎_elim
      (λ (cut' : CutShort octets place 10 other). cut_short_same place 10 error other cut cut')
      (λ (headed' : FaultBehindHead octets number place other). absurd (cut_short_sound place headed'.name headed'.head.after_name 10 error headed'.head.named (omega (arith, headed'.head.sized.0)) cut))
      also)
      (λ (headed : FaultBehindHead octets number place error). ⊎_elim
      (λ (cut' : CutShort octets place 10 other). absurd (cut_short_sound place headed.name headed.head.after_name 10 other headed.head.named (omega (arith, headed.head.sized.0)) cut'))
      (λ (headed' : FaultBehindHead octets number place other).
      let heads = head_same place _ _ _ _ _ _ _ _ _ _ _ _ headed.head headed'.head in
      rdata_fault_same number headed'.rtype headed'.class headed'.start headed'.size error other
      (rw (← heads.types, ← heads.classes, ← heads.starts, ← heads.sizes) headed.fault) headed'.fault)
      also)
      wrong

  pub questions_same : (xs ys : List Question) (place end other : ℕ) → length xs ≡ length ys → InOrder (QuestionAt octets) place xs end → InOrder (QuestionAt octets) place ys other → (xs ≡ ys) × (end ≡ other)
  questions_same = InOrder-same (QuestionAt octets) (QuestionFaultAt octets) question_same question_sound (λ number place. cut_short_same place 4)

  pub records_same : (xs ys : List Record) (place end other : ℕ) → length xs ≡ length ys → InOrder (RecordAt octets) place xs end → InOrder (RecordAt octets) place ys other → (xs ≡ ys) × (end ≡ other)
  records_same = InOrder-same (RecordAt octets) (RecordFaultAt octets) record_same record_sound record_fault_same

  -- octets are at most one message
  pub MessageOf_same : (message other : Contents) → MessageOf octets message → MessageOf octets other → message ≡ other
  MessageOf_same message other at also =
      let same : (place n m : ℕ) → NumberAt octets place 2 n → NumberAt octets place 2 m → n ≡ m = λ place n m. number_same octets place place 2 n m refl in
      let ids = same 0 _ _ at.header.identifier also.header.identifier in
      let flags = same 2 _ _ at.header.flag_bits also.header.flag_bits in
      let questions = questions_same _ _ 12 _ _ (same 4 _ _ at.header.question_count also.header.question_count) at.questions also.questions in
      let answer = records_same _ _ _ _ _ (same 6 _ _ at.header.answer_count also.header.answer_count) at.answer (subst (λ p. InOrder (RecordAt octets) p other.answer also.after_answer) (sym questions.1) also.answer) in
      let authority = records_same _ _ _ _ _ (same 8 _ _ at.header.authority_count also.header.authority_count) at.authority (subst (λ p. InOrder (RecordAt octets) p other.authority also.after_authority) (sym answer.1) also.authority) in
      let additional = records_same _ _ _ _ _ (same 10 _ _ at.header.additional_count also.header.additional_count) at.additional (subst (λ p. InOrder (RecordAt octets) p other.additional (length octets)) (sym authority.1) also.additional) in
      λ i. record { id = ids i; flags = flags i; questions = questions.0 i; answer = answer.0 i; authority = authority.0 i; additional = additional.0 i }

  -- what a header says is one
  record HeaderSame (question_count answer_count authority_count additional_count question_count' answer_count' authority_count' additional_count' : ℕ) : Type 0 where
    question_counts : question_count ≡ question_count'
    answer_counts : answer_count ≡ answer_count'
    authority_counts : authority_count ≡ authority_count'
    additional_counts : additional_count ≡ additional_count'

  header_same : (id flags question_count answer_count authority_count additional_count id' flags' question_count' answer_count' authority_count' additional_count' : ℕ) → HeaderOf octets id flags question_count answer_count authority_count additional_count → HeaderOf octets id' flags' question_count' answer_count' authority_count' additional_count' → HeaderSame question_count answer_count authority_count additional_count question_count' answer_count' authority_count' additional_count'
  header_same id flags question_count answer_count authority_count additional_count id' flags' question_count' answer_count' authority_count' additional_count' at also =
      let same : (place n m : ℕ) → NumberAt octets place 2 n → NumberAt octets place 2 m → n ≡ m = λ place n m. number_same octets place place 2 n m refl in
      record {
        question_counts = same 4 _ _ at.question_count also.question_count;
        answer_counts = same 6 _ _ at.answer_count also.answer_count;
        authority_counts = same 8 _ _ at.authority_count also.authority_count;
        additional_counts = same 10 _ _ at.additional_count also.additional_count;
      }

  questions_sound : (xs : List Question) (count place end : ℕ) (error : DecodeError) → length xs ≡ count → InOrder (QuestionAt octets) place xs end → FirstFault (QuestionAt octets) (QuestionFaultAt octets) count 1 place error → ⊥
  questions_sound xs count place end error = InOrder-sound (QuestionAt octets) (QuestionFaultAt octets) question_same question_sound (λ number place. cut_short_same place 4) xs count 1 place end error

  records_sound : (xs : List Record) (count place end : ℕ) (error : DecodeError) → length xs ≡ count → InOrder (RecordAt octets) place xs end → FirstFault (RecordAt octets) (RecordFaultAt octets) count 1 place error → ⊥
  records_sound xs count place end error = InOrder-sound (RecordAt octets) (RecordFaultAt octets) record_same record_sound record_fault_same xs count 1 place end error

  -- records that fill the octets leave no fault
  records_fault_sound : (xs : List Record) (total place end : ℕ) (error : DecodeError) → length xs ≡ total → InOrder (RecordAt octets) place xs end → end ≡ length octets → RecordsFault octets total place error → ⊥
  records_fault_sound xs total place end error size order all wrong = ⊎_elim
      (λ (fault : FirstFault (RecordAt octets) (RecordFaultAt octets) total 1 place error). records_sound xs total place end error size order fault)
      (λ (left : LeavesOctets octets total place error). omega (arith, (records_same xs left.records place end left.end (size ∙ sym left.all) order left.stand).1, left.more, all))
      wrong

  -- a message has no fault
  pub MessageOf_sound : (message : Contents) (error : DecodeError) → MessageOf octets message → FaultOf octets error → ⊥
  MessageOf_sound message error at wrong = ⊎_elim
      (λ (short : (length octets < 12) × (error ≡ Short)). omega (arith, short.0, at.header.additional_count.0))
      (λ (behind : FaultBehindHeader octets error).
      let counts = header_same _ _ _ _ _ _ _ _ _ _ _ _ at.header behind.header in
      ⊎_elim
      (λ (question_count : FirstFault (QuestionAt octets) (QuestionFaultAt octets) behind.question_count 1 12 error).
      questions_sound message.questions behind.question_count 12 at.after_questions error counts.question_counts at.questions question_count)
      (λ (later : FaultBehindQuestions octets behind.question_count (behind.answer_count + behind.authority_count + behind.additional_count) error).
      let questions = questions_same message.questions later.questions 12 at.after_questions later.end (counts.question_counts ∙ sym later.all) at.questions later.stand in
      let order = InOrder-append (RecordAt octets) (message.answer ++ message.authority) message.additional at.after_questions at.after_authority (length octets)
      (InOrder-append (RecordAt octets) message.answer message.authority at.after_questions at.after_answer at.after_authority at.answer at.authority) at.additional in
      records_fault_sound ((message.answer ++ message.authority) ++ message.additional) (behind.answer_count + behind.authority_count + behind.additional_count) later.end (length octets) error
      (omega (arith, length-append message.answer message.authority, length-append (message.answer ++ message.authority) message.additional, counts.answer_counts, counts.authority_counts, counts.additional_counts))
      (subst (λ p. InOrder (RecordAt octets) p ((message.answer ++ message.authority) ++ message.additional) (length octets)) questions.1 order)
      refl later.fault)
      behind.fault)
      wrong

  records_fault_same : (total place : ℕ) (error other : DecodeError) → RecordsFault octets total place error → RecordsFault octets total place other → error ≡ other
  records_fault_same total place error other wrong also = ⊎_elim
      (λ (fault : FirstFault (RecordAt octets) (RecordFaultAt octets) total 1 place error). ⊎_elim
      (λ (fault' : FirstFault (RecordAt octets) (RecordFaultAt octets) total 1 place other).
      FirstFault-same (RecordAt octets) (RecordFaultAt octets) record_same record_sound record_fault_same total 1 place error other fault fault')
      (λ (left' : LeavesOctets octets total place other). absurd (records_sound left'.records total place left'.end error left'.all left'.stand fault))
      also)
      (λ (left : LeavesOctets octets total place error). ⊎_elim
      (λ (fault' : FirstFault (RecordAt octets) (RecordFaultAt octets) total 1 place other). absurd (records_sound left.records total place left.end other left.all left.stand fault'))
      (λ (left' : LeavesOctets octets total place other). left.is ∙ sym left'.is)
      also)
      wrong

  body_fault_same : (question_count total : ℕ) (error other : DecodeError) → BodyFault octets question_count total error → BodyFault octets question_count total other → error ≡ other
  body_fault_same question_count total error other wrong also = ⊎_elim
      (λ (fault : FirstFault (QuestionAt octets) (QuestionFaultAt octets) question_count 1 12 error). ⊎_elim
      (λ (fault' : FirstFault (QuestionAt octets) (QuestionFaultAt octets) question_count 1 12 other).
      FirstFault-same (QuestionAt octets) (QuestionFaultAt octets) question_same question_sound (λ number place. cut_short_same place 4) question_count 1 12 error other fault fault')
      (λ (later' : FaultBehindQuestions octets question_count total other). absurd (questions_sound later'.questions question_count 12 later'.end error later'.all later'.stand fault))
      also)
      (λ (later : FaultBehindQuestions octets question_count total error). ⊎_elim
      (λ (fault' : FirstFault (QuestionAt octets) (QuestionFaultAt octets) question_count 1 12 other). absurd (questions_sound later.questions question_count 12 later.end other later.all later.stand fault'))
      (λ (later' : FaultBehindQuestions octets question_count total other).
      let questions = questions_same later.questions later'.questions 12 later.end later'.end (later.all ∙ sym later'.all) later.stand later'.stand in
      records_fault_same total later.end error other later.fault (subst (λ p. RecordsFault octets total p other) (sym questions.1) later'.fault))
      also)
      wrong

  -- octets have at most one fault
  pub FaultOf_same : (error other : DecodeError) → FaultOf octets error → FaultOf octets other → error ≡ other
  FaultOf_same error other wrong also = ⊎_elim
      (λ (short : (length octets < 12) × (error ≡ Short)). ⊎_elim
      (λ (short' : (length octets < 12) × (other ≡ Short)). short.1 ∙ sym short'.1)
      (λ (behind' : FaultBehindHeader octets other). absurd (omega (arith, short.0, behind'.header.additional_count.0)))
      also)
      (λ (behind : FaultBehindHeader octets error). ⊎_elim
      (λ (short' : (length octets < 12) × (other ≡ Short)). absurd (omega (arith, short'.0, behind.header.additional_count.0)))
      (λ (behind' : FaultBehindHeader octets other).
      let counts = header_same _ _ _ _ _ _ _ _ _ _ _ _ behind.header behind'.header in
      let totals : behind'.answer_count + behind'.authority_count + behind'.additional_count ≡ behind.answer_count + behind.authority_count + behind.additional_count = omega (arith, counts.answer_counts, counts.authority_counts, counts.additional_counts) in
      body_fault_same behind.question_count (behind.answer_count + behind.authority_count + behind.additional_count) error other behind.fault
      (subst (λ n. BodyFault octets n (behind.answer_count + behind.authority_count + behind.additional_count) other) (sym counts.question_counts)
      (subst (λ n. BodyFault octets behind'.question_count n other) totals behind'.fault)))
      also)
      wrong

  -- so what stands in the octets is found, where the answer is sound both ways
  pub message_found : {X : Type 0} (contents : X → Contents) (answer : Result X DecodeError) → IfOk answer (λ found. MessageOf octets (contents found)) → IfErr answer (λ error. (error ≡ OutOfMemory) ⊎ FaultOf octets error)
      → (message : Contents) → MessageOf octets message → MatchResult answer (λ found. contents found ≡ message) (λ error. error ≡ OutOfMemory)
  message_found contents (Ok found) ok err message at = MessageOf_same (contents found) message ok at
  message_found contents (Err error) ok err message at = ⊎_elim
      (λ (memory : error ≡ OutOfMemory). memory)
      (λ (fault : FaultOf octets error). absurd (MessageOf_sound message error at fault))
      err
