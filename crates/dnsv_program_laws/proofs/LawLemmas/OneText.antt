-- For its files a request has at most one text.
use Rattle.std.proofs.Common.{◌≡◌, ℕ, suc, Bool, List, [], ◌∷◌, ◌++◌, Option, Some, None, refl, sym, ap, subst, ◌∙◌}
use Rattle.std.specs.Prelude.{true, false}
use Rattle.dnsv_answers.specs.declared.heading.Moments.{Moments}
use Rattle.dnsv_answers.specs.declared.heading.Moments.TheVariants.{At, Between}
use Rattle.dnsv_names.specs.Name.{Labels}
use Rattle.dnsv_names.specs.Octets.{AreOctets}
use Rattle.dnsv_message.specs.Message.{Contents}
use Rattle.dnsv_records.specs.declared.rrsig.Rrsig.{Rrsig}
use Rattle.dnsv_canonical.specs.Evidence.{evidence_of}
use Rattle.dnsv_canonical.specs.Rrsets.{ReceivedRrset}
use Rattle.dnsv_canonical.specs.SignedData.{IsSignedData}
use Rattle.dnsv_tsig.specs.Key.{SharedKey}
use Rattle.dnsv_verifier.specs.Table.{unknown_entries}
use Rattle.dnsv_verifier.specs.Within.{IsTableWithin}
use Rattle.dnsv_verifier.specs.declared.answer.Answer.{Answer}
use Rattle.dnsv_verifier.specs.declared.entry.Entry.{Entry}
use Rattle.dnsv_chain.specs.Basis.{Basis, basis_of}
use Rattle.dnsv_verdict.specs.Way.{IsVerdictOf}
use Rattle.dnsv_verdict.specs.declared.link.Link.{Link}
use Rattle.dnsv_verdict.specs.declared.report.Report.{Report}
use Rattle.dnsv_verdict.specs.declared.verdict.Verdict.{Verdict}
use Rattle.dnsv_holding.specs.Explained.{Explained}
use Rattle.dnsv_explain.specs.Explanation.{IsExplanation, IsExplanationOf}
use Rattle.dnsv_lines.specs.declared.line.Line.{Line}
use Rattle.dnsv_commands.specs.declared.request.Form.{Form}
use Rattle.dnsv_commands.specs.declared.request.Form.TheVariants.{Compact, Whole}
use Rattle.dnsv_files.specs.declared.opening.Opening.{Opening}
use Rattle.dnsv_files.specs.declared.opening.Opening.TheVariants.{Plain, Signed}
use Rattle.dnsv_files.specs.declared.status.Status.{Status}
use Rattle.dnsv_questions.specs.declared.format.Format.{Format}
use Rattle.dnsv_files.specs.Files.Capture.{NewEvidence, Holds}
use Rattle.dnsv_texts.specs.Checking.{check_text}
use Rattle.dnsv_evidence_texts.specs.Compact.{compact_text}
use Rattle.dnsv_work.specs.InOrder.{AreInOrder, basis_in}
use Rattle.dnsv_asking.specs.Checking.{IsAnswered, IsCheck, IsJudged, IsWhy}
use Rattle.dnsv_work.specs.Judged.{verdict_status}
use Rattle.dnsv_files.specs.Opening.Given.{IsOpeningOf}
use Rattle.dnsv_files.specs.Bounds.{begin_of, end_of}
use Rattle.dnsv_work.specs.Opening.{IsOpeningAt}
use Rattle.dnsv_files.specs.Files.{Files, octets_or_none}
use Rattle.dnsv_files.specs.Opening.Keys.{MayHaveKeys}
use Rattle.dnsv_program_laws.specs.Layers.{LayerLaws}
use Rattle.dnsv_evidence_texts.specs.Listing.{ListsRrsets, ListsSignatures, SignedOctets}
use Rattle.dnsv_work.specs.Question.{Spells}
use Rattle.dnsv_files.specs.Status.{status_code}
use Rattle.dnsv_program.specs.Run.{IsTimelineAsked}
use Rattle.dnsv_program.specs.Timeline.{IsTimelineBehind}
use Rattle.dnsv_timeline.specs.declared.stretch.Stretch.{Stretch}
use Rattle.dnsv_moments.specs.validity.Said.{Said}
use Rattle.dnsv_moments.specs.texts.Text.{IsTimelineText}
use Rattle.dnsv_work.specs.Listing.{IsTodo, ListsEntries}
use Rattle.dnsv_files.proofs.OpeningLemmas.Keys.{same_keys}
use Rattle.dnsv_files.proofs.OpeningLemmas.Macs.{same_macs}
use Rattle.dnsv_program_laws.proofs.LawLemmas.OneCapture.{one_holding}
use Rattle.dnsv_program_laws.proofs.LawLemmas.OneCompact.{one_compact_list}
use Rattle.dnsv_files.proofs.FileLemmas.Statements.{one_meaning}
use Rattle.dnsv_work.proofs.LawLemmas.OneKnown.{one_known}
use Rattle.dnsv_work.specs.Known.{IsKnownBy}

module _ (laws : LayerLaws) where
  -- ---- list --all

  one_front : (number : ℕ) (rrset : ReceivedRrset) (signature : ℕ) (signatures : List (List ℕ)) (a b : List SignedOctets)
      → ListsSignatures number rrset signature signatures a → ListsSignatures number rrset signature signatures b → a ≡ b
  one_front number rrset signature [] a b x y = x ∙ sym y
  one_front number rrset signature (rdata ∷ others) a b x y =
      let signs : Rrsig → Type 0 = λ rrsig. IsSignedData rrset.owner rrset.rtype rrset.rdata rrsig x.1 in
      let octets : x.1 ≡ y.1 = laws.evidence.one_signed_data rrset.owner rrset.rtype rrset.rdata y.0 x.1 y.1 (subst signs (laws.evidence.one_rrsig rdata x.0 y.0 x.3 y.3) x.4) y.4 in
      x.6 ∙ ap (λ (octets : Option (List ℕ)). record { rrset = number; signature = signature; octets = octets } ∷ x.2) octets
      ∙ ap (λ (rest : List SignedOctets). record { rrset = number; signature = signature; octets = y.1 } ∷ rest) (one_front number rrset (suc signature) others x.2 y.2 x.5 y.5)
      ∙ sym y.6

  pub one_list : (number : ℕ) (rrsets : List ReceivedRrset) (a b : List SignedOctets) → ListsRrsets number rrsets a → ListsRrsets number rrsets b → a ≡ b
  one_list number [] a b x y = x ∙ sym y
  one_list number (rrset ∷ rrsets) a b x y =
      x.4 ∙ ap (λ front. front ++ x.1) (one_front number rrset 1 rrset.signatures x.0 y.0 x.2 y.2)
      ∙ ap (λ rest. y.0 ++ rest) (one_list (suc number) rrsets x.1 y.1 x.3 y.3)
      ∙ sym y.4

  -- ---- list

  -- entries are listed in one way
  one_listing : (form : Form) (format : Format) (moments : Moments) (rrsets : List ReceivedRrset) (entries : List Entry) (a b : List ℕ)
      → ListsEntries form format moments rrsets entries a → ListsEntries form format moments rrsets entries b → a ≡ b
  one_listing Whole format moments rrsets entries a b x y = x ∙ sym y
  one_listing Compact format moments rrsets entries a b x y =
      x.2 ∙ ap (compact_text format moments) (one_compact_list laws (begin_of moments) (end_of moments) rrsets entries x.0 y.0 x.1 y.1) ∙ sym y.2

  pub one_todo : (form : Form) (format : Format) (moments : Moments) (files : Files) → AreOctets files.capture → (a b : List ℕ) → IsTodo form format moments files a → IsTodo form format moments files b → a ≡ b
  one_todo form format moments files are a b x y =
      let messages = one_holding laws NewEvidence Plain files.capture are x.messages y.messages x.holds y.holds in
      let meanings = one_meaning (octets_or_none files.statements) x.meaning y.meaning x.said y.said in
      let first = subst (λ (meaning : Entry → Answer). IsTableWithin meaning (begin_of moments) (end_of moments) (evidence_of x.messages).rrsets x.table) meanings x.is_table in
      let second = subst (λ messages. IsTableWithin y.meaning (begin_of moments) (end_of moments) (evidence_of messages).rrsets x.table) messages first in
      let answers = laws.verdicts.one_table y.meaning (begin_of moments) (end_of moments) (evidence_of y.messages).rrsets x.table y.table second y.is_table in
      one_listing form format moments (evidence_of y.messages).rrsets (unknown_entries y.table) a b
      (subst (λ messages. ListsEntries form format moments (evidence_of messages).rrsets (unknown_entries y.table) a) messages
      (subst (λ (each : List (Entry × Answer)). ListsEntries form format moments (evidence_of x.messages).rrsets (unknown_entries (record { moment = y.table.moment; rrsets = y.table.rrsets; answers = each })) a) answers x.lines)) y.lines

  -- ---- check

  keys_alone : (file : Option (List ℕ)) (a b : Option (List SharedKey)) → MayHaveKeys file a → MayHaveKeys file b → a ≡ b
  keys_alone = same_keys laws.tsig.one_ring laws.tsig.one_fault laws.tsig.apart

  -- files of keys and MACs open frames in one way
  pub one_opening : (keys_file macs_file : Option (List ℕ)) (moment : ℕ) (a b : Opening) → IsOpeningOf keys_file macs_file moment a → IsOpeningOf keys_file macs_file moment b → a ≡ b
  one_opening keys_file macs_file moment Plain Plain x y = refl
  one_opening keys_file macs_file moment Plain (Signed keys now macs) x y = let same = keys_alone keys_file None (Some keys) x y.0 in cc
  one_opening keys_file macs_file moment (Signed keys now macs) Plain x y = let same = keys_alone keys_file (Some keys) None x.0 y in cc
  one_opening keys_file macs_file moment (Signed keys now macs) (Signed others at more) x y =
      let same = keys_alone keys_file (Some keys) (Some others) x.0 y.0 in
      let rings : keys ≡ others = cc in
      let lists = same_macs macs_file macs more x.2 y.2 in
      λ i. Signed (rings i) ((x.1 ∙ sym y.1) i) (lists i)

  -- and so do they at moments
  pub one_opening_at : (keys_file macs_file : Option (List ℕ)) (moments : Moments) (a b : Opening) → IsOpeningAt keys_file macs_file moments a → IsOpeningAt keys_file macs_file moments b → a ≡ b
  one_opening_at keys_file macs_file (At moment) a b x y = one_opening keys_file macs_file moment a b x y
  one_opening_at keys_file macs_file (Between from to) a b x y = x ∙ sym y

  -- a text spells one name
  pub one_question : (asked : List ℕ) (a b : Labels) → Spells asked a → Spells asked b → a ≡ b
  one_question asked a b x y = laws.names.one_name asked a b x.is_name y.is_name x.spelling y.spelling

  module _ (moments : Moments) (files : Files) (are : AreOctets files.capture) where
    same_messages : (e f : Opening) (a b : List Contents) → IsOpeningAt files.keys files.macs moments e → IsOpeningAt files.keys files.macs moments f
        → Holds NewEvidence e files.capture a → Holds NewEvidence f files.capture b → a ≡ b
    same_messages e f a b x y holds also =
        one_holding laws NewEvidence f files.capture are a b
        (subst (λ (opening : Opening). Holds NewEvidence opening files.capture a) (one_opening_at files.keys files.macs moments e f x y) holds) also

    one_known_by : (x y : AreInOrder moments files) → (x.meaning ≡ y.meaning) × (x.numbers ≡ y.numbers)
    one_known_by x y =
        let messages = same_messages x.opening y.opening x.messages y.messages x.opens y.opens x.holds y.holds in
        one_known files.capture moments (evidence_of y.messages).rrsets files.statements files.answers x.meaning y.meaning x.numbers y.numbers
        (subst (λ (each : List Contents). IsKnownBy files.capture moments (evidence_of each).rrsets files.statements files.answers x.meaning x.numbers) messages x.said) y.said

    -- what the files say is one basis, for a text and for a refusal alike
    pub one_basis : (x y : AreInOrder moments files) → basis_in x ≡ basis_in y
    one_basis x y =
        let messages = same_messages x.opening y.opening x.messages y.messages x.opens y.opens x.holds y.holds in
        let anchors = laws.verdicts.one_list_of_anchors (octets_or_none files.anchors) x.anchors y.anchors x.trusted.are y.trusted.are in
        let known = one_known_by x y in
        λ i. basis_of (evidence_of (messages i)).rrsets (anchors i) (begin_of moments) (known.0 i)

    -- and give one numbering
    pub one_numbering : (x y : AreInOrder moments files) → x.numbers ≡ y.numbers
    one_numbering x y = (one_known_by x y).1

  module _ (rtype moment : ℕ) (files : Files) (are : AreOctets files.capture) where
    -- an explanation is one of the report's links, last name and verdict alone
    explains : (basis : Basis) (report other : Report) → report.links ≡ other.links → report.last ≡ other.last → report.verdict ≡ other.verdict
        → (lines : List Line) → IsExplanationOf basis rtype report lines → IsExplanationOf basis rtype other lines
    explains basis report other links last verdict lines it =
        let explained : Explained = record { rrsets = basis.rrsets; anchors = basis.anchors; table = it.table; todo = [] } in
        record {
          table = it.table;
          of = it.of;
          is = subst (λ (each : Verdict). IsExplanation explained rtype other.links other.last each lines) verdict
              (subst (λ (each : Labels). IsExplanation explained rtype other.links each report.verdict lines) last
              (subst (λ (each : List Link). IsExplanation explained rtype each report.last report.verdict lines) links it.is));
        }

    -- why a verdict stands is told in one way, and only where that is asked for
    one_why : (why : Bool) (basis : Basis) (name : Labels) (report : Report) (a b : Option (List Line))
        → IsVerdictOf basis name rtype report.links report.last report.verdict → IsWhy why basis rtype report a → IsWhy why basis rtype report b → a ≡ b
    one_why false basis name report None None stands x y = refl
    one_why false basis name report None (Some lines) stands x y = absurd y
    one_why false basis name report (Some lines) b stands x y = absurd x
    one_why true basis name report None b stands x y = absurd x
    one_why true basis name report (Some lines) None stands x y = absurd y
    one_why true basis name report (Some lines) (Some others) stands x y = ap Some (laws.verdicts.one_explanation basis name rtype report lines others stands x y)

    why_of : (why : Bool) (basis : Basis) (report other : Report) → report.links ≡ other.links → report.last ≡ other.last → report.verdict ≡ other.verdict
        → (told : Option (List Line)) → IsWhy why basis rtype report told → IsWhy why basis rtype other told
    why_of false basis report other links last verdict None is = is
    why_of false basis report other links last verdict (Some lines) is = absurd is
    why_of true basis report other links last verdict None is = absurd is
    why_of true basis report other links last verdict (Some lines) is = explains basis report other links last verdict lines is

    -- what is told of a question by what it is judged by
    pub one_judged : (basis : Basis) (format : Format) (why : Bool) (numbers : Option (List ℕ)) (name : Labels) (s t : Status) (a b : List ℕ)
        → IsJudged format why numbers basis name rtype s a → IsJudged format why numbers basis name rtype t b → (s ≡ t) × (a ≡ b)
    one_judged basis format why numbers name s t a b x y =
        let ways = laws.verdicts.one_way basis name rtype x.report.links y.report.links x.report.last y.report.last x.report.verdict y.report.verdict x.is_verdict y.is_verdict in
        let tolds : x.told ≡ y.told = one_why why basis name y.report x.told y.told y.is_verdict
        (why_of why basis x.report y.report ways.0 ways.1 ways.2 x.told x.is_told) y.is_told in
        let ends : s ≡ t = x.ends ∙ ap verdict_status ways.2 ∙ sym y.ends in (
          ends,
          x.lines ∙ (λ i. check_text format name rtype basis.moment (status_code (ends i)) basis.rrsets (ways.0 i) (ways.2 i) (tolds i) numbers) ∙ sym y.lines,
        )

    one_check : (format : Format) (why : Bool) (name : Labels) (s t : Status) (a b : List ℕ) → IsCheck format why name rtype moment files s a → IsCheck format why name rtype moment files t b
        → (s ≡ t) × (a ≡ b)
    one_check format why name s t a b x y =
        one_judged (basis_in y.given) format why y.given.numbers name s t a b
        (subst (λ (each : Option (List ℕ)). IsJudged format why each (basis_in y.given) name rtype s a) (one_numbering (At moment) files are x.given y.given)
        (subst (λ (each : Basis). IsJudged format why x.given.numbers each name rtype s a) (one_basis (At moment) files are x.given y.given) x.judged)) y.judged

    pub one_answer : (format : Format) (why : Bool) (asked : List ℕ) (s t : Status) (a b : List ℕ) → IsAnswered format why asked rtype moment files s a → IsAnswered format why asked rtype moment files t b
        → (s ≡ t) × (a ≡ b)
    one_answer format why asked s t a b x y =
        one_check format why y.0 s t a b
        (subst (λ (name : Labels). IsCheck format why name rtype moment files s a) (one_question asked x.0 y.0 x.1 y.1) x.3) y.3

  -- ---- timeline

  pub one_timeline : (format : Format) (kinds : Bool) (basis : Basis) (name : Labels) (rtype to : ℕ) (a b : List ℕ)
      → IsTimelineBehind format kinds basis name rtype to a → IsTimelineBehind format kinds basis name rtype to b → a ≡ b
  one_timeline format kinds basis name rtype to a b x y =
      let same = laws.timelines.one_timeline format basis name rtype basis.moment to x.stretches y.stretches x.is_timeline y.is_timeline in
      laws.timelines.one_text format kinds basis.rrsets name rtype basis.moment to y.stretches a b
      (subst (λ (each : List (Stretch Said)). IsTimelineText format kinds basis.rrsets name rtype basis.moment to each a) same x.lines) y.lines

  pub one_timeline_asked : (format : Format) (kinds : Bool) (asked : List ℕ) (rtype from to : ℕ) (files : Files) → AreOctets files.capture → (a b : List ℕ)
      → IsTimelineAsked format kinds asked rtype from to files a → IsTimelineAsked format kinds asked rtype from to files b → a ≡ b
  one_timeline_asked format kinds asked rtype from to files are a b x y =
      one_timeline format kinds (basis_in y.4.given) y.0 rtype to a b
      (subst (λ (name : Labels). IsTimelineBehind format kinds (basis_in y.4.given) name rtype to a) (one_question asked x.0 y.0 x.1 y.1)
      (subst (λ (basis : Basis). IsTimelineBehind format kinds basis x.0 rtype to a) (one_basis (Between from to) files are x.4.given y.4.given) x.4.timeline)) y.4.timeline
