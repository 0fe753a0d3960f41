-- What the layers below say of octets, files, evidence and questions: each is read in one way.
use Rattle.std.specs.Prelude.{◌≡◌, ◌≢◌, ◌≤◌, ℕ, Bool, List, Option, Result}
use Rattle.std.specs.List.{AllByRecursion}
use Rattle.dnsv_names.specs.Name.{IsName, Labels}
use Rattle.dnsv_names.specs.Octets.{AreOctets}
use Rattle.dnsv_names.specs.Text.{FirstFault, IsTextOf}
use Rattle.dnsv_names.specs.declared.error.NameError.{NameError}
use Rattle.dnsv_message.specs.declared.errors.DecodeError.{DecodeError}
use Rattle.dnsv_message.specs.Streams.Frames.{IsCapture, HasZeroLength, EndsTorn, IsTooLong}
use Rattle.dnsv_message.specs.Grammar.{MessageOf, FaultOf}
use Rattle.dnsv_message.specs.Message.{Contents}
use Rattle.dnsv_tsig.specs.Answer.{tsig_answer_of}
use Rattle.dnsv_tsig.specs.Key.{SharedKey}
use Rattle.dnsv_tsig.specs.KeyFile.{IsKeyFault, IsRingOf}
use Rattle.dnsv_tsig.specs.Opened.{OpenedMessage}
use Rattle.dnsv_tsig.specs.declared.error.KeyFileError.{KeyFileError}
use Rattle.dnsv_tsig.specs.declared.error.TsigError.{TsigError}
use Rattle.dnsv_records.specs.declared.rrsig.Rrsig.{Rrsig}
use Rattle.dnsv_records.specs.Rrsig.{IsRrsig}
use Rattle.dnsv_canonical.specs.declared.capture.CaptureError.{CaptureError}
use Rattle.dnsv_canonical.specs.declared.capture.CaptureError.TheVariants as capture
use Rattle.dnsv_canonical.specs.Evidence.{Evidence, IsEvidence, IsReasonAgainst}
use Rattle.dnsv_canonical.specs.Rrsets.{ReceivedRrset}
use Rattle.dnsv_canonical.specs.SignedData.{IsSignedData}
use Rattle.dnsv_verifier.specs.Table.{TableContents}
use Rattle.dnsv_verifier.specs.Within.{IsTableWithin}
use Rattle.dnsv_verifier.specs.declared.answer.Answer.{Answer}
use Rattle.dnsv_verifier.specs.declared.entry.Entry.{Entry}
use Rattle.dnsv_anchors.specs.AnchorFile.{AreAnchorsOf, IsFaultOf}
use Rattle.dnsv_anchors.specs.declared.anchor.Anchor.{Anchor}
use Rattle.dnsv_anchors.specs.declared.anchors.AnchorsError.{AnchorsError}
use Rattle.dnsv_chain.specs.Basis.{Basis}
use Rattle.dnsv_verdict.specs.Way.{IsRefusedFor, IsVerdictOf}
use Rattle.dnsv_verdict.specs.declared.error.VerdictError.{VerdictError}
use Rattle.dnsv_verdict.specs.declared.link.Link.{Link}
use Rattle.dnsv_verdict.specs.declared.report.Report.{Report}
use Rattle.dnsv_verdict.specs.declared.verdict.Verdict.{Verdict}
use Rattle.dnsv_explain.specs.Explanation.{IsExplanationOf}
use Rattle.dnsv_lines.specs.declared.line.Line.{Line}
use Rattle.dnsv_questions.specs.declared.format.Format.{Format}
use Rattle.dnsv_timeline.specs.Timeline.{IsTimelineBy}
use Rattle.dnsv_timeline.specs.declared.stretch.Stretch.{Stretch}
use Rattle.dnsv_moments.specs.validity.Said.{IsSaidAt, Said}
use Rattle.dnsv_moments.specs.Question.{IsRefusedThroughout}
use Rattle.dnsv_moments.specs.texts.Text.{IsTimelineText}

-- names as text
pub record NameLaws : Type 0 where
  pub one_name : (text : List ℕ) (a b : Labels) → IsName a → IsName b → IsTextOf text a → IsTextOf text b → a ≡ b
  pub one_fault : (text : List ℕ) (a b : NameError) → FirstFault text a → FirstFault text b → a ≡ b
  pub apart : (text : List ℕ) (labels : Labels) (error : NameError) → IsName labels → IsTextOf text labels
      → FirstFault text error → ⊥

-- messages, and files of them
pub record MessageLaws : Type 0 where
  pub one_message : (octets : List ℕ) → AreOctets octets → (message other : Contents) → MessageOf octets message
      → MessageOf octets other → message ≡ other
  pub no_fault_of_a_message : (octets : List ℕ) → AreOctets octets → (message : Contents) (error : DecodeError)
      → MessageOf octets message → FaultOf octets error → ⊥
  pub one_fault : (octets : List ℕ) → AreOctets octets → (error other : DecodeError) → FaultOf octets error
      → FaultOf octets other → error ≡ other
  pub one_capture : (file : List ℕ) (a b : List (List ℕ)) → IsCapture file a → IsCapture file b → a ≡ b
  pub messages_alone : (file : List ℕ) (messages : List (List ℕ)) → IsCapture file messages
      → (¬ HasZeroLength file) × (¬ EndsTorn file) × (¬ IsTooLong file)
  pub zero_length_alone : (file : List ℕ) → HasZeroLength file → (¬ EndsTorn file) × (¬ IsTooLong file)
  pub capture_octets : (file : List ℕ) (messages : List (List ℕ)) → AreOctets file → IsCapture file messages
      → AllByRecursion AreOctets messages

-- signed messages, and files of keys
pub record TsigLaws : Type 0 where
  pub one_answer : (octets : List ℕ) → AreOctets octets → (keys : List SharedKey) (now : ℕ)
      (request : Option (List ℕ)) (answer other : Result OpenedMessage TsigError)
      → tsig_answer_of octets keys now request answer → tsig_answer_of octets keys now request other → answer ≡ other
  pub one_ring : (text : List ℕ) (a b : List SharedKey) → IsRingOf text a → IsRingOf text b → a ≡ b
  pub one_fault : (text : List ℕ) (a b : KeyFileError) → IsKeyFault text a → IsKeyFault text b → a ≡ b
  pub apart : (text : List ℕ) (ring : List SharedKey) (error : KeyFileError) → IsRingOf text ring
      → IsKeyFault text error → ⊥

-- what messages are evidence of, and what signatures sign
pub record EvidenceLaws : Type 0 where
  pub one_rrsig : (rdata : List ℕ) (a b : Rrsig) → IsRrsig rdata a → IsRrsig rdata b → a ≡ b
  pub one_signed_data : (owner : Labels) (rtype : ℕ) (received : List (List ℕ)) (rrsig : Rrsig)
      (a b : Option (List ℕ)) → IsSignedData owner rtype received rrsig a → IsSignedData owner rtype received rrsig b
      → a ≡ b
  pub one_reason : (held : Evidence) (message : Contents) (a b : CaptureError) → a ≢ capture.OutOfMemory
      → b ≢ capture.OutOfMemory → IsReasonAgainst held message a → IsReasonAgainst held message b → a ≡ b
  pub no_reason_against_evidence : (held : Evidence) (message : Contents) (error : CaptureError)
      → error ≢ capture.OutOfMemory → IsEvidence held message → IsReasonAgainst held message error → ⊥

-- questions, what they are judged by, and why a verdict stands
pub record VerdictLaws : Type 0 where
  pub one_table : (meaning : Entry → Answer) (from to : ℕ) (rrsets : List ReceivedRrset) (a b : TableContents)
      → IsTableWithin meaning from to rrsets a → IsTableWithin meaning from to rrsets b → a.answers ≡ b.answers
  pub one_list_of_anchors : (text : List ℕ) (a b : List Anchor) → AreAnchorsOf text a → AreAnchorsOf text b → a ≡ b
  pub one_fault_of_anchors : (text : List ℕ) (a b : AnchorsError) → IsFaultOf text a → IsFaultOf text b → a ≡ b
  pub anchors_apart : (text : List ℕ) (anchors : List Anchor) (error : AnchorsError) → AreAnchorsOf text anchors
      → IsFaultOf text error → ⊥
  pub one_way : (basis : Basis) (name : Labels) (t : ℕ) (links others : List Link) (last end : Labels) (a b : Verdict)
      → IsVerdictOf basis name t links last a → IsVerdictOf basis name t others end b
      → (links ≡ others) × (last ≡ end) × (a ≡ b)
  pub one_explanation : (basis : Basis) (name : Labels) (t : ℕ) (report : Report) (a b : List Line)
      → IsVerdictOf basis name t report.links report.last report.verdict
      → IsExplanationOf basis t report a → IsExplanationOf basis t report b → a ≡ b
  pub one_refusal : (basis : Basis) (name : Labels) (t : ℕ) (a b : VerdictError) → IsRefusedFor basis name t a
      → IsRefusedFor basis name t b → a ≡ b
  pub verdict_apart : (basis : Basis) (name : Labels) (t : ℕ) (links : List Link) (last : Labels) (verdict : Verdict)
      (error : VerdictError) → IsVerdictOf basis name t links last verdict → IsRefusedFor basis name t error → ⊥

-- timelines
pub record TimelineLaws : Type 0 where
  pub one_timeline : (format : Format) (basis : Basis) (name : Labels) (t from to : ℕ) (stretches others : List (Stretch Said))
      → IsTimelineBy (IsSaidAt format basis name t) from to stretches
      → IsTimelineBy (IsSaidAt format basis name t) from to others → stretches ≡ others
  pub one_refusal : (basis : Basis) (from to : ℕ) (name : Labels) (t : ℕ) (error other : VerdictError) → from ≤ to
      → IsRefusedThroughout basis from to name t error → IsRefusedThroughout basis from to name t other → error ≡ other
  pub one_text : (format : Format) (kinds : Bool) (rrsets : List ReceivedRrset) (name : Labels) (t from to : ℕ)
      (stretches : List (Stretch Said)) (a b : List ℕ) → IsTimelineText format kinds rrsets name t from to stretches a
      → IsTimelineText format kinds rrsets name t from to stretches b → a ≡ b

pub record LayerLaws : Type 0 where
  pub names : NameLaws
  pub messages : MessageLaws
  pub tsig : TsigLaws
  pub evidence : EvidenceLaws
  pub verdicts : VerdictLaws
  pub timelines : TimelineLaws
