-- Records that can be read, and the first that can't.
pub mod WellFormedLemmas
use Rattle.std.proofs.Common.{◌≡◌, ℕ, ◌+◌, ◌<◌, Bool, true, false, List, ◌∷◌, ◌++◌, length, get_or, take, drop, refl, sym, ap, ◌∙◌, subst, arith, append_assoc, Result, Ok, Err, IfOk, IfErr, ◌↔◌, IsTrue}
use Rattle.std.proofs.lemmas.List.{drop_more, take-append-drop, length-take-le, length-append}
use Rattle.std.specs.List.{AllByRecursion}
use Rattle.std.specs.Prelude.{OnOk}
use Rattle.std.specs.Result.{is_ok}
use Rattle.dnsv_message.specs.declared.record.Record.{Record}
use Rattle.dnsv_message.specs.Message.{Contents, records_of}
use Rattle.dnsv_records.specs.declared.error.RecordError.{RecordError}
use Rattle.dnsv_records.specs.declared.nsec.Nsec.{Nsec}
use Rattle.dnsv_records.specs.declared.nsec3.Nsec3.{Nsec3}
use Rattle.dnsv_records.specs.Nsec.{IsNsec}
use Rattle.dnsv_records.specs.Nsec3.{IsNsec3}
use Rattle.dnsv_names.specs.PartLaws.{recursion-append}
use Rattle.dnsv_canonical.specs.Evidence.{Evidence, IsWhole, IsReadable, IsFirstBad, IsReasonAgainst}
use Rattle.dnsv_canonical.specs.Rdata.{IsLaidOut}
use Rattle.dnsv_canonical.specs.Kept.{IsBadAfter}
use Rattle.dnsv_canonical.specs.declared.capture.CaptureError.{CaptureError}
use Rattle.dnsv_canonical.specs.declared.capture.CaptureError.TheVariants.{BadRdata}

-- ---- whether RDATA was read

pub reads_decide : {V : Type 0} (P : V → Type 0) (result : Result V RecordError) → IfOk result P → ((value : V) → P value → result ≡ Ok value) → IsTrue (is_ok result) ↔ ((value : V) × P value)
reads_decide P (Ok value) found every = (λ _. (value, found), λ _. refl)
reads_decide P (Err error) found every = (λ t. let none : false ≡ true = t in cc, λ read. let none = every read.0 read.1 in cc)

-- ---- the first that can't be read

pub IsFirstBad-here : (records : List Record) (i : ℕ) (x : Record) → i < length records → x ≡ get_or records i x → AllByRecursion IsReadable (take i records) → ¬ IsReadable x → IsFirstBad records (i + 1)
IsFirstBad-here records i x within at earlier bad = (
  take i records,
  x,
  drop (i + 1) records,
  sym (take-append-drop i records) ∙ ap (λ rest. take i records ++ rest) (drop_more records i x within ∙ ap (λ y. y ∷ drop (i + 1) records) (sym at)),
  earlier,
  bad,
  omega (arith, length-take-le i records (omega arith)),
)

pub IsFirstBad-front : (xs ys : List Record) (k : ℕ) → IsFirstBad xs k → IsFirstBad (xs ++ ys) k
IsFirstBad-front xs ys k first = (
  first.0,
  first.1,
  first.2 ++ ys,
  ap (λ zs. zs ++ ys) first.3 ∙ append_assoc first.0 (first.1 ∷ first.2) ys,
  first.4,
  first.5,
  first.6,
)

pub IsFirstBad-behind : (xs ys : List Record) (k : ℕ) → AllByRecursion IsReadable xs → IsFirstBad ys k → IsFirstBad (xs ++ ys) (length xs + k)
IsFirstBad-behind xs ys k each first = (
  xs ++ first.0,
  first.1,
  first.2,
  ap (λ zs. xs ++ zs) first.3 ∙ sym (append_assoc xs first.0 (first.1 ∷ first.2)),
  recursion-append IsReadable xs first.0 each first.4,
  first.5,
  omega (arith, length-append xs first.0, first.6),
)

-- what is told of the second of three sections, and of the others, is told of the message
module _ (held : Evidence) (message : Contents) (whole : IsWhole message) where
  pub refused_in_answer : (error : CaptureError) → IsBadAfter 0 message.answer error → IsReasonAgainst held message error
  refused_in_answer (BadRdata k) bad =
      (whole, subst (IsFirstBad (records_of message)) (omega (arith, bad.2)) (IsFirstBad-front (message.answer ++ message.authority) message.additional bad.0 (IsFirstBad-front message.answer message.authority bad.0 bad.1)))
  refused_in_answer error bad = absurd bad

  pub refused_in_authority : (error : CaptureError) → AllByRecursion IsReadable message.answer → IsBadAfter (length message.answer) message.authority error → IsReasonAgainst held message error
  refused_in_authority (BadRdata k) each bad =
      (whole, subst (IsFirstBad (records_of message)) (sym bad.2) (IsFirstBad-front (message.answer ++ message.authority) message.additional _ (IsFirstBad-behind message.answer message.authority bad.0 each bad.1)))
  refused_in_authority error each bad = absurd bad

  pub refused_in_additional : (error : CaptureError) (earlier : ℕ) → earlier ≡ length message.answer + length message.authority → AllByRecursion IsReadable message.answer → AllByRecursion IsReadable message.authority → IsBadAfter earlier message.additional error → IsReasonAgainst held message error
  refused_in_additional (BadRdata k) earlier is answer authority bad = (
    whole,
    subst (IsFirstBad (records_of message)) (omega (arith, bad.2, is, length-append message.answer message.authority))
        (IsFirstBad-behind (message.answer ++ message.authority) message.additional bad.0 (recursion-append IsReadable message.answer message.authority answer authority) bad.1),
  )
  refused_in_additional error earlier is answer authority bad = absurd bad

pub IfErr-weaker : {X : Type 0} (P Q : CaptureError → Type 0) (result : Result X CaptureError) → ((error : CaptureError) → P error → Q error) → IfErr result P → IfErr result Q
IfErr-weaker P Q (Ok value) weaker holds = tt
IfErr-weaker P Q (Err error) weaker holds = weaker error holds

pub OnOk-weaker : {X E A B : Type 0} (result : Result X E) → (A → B) → OnOk result A → OnOk result B
OnOk-weaker (Ok value) weaker holds = weaker holds
OnOk-weaker (Err error) weaker holds = tt

-- ---- types whose RDATA is laid out

pub IfOk-same : {A B E : Type 0} (answer : Result Bool E) → IfOk answer (λ yes. IsTrue yes ↔ A) → (A → B) → (B → A) → IfOk answer (λ yes. IsTrue yes ↔ B)
IfOk-same (Ok answer) decides to from = (λ t. to (decides.0 t), λ b. decides.1 (from b))
IfOk-same (Err error) decides to from = tt

pub laid_out_nsec : (rtype : ℕ) (rdata : List ℕ) → rtype ≡ 47 → (answer : Bool) → (IsTrue answer ↔ ((nsec : Nsec) × IsNsec rdata nsec)) → IsTrue answer ↔ IsLaidOut rtype rdata
laid_out_nsec rtype rdata is answer decides = (
  λ yes. record { ds = λ other. absurd (omega (arith, is, other)); rrsig = λ other. absurd (omega (arith, is, other)); nsec = λ _. decides.0 yes; dnskey = λ other. absurd (omega (arith, is, other)); nsec3 = λ other. absurd (omega (arith, is, other)) },
  λ laid. decides.1 (laid.nsec is),
)

pub laid_out_nsec3 : (rtype : ℕ) (rdata : List ℕ) → rtype ≡ 50 → (answer : Bool) → (IsTrue answer ↔ ((nsec3 : Nsec3) × IsNsec3 rdata nsec3)) → IsTrue answer ↔ IsLaidOut rtype rdata
laid_out_nsec3 rtype rdata is answer decides = (
  λ yes. record { ds = λ other. absurd (omega (arith, is, other)); rrsig = λ other. absurd (omega (arith, is, other)); nsec = λ other. absurd (omega (arith, is, other)); dnskey = λ other. absurd (omega (arith, is, other)); nsec3 = λ _. decides.0 yes },
  λ laid. decides.1 (laid.nsec3 is),
)
