-- The text of `check` and of `explain`: a question's verdict, what carries it, and why it stands.
use Rattle.std.specs.Prelude.{ℕ, Bool, true, false, List, [], ◌∷◌, ◌++◌, Option, Some, None, codes, is_none, is_some, map}
use Rattle.std.specs.Fmt.{decimal}
use Rattle.std.specs.List.{flat_map}
use Rattle.dnsv_names.specs.Name.{Labels}
use Rattle.dnsv_canonical.specs.Rrsets.{ReceivedRrset, at_number}
use Rattle.dnsv_verifier.specs.declared.entry.Entry.{Entry}
use Rattle.dnsv_canonical.specs.declared.number.RecordNumber.{RecordNumber}
use Rattle.dnsv_verdict.specs.declared.link.Link.{Link}
use Rattle.dnsv_verdict.specs.declared.verdict.Verdict.{Verdict}
use Rattle.dnsv_verdict.specs.declared.verdict.Verdict.TheVariants as verdict
use Rattle.dnsv_lines.specs.declared.line.Line.{Line}
use Rattle.dnsv_lines.specs.Json.{array, member, name_json, object, parted, quoted}
use Rattle.dnsv_questions.specs.declared.format.Format.{Format}
use Rattle.dnsv_questions.specs.declared.format.Format.TheVariants.{Json, Lines}
use Rattle.dnsv_evidence_texts.specs.Json.{object_line}
use Rattle.dnsv_evidence_texts.specs.Todo.{todo_json, todo_line}
use Rattle.dnsv_evidence_texts.specs.Question.{lower_text, question_members}
use Rattle.dnsv_texts.specs.Why.{why_lines, why_members}

-- ---- the lines

abbrev pub verdict_word : Verdict → List ℕ
verdict_word (verdict.SecureAnswer k s) = codes "SecureAnswer"
verdict_word (verdict.SecureAlias k s) = codes "SecureAlias"
verdict_word (verdict.SecureNoName proof) = codes "SecureNoName"
verdict_word (verdict.SecureNoData proof) = codes "SecureNoData"
verdict_word (verdict.Insecure cut) = codes "Insecure"
verdict_word (verdict.Pending entries) = codes "Pending"
verdict_word verdict.Bogus = codes "Bogus"
verdict_word verdict.Indeterminate = codes "Indeterminate"

-- the first line: the verdict's word, and the name and type that are asked for
abbrev pub verdict_line : Verdict → Labels → ℕ → List ℕ
verdict_line verdict name rtype =
    verdict_word verdict ++ codes " " ++ lower_text name ++ codes " " ++ decimal rtype ++ codes "\n"

-- an RRset by its number, and its signature by its own
abbrev pub signature_line : ℕ → ℕ → List ℕ
signature_line rrset signature =
    codes "rrset " ++ decimal rrset ++ codes " signature " ++ decimal signature ++ codes "\n"

-- the name at which a zone that isn't signed may begin
abbrev pub cut_line : Labels → List ℕ
cut_line cut = codes "cut " ++ lower_text cut ++ codes "\n"

-- the owner and type of a record of the RRset
abbrev pub proof_record_line : Option ReceivedRrset → List ℕ
proof_record_line None = []
proof_record_line (Some rrset) = codes "record " ++ lower_text rrset.owner ++ codes " " ++ decimal rrset.rtype ++ codes "\n"

-- those of a record by its number
abbrev pub proof_line : List ReceivedRrset → RecordNumber → List ℕ
proof_line rrsets number = proof_record_line (at_number rrsets number.rrset)

-- a name that is an alias, by an RRset and its signature
abbrev pub alias_line : Link → List ℕ
alias_line link = codes "alias " ++ lower_text link.name ++ codes " " ++ signature_line link.rrset link.signature

-- what carries the verdict, if this is told of an RRset with its signature, of a proof, of a cut and of entries
abbrev pub reason_by : {X : Type 0} → (ℕ → ℕ → List X) → (List RecordNumber → List X) → (Labels → List X) → (List Entry → List X) → Verdict → List X
reason_by signature proof cut todo (verdict.SecureAnswer k s) = signature k s
reason_by signature proof cut todo (verdict.SecureAlias k s) = signature k s
reason_by signature proof cut todo (verdict.SecureNoName denial) = proof denial.records
reason_by signature proof cut todo (verdict.SecureNoData denial) = proof denial.records
reason_by signature proof cut todo (verdict.Insecure name) = cut name
reason_by signature proof cut todo (verdict.Pending entries) = todo entries
reason_by signature proof cut todo verdict.Bogus = []
reason_by signature proof cut todo verdict.Indeterminate = []

abbrev pub proof_lines : List ReceivedRrset → List RecordNumber → List ℕ
proof_lines rrsets numbers = flat_map (proof_line rrsets) numbers

abbrev pub todo_lines : List Entry → List ℕ
todo_lines entries = flat_map todo_line entries

-- entries that are still to be checked are told where they are to be told whole
abbrev pub if_whole : {X : Type 0} → Bool → List X → List X
if_whole true told = told
if_whole false told = []

-- the lines for what carries the verdict
abbrev pub reason_lines : List ReceivedRrset → Verdict → Bool → List ℕ
reason_lines rrsets verdict whole =
    reason_by signature_line (proof_lines rrsets) cut_line (λ entries. if_whole whole (todo_lines entries)) verdict

-- the verdict, the aliases that lead to the name where it stands, and what carries it
abbrev pub verdict_text : Labels → ℕ → List ReceivedRrset → List Link → Verdict → Bool → List ℕ
verdict_text name rtype rrsets links verdict whole =
    verdict_line verdict name rtype ++ flat_map alias_line links ++ reason_lines rrsets verdict whole

-- ---- the object

-- the members for an RRset by its number, and its signature by its own
abbrev pub signature_members : ℕ → ℕ → List (List ℕ)
signature_members rrset signature =
    member (codes "rrset") (decimal rrset) ∷ member (codes "signature") (decimal signature) ∷ []

-- a name that is an alias, by an RRset and its signature
abbrev pub alias_json : Link → List ℕ
alias_json link =
    object (member (codes "name") (name_json link.name) ∷ signature_members link.rrset link.signature)

-- the owner and type of a record of the RRset
abbrev pub record_json : ReceivedRrset → List ℕ
record_json rrset = object (member (codes "owner") (name_json rrset.owner) ∷ member (codes "type") (decimal rrset.rtype) ∷ [])

abbrev pub proof_record_json : Option ReceivedRrset → List (List ℕ)
proof_record_json None = []
proof_record_json (Some rrset) = record_json rrset ∷ []

-- those of a record by its number
abbrev pub proof_json : List ReceivedRrset → RecordNumber → List (List ℕ)
proof_json rrsets number = proof_record_json (at_number rrsets number.rrset)

-- the records of a proof
abbrev pub proof_member : List ReceivedRrset → List RecordNumber → List ℕ
proof_member rrsets numbers = member (codes "records") (array (flat_map (proof_json rrsets) numbers))

abbrev pub cut_member : Labels → List ℕ
cut_member cut = member (codes "cut") (name_json cut)

abbrev pub todo_member : List Entry → List ℕ
todo_member entries = member (codes "todo") (array (map todo_json entries))

-- the members for what carries the verdict
abbrev pub reason_members : List ReceivedRrset → Verdict → Bool → List (List ℕ)
reason_members rrsets verdict whole = reason_by signature_members (λ numbers. proof_member rrsets numbers ∷ [])
    (λ cut. cut_member cut ∷ []) (λ entries. if_whole whole (todo_member entries ∷ [])) verdict

-- and for the verdict with the exit status
abbrev pub verdict_members : Bool → Labels → ℕ → ℕ → ℕ → Verdict → List (List ℕ)
verdict_members why name rtype moment status verdict =
    question_members why name rtype moment
    ++ member (codes "verdict") (quoted (verdict_word verdict)) ∷ member (codes "status") (decimal status) ∷ []

-- the same as the text of lines, in JSON, and why the verdict stands, where that is told
abbrev pub verdict_json : Labels → ℕ → ℕ → ℕ → List ReceivedRrset → List Link → Verdict → Option (List Line) → Option (List ℕ) → List ℕ
verdict_json name rtype moment status rrsets links verdict why numbers =
    object_line (verdict_members (is_some why) name rtype moment status verdict
    ++ member (codes "aliases") (array (map alias_json links))
    ∷ (reason_members rrsets verdict (is_none numbers) ++ why_members why numbers))

-- Lines, or JSON: behind the verdict and what carries it why it stands, where that is told. Entries that are still to be
-- checked are told whole, or by their numbers in a list, where these are given.
abbrev pub check_text : Format → Labels → ℕ → ℕ → ℕ → List ReceivedRrset → List Link → Verdict → Option (List Line) → Option (List ℕ) → List ℕ
check_text Lines name rtype moment status rrsets links verdict why numbers =
    verdict_text name rtype rrsets links verdict (is_none numbers) ++ why_lines why numbers
check_text Json name rtype moment status rrsets links verdict why numbers =
    verdict_json name rtype moment status rrsets links verdict why numbers

-- ---- what is added for a part of it, to lines or behind other members

abbrev pub signature_text : Format → ℕ → ℕ → List ℕ
signature_text Lines rrset signature = signature_line rrset signature
signature_text Json rrset signature = parted false (signature_members rrset signature)

abbrev pub proof_text : Format → List ReceivedRrset → List RecordNumber → List ℕ
proof_text Lines rrsets numbers = proof_lines rrsets numbers
proof_text Json rrsets numbers = parted false (proof_member rrsets numbers ∷ [])

abbrev pub cut_text : Format → Labels → List ℕ
cut_text Lines cut = cut_line cut
cut_text Json cut = parted false (cut_member cut ∷ [])

abbrev pub entries_text : Bool → Format → List Entry → List ℕ
entries_text whole Lines entries = if_whole whole (todo_lines entries)
entries_text whole Json entries = parted false (if_whole whole (todo_member entries ∷ []))

abbrev pub reason_text : Format → List ReceivedRrset → Verdict → Bool → List ℕ
reason_text format rrsets verdict whole =
    reason_by (signature_text format) (proof_text format rrsets) (cut_text format) (entries_text whole format) verdict
