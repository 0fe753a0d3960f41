-- What is told of a verdict apart from its question: the aliases that lead to it, and what carries it.
use Rattle.std.specs.Prelude.{ℕ, false, List, [], ◌∷◌, ◌++◌, Option, Some, None, codes, map}
use Rattle.std.specs.Fmt.{decimal}
use Rattle.std.specs.List.{flat_map}
use Rattle.dnsv_names.specs.Name.{Labels}
use Rattle.dnsv_canonical.specs.Rrsets.{ReceivedRrset, at_number}
use Rattle.dnsv_canonical.specs.declared.number.RecordNumber.{RecordNumber}
use Rattle.dnsv_verdict.specs.declared.link.Link.{Link}
use Rattle.dnsv_verdict.specs.declared.verdict.Verdict.{Verdict}
use Rattle.dnsv_lines.specs.Json.{array, member, parted}
use Rattle.dnsv_texts.specs.Checking.{alias_json, reason_by, reason_members}
use Rattle.dnsv_evidence_texts.specs.Question.{lower_text}
use Rattle.dnsv_questions.specs.declared.format.Format.{Format}
use Rattle.dnsv_questions.specs.declared.format.Format.TheVariants.{Json, Lines}

-- ---- the lines of `check`, on one line: each behind a space

abbrev pub signature_words : ℕ → ℕ → List ℕ
signature_words rrset signature = codes " rrset " ++ decimal rrset ++ codes " signature " ++ decimal signature

abbrev pub alias_words : Link → List ℕ
alias_words link = codes " alias " ++ lower_text link.name ++ signature_words link.rrset link.signature

abbrev pub cut_words : Labels → List ℕ
cut_words cut = codes " cut " ++ lower_text cut

abbrev pub record_words : Option ReceivedRrset → List ℕ
record_words None = []
record_words (Some rrset) = codes " record " ++ lower_text rrset.owner ++ codes " " ++ decimal rrset.rtype

-- those of a record by its number
abbrev pub number_words : List ReceivedRrset → RecordNumber → List ℕ
number_words rrsets number = record_words (at_number rrsets number.rrset)

abbrev pub proof_words : List ReceivedRrset → List RecordNumber → List ℕ
proof_words rrsets numbers = flat_map (number_words rrsets) numbers

abbrev pub reason_words : List ReceivedRrset → Verdict → List ℕ
reason_words rrsets verdict = reason_by signature_words (proof_words rrsets) cut_words (λ entries. []) verdict

-- ---- in both formats

-- The lines of `check` behind its first, each behind a space and without its end, or in JSON its members behind the exit
-- status, each behind a comma; without the entries that are still to be checked.
abbrev pub told_text : Format → List ReceivedRrset → List Link → Verdict → List ℕ
told_text Lines rrsets links verdict = flat_map alias_words links ++ reason_words rrsets verdict
told_text Json rrsets links verdict =
    parted false (member (codes "aliases") (array (map alias_json links)) ∷ reason_members rrsets verdict false)
