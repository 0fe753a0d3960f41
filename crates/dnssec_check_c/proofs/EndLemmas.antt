-- How a run over octets ends a call.
use Rattle.std.proofs.Common.{◌≡◌, ℕ, List, [], ◌++◌, inl, inr, refl, subst, sym, ap, ◌∙◌, string_bytes}
use Rattle.std.specs.Prelude.{Err, Result}
use Rattle.dnsv_files.specs.Files.{Files}
use Rattle.dnsv_files.specs.Files.Faults.{OfOctets}
use Rattle.dnsv_program.specs.Run.{AsksRefused, IsFirstFault, IsTextAskedFor}
use Rattle.dnsv_work.specs.Faults.{IsFaultOfQuestion, IsTimelineRefused, IsFaultOfRange}
use Rattle.dnsv_commands.specs.declared.request.Asking.TheVariants as asking
use Rattle.dnsv_commands.specs.declared.request.Request.{Request}
use Rattle.dnsv_commands.specs.declared.request.Request.TheVariants as request
use Rattle.dnsv_files.specs.declared.status.Fault.{Fault}
use Rattle.dnsv_files.specs.declared.status.Fault.TheVariants as fault
use Rattle.dnsv_files.specs.declared.status.InputFile.{InputFile}
use Rattle.dnsv_files.specs.declared.status.Status.{Status}
use Rattle.dnssec_check_c.specs.Ends.{Ends, EndsAsAsked, GivesText, TellsFault, TellsQuestion, in_memory, told_of_fault}
use Rattle.dnssec_check_c.specs.declared.outcome.Outcome.{Outcome}

-- a text that was written behind nothing is given
pub text_ends : (asked : Request) (files : Files) (end : Status) (text : List ℕ) {front written old new : List ℕ} {told : Outcome} {status : ℕ}
    → GivesText end written old new told status → IsTextAskedFor asked files end text → written ≡ front ++ text → front ≡ []
    → Ends asked files old new told status
text_ends asked files end text {old = old} {new = new} {told = told} {status = status} gives is behind none =
    let same = behind ∙ ap (λ (each : List ℕ). each ++ text) none in
    inl (end, text, is, subst (λ (each : List ℕ). GivesText end each old new told status) same gives)

-- a fault of a run is told
pub fault_ends : (asked : Request) (files : Files) (failed : Fault) {old new : List ℕ} {told : Outcome} {status : ℕ}
    → OfOctets (IsFirstFault asked files) failed → ((file : InputFile) → failed ≡ fault.OpenFailed file → ⊥)
    → TellsFault (in_memory failed) old new told status → Ends asked files old new told status
fault_ends asked files (fault.TooLong file) first opened tells = inr (inl (fault.TooLong file, first, tells))
fault_ends asked files (fault.OpenFailed file) first opened tells = absurd (opened file refl)
fault_ends asked files (fault.Refused why place) first opened tells = inr (inl (fault.Refused why place, first, tells))
fault_ends asked files failed first opened tells = inr (inr tells)

-- a question is refused by a refusal, which is told as it is
question_alone : (asked : List ℕ) (rtype : ℕ) (refused : Fault) → IsFaultOfQuestion asked rtype refused → in_memory refused ≡ refused
question_alone asked rtype (fault.Refused reason place) is = refl
question_alone asked rtype refused is = absurd is

-- so is a range
range_alone : (from to : ℕ) (refused : Fault) → IsFaultOfRange from to refused → in_memory refused ≡ refused
range_alone from to refused is = ap in_memory is.1 ∙ sym is.1

timeline_alone : (asked : List ℕ) (rtype from to : ℕ) (refused : Fault) → IsTimelineRefused asked rtype from to refused → in_memory refused ≡ refused
timeline_alone asked rtype from to refused (inl is) = question_alone asked rtype refused is
timeline_alone asked rtype from to refused (inr (name, spells, question, is)) = range_alone from to refused is

refused_alone : (asked : Request) (refused : Fault) → AsksRefused asked refused → in_memory refused ≡ refused
refused_alone (request.Show capture) refused is = absurd is
refused_alone (request.List capture moment statements lists form) refused is = absurd is
refused_alone (request.ListRange capture from to statements listed form) refused is = range_alone from to refused is
refused_alone (request.Timeline capture anchors from to asked rtype knows kinds form) refused is =
    timeline_alone (string_bytes asked) rtype.0 from to refused is
refused_alone (request.Check capture anchors moment (asking.Each questions) knows keys macs form why) refused is = absurd is
refused_alone (request.Check capture anchors moment (asking.One name rtype) knows keys macs form why) refused is =
    question_alone (string_bytes name) rtype.0 refused is

-- so a question that is refused is told
pub question_told : (asked : Request) (failed : Fault) {told : Outcome}
    → ((refused : Fault) → AsksRefused asked refused → ◌≡◌ {A = Result Status Fault} (Err failed) (Err refused)) → told ≡ told_of_fault (in_memory failed)
    → TellsQuestion asked told
question_told asked failed first is = λ refused so.
    let same : failed ≡ refused = cc (first refused so) in
    is ∙ ap (λ (each : Fault). told_of_fault (in_memory each)) same ∙ ap told_of_fault (refused_alone asked refused so)

-- a call ends as the request that it asks does
pub request_ends : (Asks : Request → Type 0) (asked : Request) (files given : Files) {old new : List ℕ} {told : Outcome} {status : ℕ}
    → Ends asked given old new told status → TellsQuestion asked told → given ≡ files → Asks asked → EndsAsAsked Asks files old new told status
request_ends Asks asked files given {old = old} {new = new} {told = told} {status = status} ends question same asks =
    (asked, asks, question, subst (λ (each : Files). Ends asked each old new told status) same ends)
