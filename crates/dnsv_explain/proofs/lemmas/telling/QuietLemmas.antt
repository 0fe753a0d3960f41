-- What fails, and the keys that it is a matter of, are lines that follow from none before.
use Rattle.std.proofs.Common.{inl, inr, ◌+◌, ℕ, List, [], ◌∷◌, ◌++◌, sym, subst}
use Rattle.std.specs.List.{AllByRecursion}
use Rattle.dnsv_names.specs.Name.{Labels}
use Rattle.dnsv_canonical.specs.Rrsets.{ReceivedRrset}
use Rattle.dnsv_verifier.specs.Admissible.{DnskeyRecord}
use Rattle.dnsv_derivations.specs.Explained.{Setting}
use Rattle.dnsv_explain.specs.Explanation.{IsFailureTold, asking_in}
use Rattle.dnsv_derivations.specs.Following.{EachFollows, Follows}
use Rattle.dnsv_keys_in_question.specs.KeyLines.{AreLinesOfSet, IsKeyLine}
use Rattle.dnsv_derivations.specs.Listing.{AreOfNumbered}
use Rattle.dnsv_lines.specs.declared.line.Line.{Line}
use Rattle.dnsv_lines.specs.declared.line.Line.TheVariants as line
pub use Rattle.dnsv_reasons.proofs.lemmas.FaultLemmas.{IsFault, failures_fault}

-- the line says what fails, or shows a key
abbrev pub IsQuiet : Line → Type 0
IsQuiet (line.Reason reason) = Unit {0}
IsQuiet (line.Follows untrusted) = Unit {0}
IsQuiet (line.Key key) = Unit {0}
IsQuiet _ = ⊥

quiet_follows : (setting : Setting) (before : List Line) (each : Line) → IsQuiet each → Follows setting before each
quiet_follows setting before (line.Reason reason) quiet = tt
quiet_follows setting before (line.Follows untrusted) quiet = tt
quiet_follows setting before (line.Key key) quiet = tt
quiet_follows setting before each quiet = absurd quiet

all_follow : (setting : Setting) (before lines : List Line) → AllByRecursion IsQuiet lines → EachFollows setting before lines
all_follow setting before [] quiet = tt
all_follow setting before (each ∷ lines) quiet =
    (quiet_follows setting before each quiet.0, all_follow setting (before ++ each ∷ []) lines quiet.1)

-- ---- lists of them

both_quiet : (a b : List Line) → AllByRecursion IsQuiet a → AllByRecursion IsQuiet b → AllByRecursion IsQuiet (a ++ b)
both_quiet [] b x y = y
both_quiet (each ∷ a) b x y = (x.0, both_quiet a b x.1 y)

fault_quiet : (each : Line) → IsFault each → IsQuiet each
fault_quiet (line.Reason reason) fault = tt
fault_quiet (line.Follows untrusted) fault = tt
fault_quiet each fault = absurd fault

faults_quiet : (lines : List Line) → AllByRecursion IsFault lines → AllByRecursion IsQuiet lines
faults_quiet [] faults = tt
faults_quiet (each ∷ lines) faults = (fault_quiet each faults.0, faults_quiet lines faults.1)

keys_quiet : (setting : Setting) (k : ℕ) (set : ReceivedRrset) (place : ℕ) (keys : List DnskeyRecord) (lines : List Line)
    → AreOfNumbered (IsKeyLine setting k set) place keys lines → AllByRecursion IsQuiet lines
keys_quiet setting k set place [] lines are = subst (AllByRecursion IsQuiet) (sym are) tt
keys_quiet setting k set place (key ∷ keys) lines are =
    let first : AllByRecursion IsQuiet are.first = subst (AllByRecursion IsQuiet) (sym are.is_first.2) (tt, tt) in
    subst (AllByRecursion IsQuiet) (sym are.parts)
    (both_quiet are.first are.second first (keys_quiet setting k set (place + 1) keys are.second are.is_second))

set_quiet : (setting : Setting) (reasons : List Line) (k : ℕ) (set : ReceivedRrset) (lines : List Line)
    → AreLinesOfSet setting reasons k set lines → AllByRecursion IsQuiet lines
set_quiet setting reasons k set lines (inl x) = keys_quiet setting k set 1 x.1.0 lines x.1.2
set_quiet setting reasons k set lines (inr x) = subst (AllByRecursion IsQuiet) (sym x.1) tt

sets_quiet : (setting : Setting) (reasons : List Line) (k : ℕ) (sets : List ReceivedRrset) (lines : List Line)
    → AreOfNumbered (AreLinesOfSet setting reasons) k sets lines → AllByRecursion IsQuiet lines
sets_quiet setting reasons k [] lines are = subst (AllByRecursion IsQuiet) (sym are) tt
sets_quiet setting reasons k (set ∷ sets) lines are =
    subst (AllByRecursion IsQuiet) (sym are.parts)
    (both_quiet are.first are.second (set_quiet setting reasons k set are.first are.is_first)
    (sets_quiet setting reasons (k + 1) sets are.second are.is_second))

-- ---- a failure

failure_quiet : (setting : Setting) (name : Labels) (t : ℕ) (before lines : List Line) → IsFailureTold setting name t before lines
    → AllByRecursion IsQuiet lines
failure_quiet setting name t before lines told =
    let faults : AllByRecursion IsQuiet told.faults =
    faults_quiet told.faults (failures_fault (asking_in setting name t) told.faults told.of_faults) in
    subst (AllByRecursion IsQuiet) (sym told.are)
    (both_quiet told.faults told.keys faults (sets_quiet setting told.faults 1 setting.rrsets told.keys told.of_keys))

pub failure_follows : (then setting : Setting) (name : Labels) (t : ℕ) (before lines : List Line)
    → IsFailureTold setting name t before lines → EachFollows then before lines
failure_follows then setting name t before lines told = all_follow then before lines (failure_quiet setting name t before lines told)
