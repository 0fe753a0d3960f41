-- The numbers of the answers that leave an entry open, one answer after another.
use Rattle.std.proofs.Common.{◌≡◌, ◌<◌, ◌+◌, ◌++◌, ◌∙◌, ℕ, suc, true, false, List, [], ◌∷◌, Option, Some, None, is_some, ap, arith, get_or, length, map, refl, subst, sym, take}
use Rattle.std.proofs.lemmas.List.{length-map, length-take-le, map-append, take_more}
use Rattle.dnsv_answers.specs.declared.said.SaidAnswer.{SaidAnswer}
use Rattle.dnsv_verifier.specs.declared.answer.Answer.{Answer}
use Rattle.dnsv_verifier.specs.declared.answer.Answer.TheVariants.{Invalid, Unknown, Valid}
use Rattle.dnsv_canonical.specs.Rrsets.{ReceivedRrset}
use Rattle.dnsv_answers.specs.declared.heading.Moments.{Moments}
use Rattle.dnsv_answers.specs.AnswerFile.{AnswersContents, answers_in}
use Rattle.dnsv_answers.specs.Answered.{IsAnsweredTableWithin}
use Rattle.dnsv_statements.specs.Statements.{listed_answer}
use Rattle.dnsv_verifier.specs.Table.{TableContents, table_answer}
use Rattle.dnsv_verifier.specs.declared.entry.Entry.{Entry}
use Rattle.dnsv_statements.specs.declared.statements.statement.Word.{Word}
use Rattle.dnsv_files.specs.Files.Answers.{AreSaidFor, AreTooManyOrFew, IsFaultBeforeCount}
use Rattle.dnsv_files.specs.Files.Faults.{OfOctets}
use Rattle.dnsv_files.specs.Files.{IsGiven, octets_or_none}
use Rattle.dnsv_files.specs.Told.{IsFaultOf}
use Rattle.dnsv_work.specs.Known.{AreMeant, AreMiscountedIn, IsFaultBeforeKnown, IsKnown, IsSaidBy, numbers_said, open_numbers}
use Rattle.dnsv_files.specs.declared.status.Fault.{Fault}
use Rattle.dnsv_files.specs.declared.status.Fault.TheVariants as fault
use Rattle.dnsv_files.specs.Bounds.{begin_of, end_of}
use Rattle.dnsv_work.specs.declared.given.Said.{Said}
use Rattle.dnsv_work.specs.declared.given.Said.TheVariants as said

same_sum : (n k : ℕ) → suc n + k ≡ n + suc k
same_sum n k = omega arith

last_open : (n m : ℕ) (xs : List Answer) (a : Answer) → m ≡ n + length xs → open_numbers n (xs ++ a ∷ []) ≡ open_numbers n xs ++ open_numbers m (a ∷ [])
last_open n m [] a is = let same : n ≡ m = omega (arith, is) in ap (λ (k : ℕ). open_numbers k (a ∷ [])) same
last_open n m (Unknown ∷ xs) a is = ap (λ (rest : List ℕ). n ∷ rest) (last_open (suc n) m xs a (is ∙ sym (same_sum n (length xs))))
last_open n m (Valid ∷ xs) a is = last_open (suc n) m xs a (is ∙ sym (same_sum n (length xs)))
last_open n m (Invalid ∷ xs) a is = last_open (suc n) m xs a (is ∙ sym (same_sum n (length xs)))

front_size : (said : List SaidAnswer) (i : ℕ) → i < length said → i + 1 ≡ 1 + length (map (λ (each : SaidAnswer). each.answer) (take i said))
front_size said i within =
    let size = length-map (take i said) (λ (each : SaidAnswer). each.answer) in
    let taken = length-take-le i said (omega (arith, within)) in
    omega (arith, size, taken)

-- one answer more
open_more : (said : List SaidAnswer) (i : ℕ) (d : SaidAnswer) → i < length said
    → open_numbers 1 (map (λ (each : SaidAnswer). each.answer) (take i said)) ++ open_numbers (i + 1) ((get_or said i d).answer ∷ [])
    ≡ open_numbers 1 (map (λ (each : SaidAnswer). each.answer) (take (i + 1) said))
open_more said i d within =
    sym (last_open 1 (i + 1) (map (λ (each : SaidAnswer). each.answer) (take i said)) (get_or said i d).answer (front_size said i within))
    ∙ ap (λ (answers : List Answer). open_numbers 1 answers) (sym (map-append (λ (each : SaidAnswer). each.answer) (take i said) (get_or said i d ∷ [])))
    ∙ ap (λ (some : List SaidAnswer). open_numbers 1 (map (λ (each : SaidAnswer). each.answer) some)) (sym (take_more said i d within))

pub open_step : (said : List SaidAnswer) (i : ℕ) (d : SaidAnswer) (old new : List ℕ) → i < length said
    → old ≡ open_numbers 1 (map (λ (each : SaidAnswer). each.answer) (take i said)) → new ≡ old ++ open_numbers (i + 1) ((get_or said i d).answer ∷ [])
    → new ≡ open_numbers 1 (map (λ (each : SaidAnswer). each.answer) (take (i + 1) said))
open_step said i d old new within so_far is =
    is ∙ ap (λ (front : List ℕ). front ++ open_numbers (i + 1) ((get_or said i d).answer ∷ [])) so_far ∙ open_more said i d within

-- ---- what is known

module _ (Holds : (Entry → Answer) → Type 0) (moments : Moments) (rrsets : List ReceivedRrset) (what : Said) where
  abbrev pub IsKnownSo : Said → Type 0
  IsKnownSo each = (meaning : Entry → Answer) × IsKnown moments rrsets each meaning (numbers_said each) × Holds meaning

  -- by statements
  pub known_stated : (listed : List (Entry × Word)) → what ≡ said.Statements listed → Holds (listed_answer listed) → IsKnownSo what
  known_stated listed is holds = subst (λ (each : Said). IsKnownSo each) (sym is) (listed_answer listed, (refl, refl), holds)

  -- by answers
  pub known_answered : (contents : AnswersContents) (table : TableContents) → what ≡ said.Answers contents → IsAnsweredTableWithin (begin_of moments) (end_of moments) rrsets (answers_in contents) table
      → Holds (table_answer table) → IsKnownSo what
  known_answered contents table is answered holds =
      let meant : AreMeant moments rrsets contents (table_answer table) (Some (open_numbers 1 (answers_in contents))) =
      record { table = table; is_table = answered; says = refl; numbered = refl } in
      subst (λ (each : Said). IsKnownSo each) (sym is) (table_answer table, meant, holds)

-- more or fewer answers than entries are a fault of what is said
pub miscounted : (moments : Moments) (rrsets : List ReceivedRrset) (what : Said) (contents : AnswersContents) (told : Fault) → what ≡ said.Answers contents
    → IsFaultOf (AreTooManyOrFew moments rrsets contents) told → IsFaultOf (AreMiscountedIn moments rrsets what) told
miscounted moments rrsets what contents told is bad = subst (λ (each : Said). IsFaultOf (AreMiscountedIn moments rrsets each) told) (sym is) bad

-- ---- which file is read

pub given_some : {T : Type 0} (file : Option T) → is_some file ≡ true → IsGiven file
given_some None is = let bad : false ≡ true = is in cc
given_some (Some x) is = λ none. cc

-- where answers are given, they are what is said
pub said_by : (capture : List ℕ) (moments : Moments) (stated answered : Option (List ℕ)) (contents : AnswersContents) → IsGiven answered
    → AreSaidFor capture moments (octets_or_none answered) contents → IsSaidBy capture moments stated answered (said.Answers contents)
said_by capture moments stated (Some text) contents given are = are
said_by capture moments stated None contents given are = absurd (given refl)

-- and their fault is the fault
pub faulty_before : (capture : List ℕ) (moments : Moments) (stated answered : Option (List ℕ)) (told : Fault) → IsGiven answered
    → OfOctets (IsFaultBeforeCount capture moments (octets_or_none answered)) told → OfOctets (IsFaultBeforeKnown capture moments stated answered) told
faulty_before capture moments stated None told given holds = absurd (given refl)
faulty_before capture moments stated (Some text) (fault.Refused why place) given holds = holds
faulty_before capture moments stated (Some text) (fault.TooLong file) given holds = holds
faulty_before capture moments stated (Some text) told given holds = tt
