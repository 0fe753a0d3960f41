-- Reading a file of statements, line by line.
use Rattle.std.proofs.Common.{◌≡◌, ℕ, ◌<◌, Result, Err, List, [], ◌∷◌, ◌++◌, refl, sym, ap, ◌∙◌, subst, arith, length, length-append, Bool, true, false, cond, Option, Some, None, ◌⊎◌, inl, inr, ⊎_elim}
use Rattle.std.proofs.lemmas.Cmp.{tied_itself}
use Rattle.std.proofs.lemmas.List.Elements.{Contains-push, Contains-push_cases, Contains-append_left}
use Rattle.std.specs.List.{Contains}
use Rattle.std.specs.Map.{lookup}
use Rattle.std.specs.Ordering.{is_eq}
use Rattle.std.specs.declared.cmp.Ordering.{Ordering}
use Rattle.std.specs.declared.cmp.Ordering.TheVariants.{Equal}
use Rattle.dnsv_names.proofs.LineFileLemmas.{SaysOrFails, begins, each_more, values_or_fault}
use Rattle.dnsv_names.specs.Lines.LineFile.{SayEach}
use Rattle.dnsv_names.specs.Lines.{HasLines, NumberedLine}
use Rattle.dnsv_verifier.specs.Entry.{entry_cmp}
use Rattle.dnsv_verifier.specs.EntryLaws.{entry_cmp_total, entry_Equal}
use Rattle.dnsv_statements.specs.Statements.{Agree, AreStatementsOf, BeginsWithStatement, IsFaultOf, IsFaultOfLine, IsSaid, IsStatementOf, answer_by, listed_answer, other_word}
use Rattle.dnsv_statements.specs.StatementsLaws.{AreStatementsOf-no_fault, IsFaultOf-only}
use Rattle.dnsv_statements.specs.StatementsReading.{AddsStatement, RefusesLine, said_in}
use Rattle.dnsv_verifier.specs.declared.answer.Answer.{Answer}
use Rattle.dnsv_verifier.specs.declared.entry.Entry.{Entry}
use Rattle.dnsv_statements.specs.declared.statements.statement.Word.{Word}
use Rattle.dnsv_statements.specs.declared.statements.statement.Word.TheVariants.{Good, Bad}
use Rattle.dnsv_statements.specs.declared.statements.StatementsError.{StatementsError}
use Rattle.dnsv_statements.specs.declared.statements.StatementsError.TheVariants.{OutOfMemory, Syntax, Contradiction}

-- lines were read as statements, and a tree says just what they do
pub record SaysSoFar (lines : List NumberedLine) (said : List (Entry × Word)) : Type 0 where
  pub statements : List (Entry × Word)
  pub each : SayEach IsStatementOf lines statements
  pub found : (entry : Entry) (word : Word) → said_in said entry ≡ Some word → Contains statements (entry, word)
  pub kept : (entry : Entry) (word : Word) → Contains statements (entry, word) → said_in said entry ≡ Some word
  pub empty : lines ≡ [] → said ≡ []

words_differ : Good ≡ Bad → ⊥
words_differ e = cc

pub says_agree : {lines : List NumberedLine} {said : List (Entry × Word)} (so_far : SaysSoFar lines said) → Agree so_far.statements
says_agree {lines} {said} so_far entry good bad =
    let first = so_far.kept entry Good good in
    let second = so_far.kept entry Bad bad in
    words_differ (cc)

pub says_none : (said : List (Entry × Word)) → said ≡ [] → SaysSoFar [] said
says_none said empty =
    let none : (entry : Entry) → said_in said entry ≡ None =
    λ entry. ap (λ (entries : List (Entry × Word)). lookup (λ each. is_eq (entry_cmp entry each)) entries) empty in
    record {
      statements = [];
      each = tt;
      found = λ entry word e. let nothing = none entry in absurd (cc);
      kept = λ entry word contains. absurd (omega (arith, contains.1));
      empty = λ same. empty;
    }

pub is_eq_is : (o : Ordering) → is_eq o ≡ true → o ≡ Equal
is_eq_is Equal e = refl
is_eq_is o e = cc

same_word : (a b : Word) → (a ≡ other_word b → ⊥) → a ≡ b
same_word Good Good apart = refl
same_word Good Bad apart = absurd (apart refl)
same_word Bad Good apart = absurd (apart refl)
same_word Bad Bad apart = refl

module _ {lines : List NumberedLine} {old new : List (Entry × Word)} (line : NumberedLine) (so_far : SaysSoFar lines old) (adds : AddsStatement line.octets old new) where
  found_by : (entry : Entry) (word : Word) (b : Bool) → is_eq (entry_cmp adds.entry entry) ≡ b → cond b (Some adds.word) (said_in old entry) ≡ Some word → Contains (so_far.statements ++ (adds.entry, adds.word) ∷ []) (entry, word)
  found_by entry word true tied e =
      let first : adds.entry ≡ entry = entry_Equal adds.entry entry (is_eq_is (entry_cmp adds.entry entry) tied) in
      let second : adds.word ≡ word = cc in
      let both : (adds.entry, adds.word) ≡ (entry, word) = λ i. (first i, second i) in
      let P : Entry × Word → Type 0 = λ pair. Contains (so_far.statements ++ (adds.entry, adds.word) ∷ []) pair in
      subst P both (Contains-push so_far.statements (adds.entry, adds.word))
  found_by entry word false apart e = Contains-append_left so_far.statements _ (entry, word) (so_far.found entry word e)

  old_kept : (entry : Entry) (word : Word) (b : Bool) → is_eq (entry_cmp adds.entry entry) ≡ b → Contains so_far.statements (entry, word) → cond b (Some adds.word) (said_in old entry) ≡ Some word
  old_kept entry word true tied contains =
      let same : adds.entry ≡ entry = entry_Equal adds.entry entry (is_eq_is (entry_cmp adds.entry entry) tied) in
      let was : said_in old entry ≡ Some word = so_far.kept entry word contains in
      ap Some (sym (same_word word adds.word (λ other. adds.free (ap (said_in old) same ∙ was ∙ ap Some other))))
  old_kept entry word false apart contains = so_far.kept entry word contains

  new_kept : (entry : Entry) (word : Word) (b : Bool) → is_eq (entry_cmp adds.entry entry) ≡ b → ◌≡◌ {A = Entry × Word} (adds.entry, adds.word) (entry, word) → cond b (Some adds.word) (said_in old entry) ≡ Some word
  new_kept entry word true tied same = ap (λ (pair : Entry × Word). Some pair.1) same
  new_kept entry word false apart same =
      let itself : is_eq (entry_cmp adds.entry adds.entry) ≡ true = ap is_eq (tied_itself entry_cmp_total adds.entry) in
      let moved : is_eq (entry_cmp adds.entry adds.entry) ≡ is_eq (entry_cmp adds.entry entry) = ap (λ (pair : Entry × Word). is_eq (entry_cmp adds.entry pair.0)) same in
      absurd (cc)

  kept_by : (entry : Entry) (word : Word) (b : Bool) → is_eq (entry_cmp adds.entry entry) ≡ b → Contains (so_far.statements ++ (adds.entry, adds.word) ∷ []) (entry, word) → cond b (Some adds.word) (said_in old entry) ≡ Some word
  kept_by entry word b which contains =
      elim (Contains-push_cases so_far.statements (adds.entry, adds.word) (entry, word) contains) [
        | inl before ↦ old_kept entry word b which before
        | inr same ↦ new_kept entry word b which same
      ]

  pub says_more : SaysSoFar (lines ++ line ∷ []) new
  says_more =
      record {
        statements = so_far.statements ++ (adds.entry, adds.word) ∷ [];
        each = each_more IsStatementOf lines so_far.statements line (adds.entry, adds.word) so_far.each adds.states;
        found = λ entry word e. found_by entry word (is_eq (entry_cmp adds.entry entry)) refl (sym (adds.updates entry) ∙ e);
        kept = λ entry word contains. adds.updates entry ∙ kept_by entry word (is_eq (entry_cmp adds.entry entry)) refl contains;
        empty = λ none. absurd (omega (arith, ap length none, length-append lines (line ∷ [])));
      }

-- ---- no text is neither

-- a statement whose entry isn't called by the other word agrees with those before it
agree_more : (before : List (Entry × Word)) (entry : Entry) (word : Word) → Agree before → (Contains before (entry, other_word word) → ⊥)
    → Agree (before ++ (entry, word) ∷ [])
agree_more before entry word agree free each good bad =
    elim (Contains-push_cases before (entry, word) (each, Good) good) [
      | inl first ↦ elim (Contains-push_cases before (entry, word) (each, Bad) bad) [
        | inl second ↦ agree each first second
        | inr second ↦ free (subst (λ (pair : Entry × Word). Contains before (pair.0, other_word pair.1)) (sym second) first)
      ]
      | inr first ↦ elim (Contains-push_cases before (entry, word) (each, Bad) bad) [
        | inl second ↦ free (subst (λ (pair : Entry × Word). Contains before (pair.0, other_word pair.1)) (sym first) second)
        | inr second ↦ words_differ (ap (λ (pair : Entry × Word). pair.1) (sym first ∙ second))
      ]
    ]

-- behind statements that agree a line is one that agrees with them, or at fault
statement_or_fault : SaysOrFails IsStatementOf Agree IsFaultOfLine
statement_or_fault = record {
  nothing = λ entry good bad. omega (arith, good.1);
  next = λ line before agree no_statement at_fault. at_fault (Syntax line.number) (
    refl,
    λ entry word states. no_statement (entry, word) states
        (agree_more before entry word agree (λ other. at_fault (Contradiction line.number) (refl, (entry, word, states, other)))),
  );
}

pub statements_or_fault : (text : List ℕ) → ((statements : List (Entry × Word)) → AreStatementsOf text statements → ⊥)
    → ((fault : StatementsError) → IsFaultOf text fault → ⊥) → ⊥
statements_or_fault text no_statements no_fault = values_or_fault statement_or_fault text no_statements no_fault

-- the first fault
pub fault_of : (text : List ℕ) (before : List NumberedLine) (line : NumberedLine) (after : List NumberedLine) (said : List (Entry × Word)) (error : StatementsError) → HasLines text (before ++ line ∷ after) → SaysSoFar before said → RefusesLine error line said → (error ≡ OutOfMemory) ⊎ IsFaultOf text error
fault_of text before line after said OutOfMemory has so_far refuses = inl refl
fault_of text before line after said (Syntax number) has so_far refuses =
    inr record { before = before; line = line; after = after; has = has; values = so_far.statements; each = so_far.each; may_stand = says_agree so_far; there = refuses }
fault_of text before line after said (Contradiction number) has so_far refuses =
    inr record { before = before; line = line; after = after; has = has; values = so_far.statements; each = so_far.each; may_stand = says_agree so_far; there = (refuses.0, (refuses.1.0, refuses.1.1, refuses.1.2, so_far.found refuses.1.0 (other_word refuses.1.1) refuses.1.3)) }

-- the fault of a text is told where a line is refused, unless memory was
pub fault_told : {T : Type 0} (text : List ℕ) (before : List NumberedLine) (line : NumberedLine) (after : List NumberedLine) (said : List (Entry × Word)) (error : StatementsError)
    → HasLines text (before ++ line ∷ after) → SaysSoFar before said → RefusesLine error line said
    → (fault : StatementsError) → IsFaultOf text fault
    → (◌≡◌ {A = Result T StatementsError} (Err error) (Err fault)) ⊎ ((◌≡◌ {A = Result T StatementsError} (Err error) (Err OutOfMemory)) × BeginsWithStatement text)
fault_told text before line after said OutOfMemory has so_far refuses fault is =
    inr (refl, begins IsStatementOf text before line after so_far.statements has so_far.each ((refuses.entry, refuses.word), refuses.states))
fault_told text before line after said (Syntax number) has so_far refuses fault is =
    ⊎_elim (λ (out : Syntax number ≡ OutOfMemory). absurd (cc)) (λ (first : IsFaultOf text (Syntax number)). inl (ap Err (IsFaultOf-only text (Syntax number) fault first is)))
    (fault_of text before line after said (Syntax number) has so_far refuses)
fault_told text before line after said (Contradiction number) has so_far refuses fault is =
    ⊎_elim (λ (out : Contradiction number ≡ OutOfMemory). absurd (cc)) (λ (first : IsFaultOf text (Contradiction number)). inl (ap Err (IsFaultOf-only text (Contradiction number) fault first is)))
    (fault_of text before line after said (Contradiction number) has so_far refuses)

-- memory is refused to a statement alone
pub memory_wanted : (text : List ℕ) (before : List NumberedLine) (line : NumberedLine) (after : List NumberedLine) (said : List (Entry × Word)) (error : StatementsError)
    → HasLines text (before ++ line ∷ after) → SaysSoFar before said → RefusesLine error line said → error ≡ OutOfMemory → BeginsWithStatement text
memory_wanted text before line after said OutOfMemory has so_far refuses out =
    begins IsStatementOf text before line after so_far.statements has so_far.each ((refuses.entry, refuses.word), refuses.states)
memory_wanted text before line after said error has so_far refuses out = absurd (cc)

first_says : (text : List ℕ) (lines : List NumberedLine) (statements : List (Entry × Word)) → HasLines text lines
    → SayEach IsStatementOf lines statements → (lines ≡ [] → ⊥) → BeginsWithStatement text
first_says text [] statements has each some = absurd (some refl)
first_says text (line ∷ lines) [] has each some = absurd each
first_says text (line ∷ lines) (statement ∷ statements) has each some = begins IsStatementOf text [] line lines [] has tt (statement, each.0)

-- and where something was said
pub memory_to_list : (text : List ℕ) (lines : List NumberedLine) (said : List (Entry × Word)) → HasLines text lines
    → SaysSoFar lines said → 0 < length said → BeginsWithStatement text
memory_to_list text lines said has so_far some =
    first_says text lines so_far.statements has so_far.each (λ none. let empty = ap length (so_far.empty none) in omega (arith, empty, some))

-- a text whose lines were all read has no fault
pub none_at_fault : (text : List ℕ) (lines : List NumberedLine) (said : List (Entry × Word)) → HasLines text lines
    → SaysSoFar lines said → (fault : StatementsError) → IsFaultOf text fault → ⊥
none_at_fault text lines said has so_far fault is =
    AreStatementsOf-no_fault text so_far.statements fault (record { lines = lines; has = has; each = so_far.each; may_stand = says_agree so_far }) is

said_by : (lines : List NumberedLine) (said : List (Entry × Word)) (so_far : SaysSoFar lines said) (entry : Entry) (found : Option Word) → said_in said entry ≡ found → IsSaid so_far.statements entry (answer_by found)
said_by lines said so_far entry None e = λ word contains. let was = so_far.kept entry word contains in absurd (cc)
said_by lines said so_far entry (Some Good) e = so_far.found entry Good e
said_by lines said so_far entry (Some Bad) e = so_far.found entry Bad e

-- what is listed at the end is what the file says
pub all_said : (text : List ℕ) (lines : List NumberedLine) (said : List (Entry × Word)) (listed : List (Entry × Word)) → HasLines text lines → SaysSoFar lines said → ((entry : Entry) → said_in listed entry ≡ said_in said entry) → (statements : List (Entry × Word)) × AreStatementsOf text statements × ((entry : Entry) → IsSaid statements entry (listed_answer listed entry))
all_said text lines said listed has so_far same = (
  so_far.statements,
  record { lines = lines; has = has; each = so_far.each; may_stand = says_agree so_far },
  λ entry.
      let moved : answer_by (said_in said entry) ≡ listed_answer listed entry =
      ap (λ (found : Option Word). answer_by found) (sym (same entry)) in
      let P : Answer → Type 0 = λ answer. IsSaid so_far.statements entry answer in
      subst P moved (said_by lines said so_far entry (said_in said entry) refl),
)
