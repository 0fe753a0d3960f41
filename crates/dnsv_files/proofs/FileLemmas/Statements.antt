-- A text of statements says one thing of each entry, or has one fault.
use Rattle.std.proofs.Common.{◌≡◌, ◌⊎◌, ℕ, List, Result, Err, refl, subst}
use Rattle.dnsv_statements.specs.Statements.{Agree, BeginsWithStatement, IsFaultOf, IsSaid}
use Rattle.dnsv_statements.specs.StatementsLaws.{AreStatementsOf-no_fault, AreStatementsOf-only, IsFaultOf-only}
use Rattle.dnsv_verifier.specs.declared.answer.Answer.{Answer}
use Rattle.dnsv_verifier.specs.declared.answer.Answer.TheVariants.{Valid, Invalid, Unknown}
use Rattle.dnsv_verifier.specs.declared.entry.Entry.{Entry}
use Rattle.dnsv_statements.specs.declared.statements.statement.Word.{Word}
use Rattle.dnsv_statements.specs.declared.statements.statement.Word.TheVariants.{Good, Bad}
use Rattle.dnsv_statements.specs.declared.statements.StatementsError.{StatementsError}
use Rattle.dnsv_statements.specs.declared.statements.StatementsError.TheVariants as statements
use Rattle.dnsv_files.specs.declared.status.Fault.{Fault}
use Rattle.dnsv_files.specs.declared.status.Fault.TheVariants as fault
use Rattle.dnsv_files.specs.declared.status.InputFile.TheVariants.{Statements}
use Rattle.dnsv_files.specs.declared.status.Place.{Place}
use Rattle.dnsv_files.specs.declared.status.Refusal.{Refusal}
use Rattle.dnsv_files.proofs.FileLemmas.Text.{every_told, no_text_fault, one_at_line, one_text_fault, told_by_one}
use Rattle.dnsv_files.specs.declared.status.Refusal.TheVariants as refusal
use Rattle.dnsv_files.specs.Told.{IsStatementsFault, TellsRefusals}
use Rattle.dnsv_files.specs.Files.Statements.{AreStatementsRefused, IsFaultOfStatements, IsMeaningOf, TellsStatementsError}

-- ---- what is said

one_answer : (said : List (Entry × Word)) (entry : Entry) (a b : Answer) → Agree said → IsSaid said entry a → IsSaid said entry b → a ≡ b
one_answer said entry Valid Valid agree x y = refl
one_answer said entry Valid Invalid agree x y = absurd (agree entry x y)
one_answer said entry Valid Unknown agree x y = absurd (y Good x)
one_answer said entry Invalid Valid agree x y = absurd (agree entry y x)
one_answer said entry Invalid Invalid agree x y = refl
one_answer said entry Invalid Unknown agree x y = absurd (y Bad x)
one_answer said entry Unknown Valid agree x y = absurd (x Good y)
one_answer said entry Unknown Invalid agree x y = absurd (x Bad y)
one_answer said entry Unknown Unknown agree x y = refl

-- a text has one meaning
pub one_meaning : (text : List ℕ) (a b : Entry → Answer) → IsMeaningOf text a → IsMeaningOf text b → a ≡ b
one_meaning text a b x y =
    let same = AreStatementsOf-only text y.statements x.statements y.are x.are in
    λ i entry. one_answer x.statements entry (a entry) (b entry) x.are.may_stand (x.says entry) (subst (λ said. IsSaid said entry (b entry)) same (y.says entry)) i

-- ---- faults

one_telling : (error : StatementsError) (a b : Refusal) (p q : Place) → TellsStatementsError error a p → TellsStatementsError error b q → fault.Refused a p ≡ fault.Refused b q
one_telling statements.OutOfMemory a b p q x y = absurd x
one_telling (statements.Syntax number) a b p q x y = one_at_line number (refusal.StatementLine (statements.Syntax number)) a b p q x.0 x.1 y.0 y.1
one_telling (statements.Contradiction number) a b p q x y = one_at_line number (refusal.StatementLine (statements.Contradiction number)) a b p q x.0 x.1 y.0 y.1

-- a refusal that tells an error is the one that it is told as
told_as : (error : StatementsError) (found : Fault) → IsStatementsFault error found → (why : Refusal) (place : Place) → TellsStatementsError error why place → found ≡ fault.Refused why place
told_as statements.OutOfMemory found is why place tells = absurd tells
told_as (statements.Syntax line) (fault.Refused a p) is why place tells = one_telling (statements.Syntax line) a why p place is tells
told_as (statements.Contradiction line) (fault.Refused a p) is why place tells = one_telling (statements.Contradiction line) a why p place is tells
told_as error found is why place tells = absurd is

-- what refuses the text is told, or memory was refused before it
pub every_statements_fault : {T U : Type 0} (text : List ℕ) (error : StatementsError) (found : Fault) → IsStatementsFault error found
    → ((first : StatementsError) → IsFaultOf text first → Path (Result U StatementsError) (Err error) (Err first) ⊎ (Path (Result U StatementsError) (Err error) (Err statements.OutOfMemory) × BeginsWithStatement text))
    → TellsRefusals {T = T} (λ why place. (first : StatementsError) × IsFaultOf text first × TellsStatementsError first why place) (BeginsWithStatement text) (Err found)
every_statements_fault text error found is every =
    every_told (IsFaultOf text) TellsStatementsError (BeginsWithStatement text) statements.OutOfMemory error found (told_as error found is) (λ same. subst (λ (e : StatementsError). IsStatementsFault e found) same is) every

-- a text that has a meaning has no fault
pub no_statements_fault : (text : List ℕ) (meaning : Entry → Answer) (told : Fault) → IsMeaningOf text meaning → IsFaultOfStatements text told → ⊥
no_statements_fault text meaning told said =
    no_text_fault Statements AreStatementsRefused text said.within
    (λ why place bad. AreStatementsOf-no_fault text said.statements bad.0 said.are bad.1) told

-- a text has one fault
pub one_statements_fault : (text : List ℕ) (a b : Fault) → IsFaultOfStatements text a → IsFaultOfStatements text b → a ≡ b
one_statements_fault text =
    one_text_fault Statements AreStatementsRefused text
    (told_by_one (IsFaultOf text) TellsStatementsError (IsFaultOf-only text) one_telling)

-- memory is wanted only for a text that begins with something
pub wanted_for_statements : {T : Type 0} (text : List ℕ) (error : StatementsError) (found : Fault) → IsStatementsFault error found → (error ≡ statements.OutOfMemory → BeginsWithStatement text)
    → Path (Result T Fault) (Err found) (Err fault.OutOfMemory) → BeginsWithStatement text
wanted_for_statements text statements.OutOfMemory found tells begins is = begins refl
wanted_for_statements text error found tells begins is = let same : found ≡ fault.OutOfMemory = cc in absurd (subst (IsStatementsFault error) same tells)
