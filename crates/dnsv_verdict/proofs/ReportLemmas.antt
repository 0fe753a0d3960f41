-- What a report says, and what is refused in its place.
pub mod HashedLemmas
use Rattle.std.proofs.Common.{◌≡◌, ◌⊎◌, ℕ, List, [], ◌∷◌, Ok, Err, map, refl, sym, ap, ◌∙◌, subst, inl, inr, ⊎_elim, length}
use Rattle.std.specs.Prelude.{Result}
use Rattle.std.proofs.lemmas.List.{length-map}
use Rattle.dnsv_names.specs.Name.{Labels}
use Rattle.dnsv_canonical.proofs.CanonicalLemmas.{Contains-from_member, IsMember}
use Rattle.dnsv_canonical.specs.Rrsets.{ReceivedRrset}
use Rattle.dnsv_questions.specs.Question.{IsQuestion}
use Rattle.dnsv_verifier.specs.Admissible.{IsAsked}
use Rattle.dnsv_verifier.specs.Asked.{IsNumberAsked}
use Rattle.dnsv_verifier.specs.Table.{IsTableOf, TableContents, table_answer}
use Rattle.dnsv_verifier.specs.declared.answer.Answer.{Answer}
use Rattle.dnsv_verifier.specs.declared.entry.Entry.{Entry}
use Rattle.dnsv_verdict.proofs.WayLemmas.RefusalLemmas.{bad_question, no_refusal, one_refusal, refused_where_stopped}
use Rattle.dnsv_verdict.specs.Report.{Refuses}
use Rattle.dnsv_chain.specs.Basis.{Basis}
use Rattle.dnsv_verdict.specs.Way.{IsRefusedFor, IsStoppedAt, IsVerdictOf}
use Rattle.dnsv_verdict.specs.declared.error.VerdictError.{VerdictError}
use Rattle.dnsv_verdict.specs.declared.error.VerdictError.TheVariants.{BadQuestion, OutOfMemory}
use Rattle.dnsv_verdict.specs.declared.link.Link.{Link}
use Rattle.dnsv_verdict.specs.declared.verdict.Verdict.{Verdict}

-- ---- the table

-- as many as the table has
pub number_asked : (meaning : Entry → Answer) (moment : ℕ) (rrsets : List ReceivedRrset) (contents : TableContents) (count : ℕ)
    → IsTableOf meaning moment rrsets contents → count ≡ length contents.answers → IsNumberAsked moment rrsets count
number_asked meaning moment rrsets contents count is so_many = record {
  entries = is.entries;
  rising = is.rising;
  members = is.asked;
  is = so_many ∙ ap length is.answers ∙ length-map is.entries (λ (entry : Entry). (entry, meaning entry));
}

answered_alike : (first second : Entry → Answer) (entries : List Entry)
    → ((entry : Entry) → IsMember entry entries → first entry ≡ second entry)
    → map {B = Entry × Answer} (λ entry. (entry, first entry)) entries ≡ map (λ entry. (entry, second entry)) entries
answered_alike first second [] alike = refl
answered_alike first second (each ∷ entries) alike =
    λ i. (each, alike each (inl refl) i) ∷ answered_alike first second entries (λ entry there. alike entry (inr there)) i

-- a table is that of itself
pub table_of_itself : (meaning : Entry → Answer) (moment : ℕ) (rrsets : List ReceivedRrset) (contents : TableContents)
    → ((entry : Entry) → IsAsked moment rrsets entry → table_answer contents entry ≡ meaning entry)
    → IsTableOf meaning moment rrsets contents → IsTableOf (table_answer contents) contents.moment rrsets contents
table_of_itself meaning moment rrsets contents says is = record {
  of_moment = refl;
  of_rrsets = is.of_rrsets;
  entries = is.entries;
  rising = is.rising;
  asked = λ entry. (
    λ there. subst (λ each. IsAsked each rrsets entry) (sym is.of_moment) ((is.asked entry).0 there),
    λ asked. (is.asked entry).1 (subst (λ each. IsAsked each rrsets entry) is.of_moment asked),
  );
  answers = is.answers ∙ answered_alike meaning (table_answer contents) is.entries
      (λ entry there. sym (says entry ((is.asked entry).0 (Contains-from_member is.entries entry there))));
}

-- ---- refusals

alike : {T U : Type 0} (error other : VerdictError) → Path (Result T VerdictError) (Err error) (Err other)
    → Path (Result U VerdictError) (Err error) (Err other)
alike error other same =
    let is : error ≡ other = cc in
    ap (λ (e : VerdictError). Err e) is

pub either_alike : {T U : Type 0} (error other : VerdictError)
    → Path (Result T VerdictError) (Err error) (Err other) ⊎ Path (Result T VerdictError) (Err error) (Err OutOfMemory)
    → Path (Result U VerdictError) (Err error) (Err other) ⊎ Path (Result U VerdictError) (Err error) (Err OutOfMemory)
either_alike error other (inl same) = inl (alike error other same)
either_alike error other (inr memory) = inr (alike error OutOfMemory memory)

-- a value is no refusal
pub no_error : {T : Type 0} (value : T) (error : VerdictError)
    → Path (Result T VerdictError) (Ok value) (Err error) ⊎ Path (Result T VerdictError) (Ok value) (Err OutOfMemory) → ⊥
no_error value error (inl same) = cc
no_error value error (inr memory) = cc

-- it is refused alike whatever else the result may be
pub same_refusal : {T U : Type 0} (basis : Basis) (name : Labels) (t : ℕ) (error : VerdictError)
    → Refuses {T = T} basis name t (Err error) → Refuses {T = U} basis name t (Err error)
same_refusal basis name t error refuses = record {
  question = λ not_asked. alike error BadQuestion (refuses.question not_asked);
  told = refuses.told;
  refused = λ other is. either_alike error other (refuses.refused other is);
}

-- want of memory is told of any question that can be asked
pub no_memory : {T : Type 0} (basis : Basis) (name : Labels) (t : ℕ) → IsQuestion name t → Refuses {T = T} basis name t (Err OutOfMemory)
no_memory basis name t asked = record {
  question = λ not_asked. absurd (not_asked asked);
  told = inl refl;
  refused = λ other is. inr refl;
}

-- a question of which the type can't be asked at the name
pub no_question : {T : Type 0} (basis : Basis) (name : Labels) (t : ℕ) → ¬ IsQuestion name t → Refuses {T = T} basis name t (Err BadQuestion)
no_question basis name t not_asked = record {
  question = λ again. refl;
  told = inr (inl (refl, not_asked));
  refused = λ other is. ⊎_elim (λ (same : (other ≡ BadQuestion) × (¬ IsQuestion name t)). inl (ap (λ (e : VerdictError). Err e) (sym same.0)))
      (λ (asked : IsQuestion name t × IsRefusedFor basis name t other). absurd (not_asked asked.0)) is;
}

-- a question that can be asked, of which the way ends at an alias that can't be followed, or memory runs out
pub refused_on_way : {T : Type 0} (basis : Basis) (name : Labels) (t : ℕ) (error : VerdictError) → IsQuestion name t
    → (error ≡ OutOfMemory) ⊎ IsRefusedFor basis name t error → Refuses {T = T} basis name t (Err error)
refused_on_way basis name t error asked why = record {
  question = λ not_asked. absurd (not_asked asked);
  told = ⊎_elim (λ (memory : error ≡ OutOfMemory). inl memory) (λ (refused : IsRefusedFor basis name t error). inr (inr (asked, refused))) why;
  refused = λ other is. ⊎_elim (λ (memory : error ≡ OutOfMemory). inr (ap (λ (e : VerdictError). Err e) memory))
      (λ (refused : IsRefusedFor basis name t error). inl (ap (λ (e : VerdictError). Err e) (one_refusal basis name t error other asked refused is))) why;
}

-- a question of which nothing leads anywhere, since the type can't be asked at the name or memory runs out
pub not_traced : {T U : Type 0} (basis : Basis) (name : Labels) (t : ℕ) (error : VerdictError)
    → (¬ IsQuestion name t → Path (Result T VerdictError) (Err error) (Err BadQuestion))
    → (error ≡ OutOfMemory) ⊎ ((error ≡ BadQuestion) × (¬ IsQuestion name t)) → Refuses {T = U} basis name t (Err error)
not_traced basis name t error question why = record {
  question = λ not_asked. alike error BadQuestion (question not_asked);
  told = ⊎_elim (λ (memory : error ≡ OutOfMemory). inl memory)
      (λ (bad : (error ≡ BadQuestion) × (¬ IsQuestion name t)). inr (inl bad)) why;
  refused = λ other is. ⊎_elim (λ (memory : error ≡ OutOfMemory). inr (ap (λ (e : VerdictError). Err e) memory))
      (λ (bad : (error ≡ BadQuestion) × (¬ IsQuestion name t)).
      inl (ap (λ (e : VerdictError). Err e) (bad.0 ∙ sym (bad_question basis name t other bad.1 is)))) why;
}

-- a question of which the way stops
pub refused_where_it_stops : {T : Type 0} (basis : Basis) (name : Labels) (t : ℕ) (links : List Link) (alias : Link) (error : VerdictError)
    → IsQuestion name t → IsStoppedAt basis name t links alias error → Refuses {T = T} basis name t (Err error)
refused_where_it_stops basis name t links alias error asked is =
    refused_on_way basis name t error asked (inr (refused_where_stopped basis name t links alias error is))

-- a question that has a verdict
pub none_refused : {T : Type 0} (basis : Basis) (name : Labels) (t : ℕ) (links : List Link) (last : Labels) (verdict : Verdict) (value : T)
    → IsQuestion name t → IsVerdictOf basis name t links last verdict → Refuses {T = T} basis name t (Ok value)
none_refused basis name t links last verdict value asked is = record {
  question = λ not_asked. absurd (not_asked asked);
  told = tt;
  refused = λ other refused. absurd (no_refusal basis name t links last verdict other asked is refused);
}
