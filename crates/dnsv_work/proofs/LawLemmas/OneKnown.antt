-- One thing is known of signatures by its files, or they have one fault.
use Rattle.std.proofs.Common.{◌≡◌, ℕ, List, Option, Some, None, length, sym, ap, subst, ◌∙◌}
use Rattle.std.proofs.lemmas.List.{length-map}
use Rattle.dnsv_canonical.specs.Rrsets.{ReceivedRrset}
use Rattle.dnsv_answers.specs.Answered.{IsNumberAskedWithin}
use Rattle.dnsv_answers.specs.declared.heading.Moments.{Moments}
use Rattle.dnsv_verifier.specs.Table.{TableContents, table_answer}
use Rattle.dnsv_verifier.specs.declared.answer.Answer.{Answer}
use Rattle.dnsv_verifier.specs.declared.entry.Entry.{Entry}
use Rattle.dnsv_answers.specs.AnswerFile.{AnswersContents, answers_in}
use Rattle.dnsv_answers.specs.declared.said.SaidAnswer.{SaidAnswer}
use Rattle.dnsv_answers.proofs.AnswerLaws.{AreAnswersOf-only}
use Rattle.dnsv_answers.proofs.AnsweredLaws.{answered_count_within, one_answered_within}
use Rattle.dnsv_files.specs.declared.status.Fault.{Fault}
use Rattle.dnsv_files.specs.Files.{octets_or_none}
use Rattle.dnsv_files.specs.Bounds.{begin_of, end_of}
use Rattle.dnsv_work.specs.Known.{AreMeant, IsFaultOfKnown, IsKnownBy}
use Rattle.dnsv_files.proofs.FileLemmas.Answers.{no_answers_fault, one_answers_fault}
use Rattle.dnsv_files.proofs.FileLemmas.Statements.{no_statements_fault, one_meaning, one_statements_fault}

module _ (capture : List ℕ) (moments : Moments) (rrsets : List ReceivedRrset) where
  -- answers mean one thing
  one_meant : (contents : AnswersContents) (m n : Entry → Answer) (a b : Option (List ℕ)) → AreMeant moments rrsets contents m a → AreMeant moments rrsets contents n b
      → (m ≡ n) × (a ≡ b)
  one_meant contents m n a b x y = (
    x.says ∙ ap (λ (table : TableContents). table_answer table) (one_answered_within (begin_of moments) (end_of moments) rrsets (answers_in contents) x.table x.is_table y.table y.is_table) ∙ sym y.says,
    x.numbered ∙ sym y.numbered,
  )

  pub one_known : (stated answered : Option (List ℕ)) (m n : Entry → Answer) (a b : Option (List ℕ)) → IsKnownBy capture moments rrsets stated answered m a
      → IsKnownBy capture moments rrsets stated answered n b → (m ≡ n) × (a ≡ b)
  one_known stated None m n a b x y = (one_meaning (octets_or_none stated) m n x.0 y.0, x.1 ∙ sym y.1)
  one_known stated (Some text) m n a b x y =
      one_meant y.0 m n a b
      (subst (λ (contents : AnswersContents). AreMeant moments rrsets contents m a) (AreAnswersOf-only text x.0 y.0 x.1.has.are y.1.has.are) x.2) y.2

  -- there are as many answers as entries
  all_counted : (contents : AnswersContents) (m : Entry → Answer) (a : Option (List ℕ)) → AreMeant moments rrsets contents m a
      → (count : ℕ) → IsNumberAskedWithin (begin_of moments) (end_of moments) rrsets count → length contents.said ≡ count
  all_counted contents m a meant count asked =
      sym (length-map contents.said (λ (each : SaidAnswer). each.answer))
      ∙ answered_count_within (begin_of moments) (end_of moments) rrsets (answers_in contents) meant.table meant.is_table count asked

  -- what is known has no fault
  pub known_stands : (stated answered : Option (List ℕ)) (m : Entry → Answer) (a : Option (List ℕ)) (told : Fault) → IsKnownBy capture moments rrsets stated answered m a
      → IsFaultOfKnown capture moments rrsets stated answered told → ⊥
  known_stands stated None m a told x bad = no_statements_fault (octets_or_none stated) m told x.0 bad
  known_stands stated (Some text) m a told x bad = no_answers_fault capture moments text rrsets x.0 x.1 (all_counted x.0 m a x.2) told bad

  pub one_known_fault : (stated answered : Option (List ℕ)) (a b : Fault) → IsFaultOfKnown capture moments rrsets stated answered a
      → IsFaultOfKnown capture moments rrsets stated answered b → a ≡ b
  one_known_fault stated None a b x y = one_statements_fault (octets_or_none stated) a b x y
  one_known_fault stated (Some text) a b x y = one_answers_fault capture moments text rrsets a b x y
