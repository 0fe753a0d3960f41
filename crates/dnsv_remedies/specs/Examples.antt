-- Questions that nothing answers, as facts. The zones are those of `Examples` of `dnsv_mending`; in each the zone test. has a
-- trust anchor and is trusted, and is the one with one label.
use Rattle.std.specs.Prelude.{ℕ, Bool, true, false, List, [], ◌∷◌, Some, None}
use Rattle.std.specs.declared.alloc.Global.{Global}
use Rattle.dnsv_lines.specs.declared.line.fault.denial.WhyNsec3.TheVariants as nsec3
use Rattle.dnsv_mending.specs.Examples.{clean, none, one, over, record_at, root, signature_at, signed_by, trusted, two}
use Rattle.dnsv_mending.specs.Zone.{levels_of}
use Rattle.dnsv_mending.specs.declared.facts.signature.KeyAnswer.TheVariants as answer
use Rattle.dnsv_mending.specs.declared.facts.signature.RrsetFacts.{RrsetFacts}
use Rattle.dnsv_mending.specs.declared.facts.zone.ZoneFacts.{ZoneFacts}
use Rattle.dnsv_remedies.specs.Question.{lines_told, question_remedy}
use Rattle.dnsv_remedies.specs.declared.facts.answer.GoalFacts.{GoalFacts}
use Rattle.dnsv_remedies.specs.declared.facts.cut.CutCase.{CutCase}
use Rattle.dnsv_remedies.specs.declared.facts.cut.CutCase.TheVariants as cut
use Rattle.dnsv_remedies.specs.declared.facts.denial.RecordsAt.TheVariants as records
use Rattle.dnsv_remedies.specs.declared.facts.denial.SourceCase.{SourceCase}
use Rattle.dnsv_remedies.specs.declared.facts.denial.SourceCase.TheVariants as case
use Rattle.dnsv_remedies.specs.declared.facts.denial.SpeakerFacts.{SpeakerFacts}
use Rattle.dnsv_remedies.specs.declared.facts.denial.WildcardFacts.TheVariants as wildcard
use Rattle.dnsv_remedies.specs.declared.facts.name.CutNumber.{CutNumber}
use Rattle.dnsv_remedies.specs.declared.facts.name.SourceNumber.{SourceNumber}
use Rattle.dnsv_remedies.specs.declared.facts.question.DnameFacts.{DnameFacts}
use Rattle.dnsv_remedies.specs.declared.facts.question.QuestionFacts.{QuestionFacts}
use Rattle.dnsv_remedies.specs.declared.said.Said.{Said}

-- what is told of a question about a name below these zones
abbrev pub question_lines : List ZoneFacts → QuestionFacts → List Said
question_lines zones q = lines_told q (question_remedy (levels_of q.is_anchored zones) q)

-- the first source of the zone test.
abbrev pub source : SourceNumber
source = record { zone = 1; place = 0 }

-- a name with so many labels that owns a DNAME RRset, and one below a zone
abbrev pub dname_at : ℕ → ℕ → DnameFacts
dname_at labels rrset = record { labels = labels; rrset = rrset }

abbrev pub cut_at : ℕ → ℕ → CutNumber
cut_at name zone = record { zone = zone; name = name }

module _ (heap : Global) where
  -- test. is trusted, and nothing is known below it
  abbrev pub below : List ZoneFacts
  below = root heap ∷ trusted heap ∷ root heap ∷ root heap ∷ []

  -- nothing is
  abbrev pub question : ℕ → QuestionFacts
  question labels = record { labels = labels; is_anchored = true; goals = none heap; dnames = none heap; speakers = none heap; parents = none heap }

  -- an RRset that may answer and has no signatures
  abbrev pub unsigned_goal : ℕ → GoalFacts
  unsigned_goal number = record { number = number; is_cname = false; signatures = none heap }

  -- what test. says, by one source
  abbrev pub speaker : SourceCase → SpeakerFacts
  speaker said = record { labels = 1; has_denials = true; sources = one heap (record { place = 0; case = said }); unusable = none heap }

  -- below test. the zone shop.test. is trusted too
  abbrev pub below_shop : List ZoneFacts
  below_shop = root heap ∷ trusted heap ∷ trusted heap ∷ root heap ∷ []

  abbrev pub denied : ℕ → SourceCase → QuestionFacts
  denied labels said = record (question labels) { speakers = one heap (speaker said) }

  abbrev pub by_test : ℕ → RrsetFacts
  by_test number = signed_by heap number 1

  -- an RRset whose only signature, by test., is over
  abbrev pub over_by_test : ℕ → RrsetFacts
  over_by_test number = record {
    number = number;
    signatures = one heap (record {
      number = signature_at number 1;
      signer = 1;
      is_signed = false;
      faults = over 100;
      key_missing = false;
      not_zone_key = false;
      keys = one heap (record { key = 0; answer = answer.Unanswered });
    });
  }

  -- ---- questions

  -- www.test.: an answer without its signatures
  abbrev pub stripped : QuestionFacts
  stripped = record (question 2) { goals = one heap (unsigned_goal 2) }

  -- www.expired.test.: all signatures of the zone expired.test. are over
  abbrev pub over_answer : QuestionFacts
  over_answer = record (question 3) {
    goals = one heap (record {
      number = 6;
      is_cname = false;
      signatures = one heap (record {
        signature = record {
          number = signature_at 6 1;
          signer = 2;
          is_signed = false;
          faults = over 100;
          key_missing = false;
          not_zone_key = false;
          keys = one heap (record { key = 0; answer = answer.Unanswered });
        };
        closer = None;
      });
    });
  }

  -- foo.test., by the wildcard *.test., without a record that covers foo.test.
  abbrev pub wild : QuestionFacts
  wild = record (question 2) {
    goals = one heap (record {
      number = 2;
      is_cname = false;
      signatures = one heap (record {
        signature = record {
          number = signature_at 2 1;
          signer = 1;
          is_signed = true;
          faults = clean;
          key_missing = false;
          not_zone_key = false;
          keys = one heap (record { key = 0; answer = answer.Good });
        };
        closer = Some (record { name = 2; covers = none heap; unusable = none heap });
      });
    });
  }

  -- other.test., by the denials of another name: they show test. and cover its wildcard, and nothing is said of the name
  abbrev pub of_another : QuestionFacts
  of_another = denied 2 (case.Encloser (record { name = 1; next = 2; shown = one heap (by_test 2); covers = none heap; wildcard = wildcard.Covered (one heap (by_test 3)) }))

  -- a.b.test., by NSEC records of which none covers b.test. or the wildcard
  abbrev pub uncovered : QuestionFacts
  uncovered = denied 3 (case.Encloser (record { name = 1; next = 2; shown = none heap; covers = none heap; wildcard = wildcard.Covered (none heap) }))

  -- www.shop.test., by the record of the delegation shop.test.; and by one that holds DNAME
  abbrev pub closed : Bool → QuestionFacts
  closed is_dname = denied 3 (case.Closed (record { name = 2; number = record_at 2 1; is_dname = is_dname; rrset = by_test 2 }))

  -- www.test.: no record of its type, by a record that is over
  abbrev pub over_denial : QuestionFacts
  over_denial = denied 2 (case.At (records.Denying (one heap (over_by_test 2))))

  -- new.shop.test.: shop.test. should speak and shows no ancestor, and a record of test. that is over denies the type
  abbrev pub elsewhere : QuestionFacts
  elsewhere = record (question 3) {
    speakers = two heap (record (speaker case.NoEncloser) { labels = 2 }) (speaker (case.At (records.Denying (one heap (over_by_test 2)))));
  }

  -- www.test.: all that may deny it has too many iterations
  abbrev pub of_no_use : QuestionFacts
  of_no_use = record (question 2) {
    speakers = one heap (record {
      labels = 1;
      has_denials = true;
      sources = none heap;
      unusable = one heap (record { why = nsec3.Iterations (record { 0 = 501 }); number = record_at 2 1 });
    });
  }

  -- www.shop.test.: an answer without signatures, below shop.test., of which test. says this; something shows a delegation there
  abbrev pub below_cut : CutCase → QuestionFacts
  below_cut said = record (question 3) {
    goals = one heap (unsigned_goal 2);
    parents = one heap (record {
      labels = 1;
      cuts = one heap (record { name = 2; is_shown = true; sources = one heap (record { place = 0; case = said }) });
      unusable = none heap;
    });
  }

  -- it is an unsigned delegation, whose proof is over
  abbrev pub over_cut : QuestionFacts
  over_cut = below_cut (cut.Delegation (one heap (over_by_test 3)))

  -- opt-out covers shop.test., and nothing shows its parent
  abbrev pub unshown_cut : QuestionFacts
  unshown_cut = below_cut (cut.OptOut (record { shown = none heap; covers = one heap (by_test 3) }))

  -- www.test. without a trust anchor: its answer is signed by test., of which no key is there
  abbrev pub unknown : List ZoneFacts
  unknown = root heap ∷ root heap ∷ root heap ∷ []

  abbrev pub unanchored : QuestionFacts
  unanchored = record (question 2) {
    is_anchored = false;
    goals = one heap (record {
      number = 2;
      is_cname = false;
      signatures = one heap (record {
        signature = record {
          number = signature_at 2 1;
          signer = 1;
          is_signed = false;
          faults = clean;
          key_missing = false;
          not_zone_key = false;
          keys = none heap;
        };
        closer = None;
      });
    });
  }

  -- www.shop.test. below the DNAME RRset of shop.test., of which a CNAME RRset without signatures was made
  abbrev pub synthesized : QuestionFacts
  synthesized = record (question 3) {
    goals = one heap (record { number = 3; is_cname = true; signatures = none heap });
    dnames = one heap (dname_at 2 2);
  }
