-- What is said of a question is the same for verifiers that answer alike what is asked at the moment.
use Rattle.std.proofs.Common.{◌≡◌, ℕ, sym, ap}
use Rattle.dnsv_names.specs.Name.{Labels}
use Rattle.dnsv_verifier.specs.Admissible.{IsAsked}
use Rattle.dnsv_verifier.specs.Table.{hoped_answer}
use Rattle.dnsv_verifier.specs.declared.answer.Answer.{Answer}
use Rattle.dnsv_verifier.specs.declared.entry.Entry.{Entry}
use Rattle.dnsv_verdict.proofs.AlikeLemmas.{AreAlike, hoped, refused_to, verdict_of_to}
use Rattle.dnsv_chain.specs.Basis.{Basis, with_meaning}
use Rattle.dnsv_questions.specs.declared.format.Format.{Format}
use Rattle.dnsv_explain_laws.proofs.holding.marks.HopedLemmas.{DependsOnAsked}
use Rattle.dnsv_moment_laws.proofs.lemmas.WithinLemmas.{table_alike}
use Rattle.dnsv_moment_laws.specs.Alike.{AreAnsweredAlike}
use Rattle.dnsv_moments.specs.validity.Said.{IsSaid, Said}
use Rattle.dnsv_moments.specs.validity.Said.IsSaid.{a_refusal, a_verdict}

module _ (depends : DependsOnAsked) (basis : Basis) (other : Entry → Answer) (alike : AreAnsweredAlike basis other) where
  back : (entry : Entry) → IsAsked basis.moment basis.rrsets entry → other entry ≡ basis.meaning entry
  back entry asked = sym (alike entry asked)

  pub alike_by : AreAlike basis basis.moment other
  alike_by = record {
    secured_to = depends basis.meaning other basis.moment basis.rrsets basis.anchors alike;
    secured_from = depends other basis.meaning basis.moment basis.rrsets basis.anchors back;
    hoped_to = depends (hoped basis.meaning) (hoped other) basis.moment basis.rrsets basis.anchors
        (λ entry asked. ap (λ (answer : Answer). hoped_answer answer) (alike entry asked));
    hoped_from = depends (hoped other) (hoped basis.meaning) basis.moment basis.rrsets basis.anchors
        (λ entry asked. ap (λ (answer : Answer). hoped_answer answer) (back entry asked));
    asked_to = λ entry asked. asked;
    asked_from = λ entry asked. asked;
    answered = alike;
  }

  pub said_alike : (format : Format) (name : Labels) (t : ℕ) (said : Said) → IsSaid format basis name t said
      → IsSaid format (with_meaning basis other) name t said
  said_alike format name t said (a_verdict is) = a_verdict (record {
    links = is.links;
    last = is.last;
    verdict = is.verdict;
    is = verdict_of_to basis basis.moment other alike_by name t is.links is.last is.verdict is.is;
    told = is.told;
    lines = is.lines;
    derived = record {
      table = is.derived.table;
      of = table_alike basis.meaning other basis.moment basis.rrsets alike is.derived.table is.derived.of;
      told = is.derived.told;
    };
    by = is.by;
  })
  said_alike format name t said (a_refusal is) = a_refusal (record {
    error = is.error;
    is = refused_to basis basis.moment other alike_by name t is.error is.is;
    told = is.told;
    lines = is.lines;
    derived = record {
      table = is.derived.table;
      of = table_alike basis.meaning other basis.moment basis.rrsets alike is.derived.table is.derived.of;
      told = is.derived.told;
    };
    by = is.by;
  })
