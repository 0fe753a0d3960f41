use Rattle.std.proofs.Common.{sym, ◌∙◌}
use Rattle.dnsv_denial.proofs.lemmas.WildcardAnswerLemmas.{none_of}
use Rattle.dnsv_denial.proofs.wildcard_answers.shown_by_records.Goals as goal

pub returns : goal.returns
returns c = λ trust rrsets view. record {
  closer = λ none. none_of c.no_closer.result _ _ (sym c.is_some.ensures ∙ none) (c.no_closer.ensures trust rrsets (view.are_sets trust) view.are_zones);
  not_opted_out = λ none. none_of c.opted_out_next_closer.result _ _ (sym c.is_some-2.ensures ∙ none) (c.opted_out_next_closer.ensures trust rrsets view);
}
