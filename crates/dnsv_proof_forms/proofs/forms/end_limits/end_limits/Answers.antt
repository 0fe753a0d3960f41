use Rattle.std.proofs.Common.{◌+◌, ◌≤◌, arith, subst}
use Rattle.dnsv_zones.specs.forms.Forms.{EndsAt}
use Rattle.dnsv_zones.specs.forms.RecordWords.{words}
use Rattle.dnsv_proof_forms.specs.words.ChainSaid.{chain_said}
use Rattle.dnsv_proof_forms.proofs.lemmas.forms.EndLimitLemmas.{absent_within, shown_within}
use Rattle.dnsv_proof_forms.proofs.lemmas.forms.WildcardLemmas.{no_fewer_labels}
use Rattle.dnsv_proof_forms.proofs.forms.end_limits.end_limits.Goals as goal

pub returns-in-Nsec-clause-limits : goal.returns-in-Nsec-clause-limits
returns-in-Nsec-clause-limits c = λ labels ends.
    let apex = c.args.apex.now in
    let name = c.args.name.now in
    let shown = c.nsec_limits.ensures.shown in
    let absent = c.nsec_limits.ensures.absent in
    let here = subst (λ records. EndsAt (words (chain_said apex records)) apex name labels) c.in-Nsec.is ends in
    let fits : labels ≤ shown.0 = shown_within apex name c.in-Nsec.entries.now labels here.above shown.0 shown.1 shown.2 here.encloser in
    let gone : absent.0 ≤ labels + 1 = absent_within apex name c.in-Nsec.entries.now labels here.above absent.0 absent.1 here.next_closer in
    (rw absent.2 (omega (arith, gone, no_fewer_labels apex name labels here.above)), rw shown.3 (omega (arith, fits, here.above.proper)))

pub returns-in-Nsec3-clause-limits : goal.returns-in-Nsec3-clause-limits
returns-in-Nsec3-clause-limits c = λ labels ends. (
  omega (arith, no_fewer_labels c.args.apex.now c.args.name.now labels ends.above, c.labels.ensures.count, c.labels-in-Nsec3.ensures.count),
  omega (arith, ends.above.proper, c.labels.ensures.count, c.labels-in-Nsec3.ensures.count),
)
