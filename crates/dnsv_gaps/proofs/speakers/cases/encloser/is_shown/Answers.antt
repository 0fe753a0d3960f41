use Rattle.std.proofs.Common.{subst}
use Rattle.dnsv_names.specs.Name.{Labels, rightmost}
use Rattle.dnsv_zones.specs.forms.RecordWords.{words}
use Rattle.dnsv_proof_forms.specs.words.ChainSaid.{chain_said}
use Rattle.std.proofs.Common.{◌↔◌, IsTrue}
use Rattle.dnsv_gaps.proofs.CaseLemmas.{shown_alike}
use Rattle.dnsv_gaps.proofs.speakers.cases.encloser.is_shown.Goals as goal

pub returns : goal.returns
returns c =
    let question = c.args.question.now in
    let source = c.args.source.now in
    let name = rightmost question.name.now c.args.labels in
    let Of : Labels → Type 0 = λ apex. IsTrue c.has_encloser.result ↔ (words (chain_said apex source.records)).Encloser name in
    let test = subst Of c.suffix-zone.ensures.labels c.has_encloser.ensures in
    let same = shown_alike question source c.requires.source name in
    (λ yes. same.0 (test.0 yes), λ shown. test.1 (same.1 shown))
