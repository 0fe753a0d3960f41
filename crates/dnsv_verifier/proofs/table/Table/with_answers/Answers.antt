use Rattle.std.proofs.Common.{length, sym, ap, ◌∙◌}
use Rattle.dnsv_verifier.specs.Table.{TableContents, with_answers}
use Rattle.dnsv_verifier.proofs.ListedLemmas.{length_with, table_with}
use Rattle.dnsv_verifier.proofs.table.Table.with_answers.Goals as goal

pub new-requires-clause-each : goal.new-requires-clause-each
new-requires-clause-each c =
    length_with c.self.inside.parts c.self.inside.numbers.value.items c.self.inside.answers.items c.args.answers.items c.self.invariant.1
    (c.requires ∙ ap (λ (contents : TableContents). length contents.answers) (sym c.self.view_is))

pub returns : goal.returns
returns c =
    c.new.ensures ∙ table_with c.self.inside.moment c.self.inside.capture.now.rrsets c.self.inside.parts c.self.inside.numbers.value.items c.self.inside.answers.items c.args.answers.items c.self.invariant.1
    ∙ ap (λ (contents : TableContents). with_answers contents c.args.answers.items) c.self.view_is
