use Rattle.std.proofs.Common.{rules, [], ◌∙◌, ℕ, ap, get_or, sym, take}
use Rattle.std.proofs.Output.{has_written_append, has_written_of_eq}
use Rattle.std.proofs.lemmas.List.{flat_map_more, take_all, take_more}
use Rattle.std.specs.List.{flat_map}
use Rattle.dnsv_lines.specs.Salt.{octet_text}
use Rattle.dnsv_lines.proofs.sentence.salt.DigitsTextDisplay.fmt.Goals as goal

pub loop-octet-preserved : goal.loop-octet-preserved
loop-octet-preserved g c = λ plain.
    let items = c.args.self.now.octets.now in
    let i : ℕ = c.loop-octet.octet-index in
    has_written_of_eq _ _ _ _ _
    (flat_map_more octet_text [] (take i items) (get_or items i 0)
    ∙ ap (λ all. flat_map octet_text all) (sym (take_more items i 0 c.loop-octet-test.true)))
    (has_written_append _ _ _ _ _ _ (c.loop-octet.invariant plain) (search rules))

pub returns-clause-writes : goal.returns-clause-writes
returns-clause-writes g c = λ plain ok.
    has_written_of_eq _ _ _ _ _
    (ap (λ all. flat_map octet_text all) (take_all c.loop-octet.octet-index c.args.self.now.octets.now c.loop-octet-test.false))
    (c.loop-octet.invariant plain)
