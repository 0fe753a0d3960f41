use Rattle.std.proofs.Common.{rules, ap, ap₂, ◌≡◌, ◌∙◌}
use Rattle.std.specs.Prelude.{List, ℕ, Some, pos}
use Rattle.clap.specs.Words.{NarrowsTo, Rule, new_rule, rule_of}
use Rattle.clap.specs.declared.builder.ValueParser.{ValueParser}
use Rattle.clap.specs.declared.builder.ValueParser.TheVariants as parser
use Rattle.dnsv_commands.proofs.CommandLineLemmas.Numbers.{narrowed_to, read_by}
use Rattle.dnsv_questions.specs.Moment.{last_moment}
use Rattle.dnsv_commands.proofs.commands.options.moment_option.Goals as goal

abbrev named : List ℕ → Rule
named word = record (new_rule word) { long = Some word; value_names = 1 }

pub returns-clause-rule : goal.returns-clause-rule
returns-clause-rule c =
    let given = c.value_parser-2.ensures.given in
    let start_is : c.new-2.result.start ≡ pos 0 = search rules in
    let end_is : c.new-2.result.end ≡ pos last_moment = search rules in
    let narrowed : NarrowsTo (parser.Unsigned 0 18446744073709551615) (Some c.new-2.result.start) (Some c.new-2.result.end) c.range.result = rw c.value_parser.ensures at c.range.ensures in
    let range_is : c.range.result ≡ parser.Unsigned 0 last_moment = narrowed_to (pos last_moment) _ _ c.range.result narrowed start_is end_is in
    let made : given.0 ≡ parser.Unsigned 0 last_moment = given.2 ∙ range_is in
    let parser_is : c.value_parser-2.result.value_parser ≡ Some (parser.Unsigned 0 last_moment) = given.1 ∙ ap (λ (p : ValueParser). Some p) made in
    let named_is : rule_of c.help.result ≡ named c.args.word.now = search rules in
    ap rule_of c.value_parser-2.ensures.others ∙ ap₂ read_by parser_is named_is
