use Rattle.std.proofs.Common.{ap, sym, ◌≡◌, ◌∙◌, Some}
use Rattle.std.proofs.lemmas.Result.{IfOk-weaker}
use Rattle.std.specs.Prelude.{option_map}
use Rattle.clap.specs.Words.{first_value, found_of}
use Rattle.clap.proofs.CallerLemmas.{some_of_text}
use Rattle.clap.proofs.WalkLemmas.{first_value-rows}
use Rattle.dnsv_commands.proofs.command_line.values.value.Goals as goal

pub unwrap-requires : goal.unwrap-requires
unwrap-requires c = some_of_text _ c.get_str.result _ c.get_str.ensures (rw first_value-rows c.requires)

pub returns : goal.returns
returns c =
    let word : first_value (found_of c.args.matches.now) c.args.option.now ≡ Some c.unwrap.result.now = sym c.get_str.ensures ∙ ap (option_map (λ s. s.now)) c.unwrap.ensures in
    IfOk-weaker c.from_str.result _ _ (λ text same. sym (first_value-rows (found_of c.args.matches.now) c.args.option.now) ∙ word ∙ ap (λ t. Some t) (sym same)) c.from_str.ensures.ok
