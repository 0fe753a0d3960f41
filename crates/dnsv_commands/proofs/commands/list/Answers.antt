use Rattle.std.proofs.Common.{ap, codes, ◌∙◌}
use Rattle.std.proofs.lemmas.Result.{IfOk-weaker}
use Rattle.clap.specs.Words.{new_app}
use Rattle.clap.specs.Simple.{app_of_fields}
use Rattle.dnsv_commands.proofs.CommandLineLemmas.Options.{IsApp, given_option}
use Rattle.dnsv_commands.proofs.commands.list.Goals as goal

pub returns : goal.returns
returns c =
    let bare : IsApp c.after_help.result (new_app (codes "list")) = record {
      shape = ap app_of_fields c.after_help.ensures ∙ ap app_of_fields c.about.ensures ∙ c.new.ensures.app;
      local = ap (λ f. f.has_globals) c.after_help.ensures ∙ ap (λ f. f.has_globals) c.about.ensures ∙ c.new.ensures.local;
    } in
    let one = given_option c.in_ok-arg.ensures c.capture_option.ensures.rule c.capture_option.ensures.local bare in
    let two = given_option c.in_ok-arg-2.ensures c.moment_option.ensures.rule c.moment_option.ensures.local one in
    let three = given_option c.in_ok-arg-3.ensures c.moment_option-2.ensures.rule c.moment_option-2.ensures.local two in
    let four = given_option c.in_ok-arg-4.ensures c.moment_option-3.ensures.rule c.moment_option-3.ensures.local three in
    let five = given_option c.in_ok-arg-5.ensures c.statements_option.ensures.rule c.statements_option.ensures.local four in
    let six = given_option c.in_ok-arg-6.ensures c.all_flag.ensures.rule c.all_flag.ensures.local five in
    let seven = given_option c.in_ok-arg-7.ensures c.compact_flag.ensures.rule c.compact_flag.ensures.local six in
    IfOk-weaker c.arg-8.result _ _ (λ command adds.
    let all = given_option adds c.json_flag.ensures.rule c.json_flag.ensures.local seven in (all.shape, all.local)) c.arg-8.ensures
