use Rattle.std.proofs.Common.{ap, ◌∙◌}
use Rattle.std.proofs.lemmas.Result.{IfOk-weaker}
use Rattle.clap.specs.Words.{new_app}
use Rattle.clap.specs.Simple.{app_of_fields}
use Rattle.dnsv_commands.specs.Commands.{needed}
use Rattle.dnsv_commands.proofs.CommandLineLemmas.Options.{IsApp, given_option}
use Rattle.dnsv_commands.proofs.commands.question.Goals as goal

pub returns : goal.returns
returns c =
    let bare : IsApp c.after_help.result (new_app c.args.word.now) = record {
      shape = ap app_of_fields c.after_help.ensures ∙ ap app_of_fields c.about.ensures ∙ c.new.ensures.app;
      local = ap (λ f. f.has_globals) c.after_help.ensures ∙ ap (λ f. f.has_globals) c.about.ensures ∙ c.new.ensures.local;
    } in
    let one = given_option c.in_ok-arg.ensures c.capture_option.ensures.rule c.capture_option.ensures.local bare in
    let two = given_option c.in_ok-arg-2.ensures c.anchors_option.ensures.rule c.anchors_option.ensures.local one in
    let three = given_option c.in_ok-arg-3.ensures (c.needed.ensures.rule ∙ ap needed c.moment_option.ensures.rule) (c.needed.ensures.local ∙ c.moment_option.ensures.local) two in
    let four = given_option c.in_ok-arg-4.ensures c.name_option.ensures.rule c.name_option.ensures.local three in
    let five = given_option c.in_ok-arg-5.ensures c.type_option.ensures.rule c.type_option.ensures.local four in
    let six = given_option c.in_ok-arg-6.ensures c.questions_option.ensures.rule c.questions_option.ensures.local five in
    let seven = given_option c.in_ok-arg-7.ensures c.statements_option.ensures.rule c.statements_option.ensures.local six in
    let eight = given_option c.in_ok-arg-8.ensures c.answers_option.ensures.rule c.answers_option.ensures.local seven in
    let nine = given_option c.in_ok-arg-9.ensures c.keys_option.ensures.rule c.keys_option.ensures.local eight in
    let ten = given_option c.in_ok-arg-10.ensures c.macs_option.ensures.rule c.macs_option.ensures.local nine in
    IfOk-weaker c.arg-11.result _ _ (λ command adds.
    let all = given_option adds c.json_flag.ensures.rule c.json_flag.ensures.local ten in (all.shape, all.local)) c.arg-11.ensures
