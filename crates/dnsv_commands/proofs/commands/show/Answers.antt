use Rattle.std.proofs.Common.{ap, codes, ◌∙◌}
use Rattle.std.proofs.lemmas.Result.{IfOk-weaker}
use Rattle.clap.specs.Words.{new_app}
use Rattle.clap.specs.Simple.{app_of_fields}
use Rattle.dnsv_commands.proofs.CommandLineLemmas.Options.{IsApp, given_option}
use Rattle.dnsv_commands.proofs.commands.show.Goals as goal

pub returns : goal.returns
returns c =
    let bare : IsApp c.after_help.result (new_app (codes "show")) = record {
      shape = ap app_of_fields c.after_help.ensures ∙ ap app_of_fields c.about.ensures ∙ c.new.ensures.app;
      local = ap (λ f. f.has_globals) c.after_help.ensures ∙ ap (λ f. f.has_globals) c.about.ensures ∙ c.new.ensures.local;
    } in
    IfOk-weaker c.arg.result _ _ (λ command adds.
    let all = given_option adds c.capture_option.ensures.rule c.capture_option.ensures.local bare in (all.shape, all.local)) c.arg.ensures
