-- Commands that are given one option after another.
use Rattle.std.proofs.Common.{◌≡◌, ◌∙◌, false, ap₂}
use Rattle.std.specs.Prelude.{◌||◌}
use Rattle.clap.specs.Words.{AddsArg, App, Rule, app_of, rule_of, with_rule}
use Rattle.clap.specs.declared.Arg.{Arg}
use Rattle.clap.specs.declared.Command.{Command}
use Rattle.clap.specs.declared.Command.TheViews.{out-Command as fields_of}

-- the command is this one for `clap`, and has no option of its subcommands
pub record IsApp (command : Command) (app : App) : Type 0 where
  pub shape : app_of command ≡ app
  pub local : (fields_of command).has_globals ≡ false

-- an option that is given to a command
pub given_option : {old new : Command} {option : Arg} {app : App} {rule : Rule} → AddsArg old option new
    → rule_of option ≡ rule → option.global ≡ false → IsApp old app → IsApp new (with_rule app rule)
given_option adds is local before = record {
  shape = adds.shape local ∙ ap₂ with_rule before.shape is;
  local = adds.globals ∙ ap₂ ◌||◌ before.local local;
}
