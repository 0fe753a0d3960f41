use Rattle.std.proofs.Common.{ap, ap₂, codes, false, true, ◌≡◌, ◌∙◌}
use Rattle.std.proofs.lemmas.Result.{IfOk-weaker}
use Rattle.clap.specs.Words.{App, app_of, new_app, with_subcommand}
use Rattle.clap.specs.Simple.{app_of_fields}
use Rattle.dnsv_commands.specs.Commands.{bare_app, list_app, question_app, show_app}
use Rattle.dnsv_commands.proofs.commands.program.Goals as goal

-- a command that has a version, one that stays without its subcommand `help`, and one that has to have a subcommand
abbrev versioned : App → App
versioned a = record a { top = record a.top { has_version = true } }

abbrev helpless : App → App
helpless a = record a { top = record a.top { disable_help_subcommand = true } }

abbrev demanding : App → App
demanding a = record a { top = record a.top { subcommand_required = true } }

pub returns : goal.returns
returns c =
    let about_is : app_of c.about.result ≡ new_app (codes "dnssec_check") = ap app_of_fields c.about.ensures ∙ c.new.ensures.app in
    let version_is : app_of c.version.result ≡ versioned (app_of c.about.result) = ap app_of_fields c.version.ensures in
    let after_help_is : app_of c.after_help.result ≡ versioned (new_app (codes "dnssec_check")) = ap app_of_fields c.after_help.ensures ∙ (version_is ∙ ap versioned about_is) in
    let helpless_is : app_of c.disable_help_subcommand.result ≡ helpless (app_of c.after_help.result) = ap app_of_fields c.disable_help_subcommand.ensures in
    let demanding_is : app_of c.subcommand_required.result ≡ demanding (app_of c.disable_help_subcommand.result) = ap app_of_fields c.subcommand_required.ensures in
    let bare_is : app_of c.subcommand_required.result ≡ bare_app = demanding_is ∙ ap demanding (helpless_is ∙ ap helpless after_help_is) in
    let shown_is : app_of c.in_ok-subcommand.field-0 ≡ with_subcommand bare_app show_app.top =
    c.in_ok-subcommand.ensures.shape c.in_ok-show.ensures.1 ∙ ap₂ with_subcommand bare_is (ap (λ (a : App). a.top) c.in_ok-show.ensures.0) in
    let listed_is : app_of c.in_ok-subcommand-2.field-0 ≡ with_subcommand (with_subcommand bare_app show_app.top) list_app.top =
    c.in_ok-subcommand-2.ensures.shape c.in_ok-list.ensures.1 ∙ ap₂ with_subcommand shown_is (ap (λ (a : App). a.top) c.in_ok-list.ensures.0) in
    let checked_is : app_of c.in_ok-subcommand-3.field-0 ≡ with_subcommand (with_subcommand (with_subcommand bare_app show_app.top) list_app.top) (question_app false).top =
    c.in_ok-subcommand-3.ensures.shape c.in_ok-check.ensures.1 ∙ ap₂ with_subcommand listed_is (ap (λ (a : App). a.top) c.in_ok-check.ensures.0) in
    let explained_is : app_of c.in_ok-subcommand-4.field-0 ≡ with_subcommand (with_subcommand (with_subcommand (with_subcommand bare_app show_app.top) list_app.top) (question_app false).top) (question_app true).top =
    c.in_ok-subcommand-4.ensures.shape c.in_ok-explain.ensures.1 ∙ ap₂ with_subcommand checked_is (ap (λ (a : App). a.top) c.in_ok-explain.ensures.0) in
    IfOk-weaker c.subcommand-5.result _ _ (λ command adds. adds.shape c.in_ok-timeline.ensures.1 ∙ ap₂ with_subcommand explained_is (ap (λ (a : App). a.top) c.in_ok-timeline.ensures.0)) c.subcommand-5.ensures
