use Rattle.std.proofs.Common.{◌≡◌, ap, map, ◌∙◌, codes, true, rules, Some}
use Rattle.std.proofs.lemmas.Slice.Eq.{bytes_eq-Decides}
use Rattle.std.specs.Str.{bytes_eq}
use Rattle.clap.specs.Words.{app_of, found_of, rows_of}
use Rattle.dnsv_questions.specs.Subcommand.{question_word}
use Rattle.dnsv_commands.proofs.CommandLineLemmas.Words.{Sees, asked_as, is_list, is_question, is_show, is_timeline, no_list_as, no_timeline_as, passed_up, sees, unclear_as}
use Rattle.dnsv_commands.proofs.command_line.read_command_line.Goals as goal

pub returns-in_err-matches-clause-refused : goal.returns-in_err-matches-clause-refused
returns-in_err-matches-clause-refused g c =
    passed_up c.from_residual-in_err-matches.result (app_of c.in_ok-program.field-0) (map g.S.AsStr.text c.args.words.now) c.in_err-matches.field-0.0
    c.in_ok-program.ensures c.from_residual-in_err-matches.ensures.1 c.in_err-matches.ensures.kinds

pub show_request-requires : goal.show_request-requires
show_request-requires g c =
    let at : Sees (map g.S.AsStr.text c.args.words.now) c.unwrap.result.0.now (rows_of (found_of c.unwrap.result.1.now)) =
    sees (λ p. p.0.now) (λ p. rows_of (found_of p.1.now)) c.subcommand.result c.unwrap.result (app_of c.in_ok-program.field-0) (map g.S.AsStr.text c.args.words.now) c.in_ok-matches.matches
    c.in_ok-program.ensures c.in_ok-matches.ensures.matches c.in_ok-matches.ensures.kinds c.unwrap.ensures c.subcommand.ensures.name c.subcommand.ensures.rows in
    let test : bytes_eq c.unwrap.result.0.now (codes "show") ≡ true = search rules in
    let same = (bytes_eq-Decides c.unwrap.result.0.now (codes "show")).0 test in
    is_show at same

pub returns-then-eq-clause-accepted : goal.returns-then-eq-clause-accepted
returns-then-eq-clause-accepted g c =
    let at : Sees (map g.S.AsStr.text c.args.words.now) c.unwrap.result.0.now (rows_of (found_of c.unwrap.result.1.now)) =
    sees (λ p. p.0.now) (λ p. rows_of (found_of p.1.now)) c.subcommand.result c.unwrap.result (app_of c.in_ok-program.field-0) (map g.S.AsStr.text c.args.words.now) c.in_ok-matches.matches
    c.in_ok-program.ensures c.in_ok-matches.ensures.matches c.in_ok-matches.ensures.kinds c.unwrap.ensures c.subcommand.ensures.name c.subcommand.ensures.rows in
    let test : bytes_eq c.unwrap.result.0.now (codes "show") ≡ true = search rules in
    let same = (bytes_eq-Decides c.unwrap.result.0.now (codes "show")).0 test in
    (at.none, (codes "show", _, at.met ∙ ap (λ n. Some (n, rows_of (found_of c.unwrap.result.1.now))) same, c.in_ok-show_request.ensures))

pub list_request-requires : goal.list_request-requires
list_request-requires g c =
    let at : Sees (map g.S.AsStr.text c.args.words.now) c.unwrap.result.0.now (rows_of (found_of c.unwrap.result.1.now)) =
    sees (λ p. p.0.now) (λ p. rows_of (found_of p.1.now)) c.subcommand.result c.unwrap.result (app_of c.in_ok-program.field-0) (map g.S.AsStr.text c.args.words.now) c.in_ok-matches.matches
    c.in_ok-program.ensures c.in_ok-matches.ensures.matches c.in_ok-matches.ensures.kinds c.unwrap.ensures c.subcommand.ensures.name c.subcommand.ensures.rows in
    let test : bytes_eq c.unwrap.result.0.now (codes "list") ≡ true = search rules in
    let same = (bytes_eq-Decides c.unwrap.result.0.now (codes "list")).0 test in
    is_list at same

pub returns-then-eq-2-clause-accepted : goal.returns-then-eq-2-clause-accepted
returns-then-eq-2-clause-accepted g c =
    let at : Sees (map g.S.AsStr.text c.args.words.now) c.unwrap.result.0.now (rows_of (found_of c.unwrap.result.1.now)) =
    sees (λ p. p.0.now) (λ p. rows_of (found_of p.1.now)) c.subcommand.result c.unwrap.result (app_of c.in_ok-program.field-0) (map g.S.AsStr.text c.args.words.now) c.in_ok-matches.matches
    c.in_ok-program.ensures c.in_ok-matches.ensures.matches c.in_ok-matches.ensures.kinds c.unwrap.ensures c.subcommand.ensures.name c.subcommand.ensures.rows in
    let test : bytes_eq c.unwrap.result.0.now (codes "list") ≡ true = search rules in
    let same = (bytes_eq-Decides c.unwrap.result.0.now (codes "list")).0 test in
    asked_as c.list_request.result (map g.S.AsStr.text c.args.words.now) (codes "list") (rows_of (found_of c.unwrap.result.1.now)) at.none
    (at.met ∙ ap (λ n. Some (n, rows_of (found_of c.unwrap.result.1.now))) same) c.list_request.ensures.asks

pub returns-then-eq-2-clause-refused : goal.returns-then-eq-2-clause-refused
returns-then-eq-2-clause-refused g c =
    let at : Sees (map g.S.AsStr.text c.args.words.now) c.unwrap.result.0.now (rows_of (found_of c.unwrap.result.1.now)) =
    sees (λ p. p.0.now) (λ p. rows_of (found_of p.1.now)) c.subcommand.result c.unwrap.result (app_of c.in_ok-program.field-0) (map g.S.AsStr.text c.args.words.now) c.in_ok-matches.matches
    c.in_ok-program.ensures c.in_ok-matches.ensures.matches c.in_ok-matches.ensures.kinds c.unwrap.ensures c.subcommand.ensures.name c.subcommand.ensures.rows in
    let test : bytes_eq c.unwrap.result.0.now (codes "list") ≡ true = search rules in
    let same = (bytes_eq-Decides c.unwrap.result.0.now (codes "list")).0 test in
    no_list_as c.list_request.result (map g.S.AsStr.text c.args.words.now) (rows_of (found_of c.unwrap.result.1.now)) at.none
    (at.met ∙ ap (λ n. Some (n, rows_of (found_of c.unwrap.result.1.now))) same) c.list_request.ensures.refused

pub timeline_request-requires : goal.timeline_request-requires
timeline_request-requires g c =
    let at : Sees (map g.S.AsStr.text c.args.words.now) c.unwrap.result.0.now (rows_of (found_of c.unwrap.result.1.now)) =
    sees (λ p. p.0.now) (λ p. rows_of (found_of p.1.now)) c.subcommand.result c.unwrap.result (app_of c.in_ok-program.field-0) (map g.S.AsStr.text c.args.words.now) c.in_ok-matches.matches
    c.in_ok-program.ensures c.in_ok-matches.ensures.matches c.in_ok-matches.ensures.kinds c.unwrap.ensures c.subcommand.ensures.name c.subcommand.ensures.rows in
    let test : bytes_eq c.unwrap.result.0.now (codes "timeline") ≡ true = search rules in
    let same = (bytes_eq-Decides c.unwrap.result.0.now (codes "timeline")).0 test in
    is_timeline at same

pub returns-then-eq-3-clause-accepted : goal.returns-then-eq-3-clause-accepted
returns-then-eq-3-clause-accepted g c =
    let at : Sees (map g.S.AsStr.text c.args.words.now) c.unwrap.result.0.now (rows_of (found_of c.unwrap.result.1.now)) =
    sees (λ p. p.0.now) (λ p. rows_of (found_of p.1.now)) c.subcommand.result c.unwrap.result (app_of c.in_ok-program.field-0) (map g.S.AsStr.text c.args.words.now) c.in_ok-matches.matches
    c.in_ok-program.ensures c.in_ok-matches.ensures.matches c.in_ok-matches.ensures.kinds c.unwrap.ensures c.subcommand.ensures.name c.subcommand.ensures.rows in
    let test : bytes_eq c.unwrap.result.0.now (codes "timeline") ≡ true = search rules in
    let same = (bytes_eq-Decides c.unwrap.result.0.now (codes "timeline")).0 test in
    asked_as c.timeline_request.result (map g.S.AsStr.text c.args.words.now) (codes "timeline") (rows_of (found_of c.unwrap.result.1.now)) at.none
    (at.met ∙ ap (λ n. Some (n, rows_of (found_of c.unwrap.result.1.now))) same) c.timeline_request.ensures.asks

pub returns-then-eq-3-clause-refused : goal.returns-then-eq-3-clause-refused
returns-then-eq-3-clause-refused g c =
    let at : Sees (map g.S.AsStr.text c.args.words.now) c.unwrap.result.0.now (rows_of (found_of c.unwrap.result.1.now)) =
    sees (λ p. p.0.now) (λ p. rows_of (found_of p.1.now)) c.subcommand.result c.unwrap.result (app_of c.in_ok-program.field-0) (map g.S.AsStr.text c.args.words.now) c.in_ok-matches.matches
    c.in_ok-program.ensures c.in_ok-matches.ensures.matches c.in_ok-matches.ensures.kinds c.unwrap.ensures c.subcommand.ensures.name c.subcommand.ensures.rows in
    let test : bytes_eq c.unwrap.result.0.now (codes "timeline") ≡ true = search rules in
    let same = (bytes_eq-Decides c.unwrap.result.0.now (codes "timeline")).0 test in
    no_timeline_as c.timeline_request.result (map g.S.AsStr.text c.args.words.now) (rows_of (found_of c.unwrap.result.1.now)) at.none
    (at.met ∙ ap (λ n. Some (n, rows_of (found_of c.unwrap.result.1.now))) same) c.timeline_request.ensures.refused

pub check_request-requires : goal.check_request-requires
check_request-requires g c =
    let at : Sees (map g.S.AsStr.text c.args.words.now) c.unwrap.result.0.now (rows_of (found_of c.unwrap.result.1.now)) =
    sees (λ p. p.0.now) (λ p. rows_of (found_of p.1.now)) c.subcommand.result c.unwrap.result (app_of c.in_ok-program.field-0) (map g.S.AsStr.text c.args.words.now) c.in_ok-matches.matches
    c.in_ok-program.ensures c.in_ok-matches.ensures.matches c.in_ok-matches.ensures.kinds c.unwrap.ensures c.subcommand.ensures.name c.subcommand.ensures.rows in
    (is_question at (search rules) (search rules) (search rules)).1

pub returns-clause-accepted : goal.returns-clause-accepted
returns-clause-accepted g c =
    let at : Sees (map g.S.AsStr.text c.args.words.now) c.unwrap.result.0.now (rows_of (found_of c.unwrap.result.1.now)) =
    sees (λ p. p.0.now) (λ p. rows_of (found_of p.1.now)) c.subcommand.result c.unwrap.result (app_of c.in_ok-program.field-0) (map g.S.AsStr.text c.args.words.now) c.in_ok-matches.matches
    c.in_ok-program.ensures c.in_ok-matches.ensures.matches c.in_ok-matches.ensures.kinds c.unwrap.ensures c.subcommand.ensures.name c.subcommand.ensures.rows in
    let question = is_question at (search rules) (search rules) (search rules) in
    let why : question_word (bytes_eq c.unwrap.result.0.now (codes "explain")) ≡ question_word c.eq-else-eq-3.result = search rules in
    asked_as c.check_request.result (map g.S.AsStr.text c.args.words.now) (question_word c.eq-else-eq-3.result) (rows_of (found_of c.unwrap.result.1.now)) at.none
    (at.met ∙ ap (λ n. Some (n, rows_of (found_of c.unwrap.result.1.now))) (question.0 ∙ why)) c.check_request.ensures.asks

pub returns-clause-refused : goal.returns-clause-refused
returns-clause-refused g c =
    let at : Sees (map g.S.AsStr.text c.args.words.now) c.unwrap.result.0.now (rows_of (found_of c.unwrap.result.1.now)) =
    sees (λ p. p.0.now) (λ p. rows_of (found_of p.1.now)) c.subcommand.result c.unwrap.result (app_of c.in_ok-program.field-0) (map g.S.AsStr.text c.args.words.now) c.in_ok-matches.matches
    c.in_ok-program.ensures c.in_ok-matches.ensures.matches c.in_ok-matches.ensures.kinds c.unwrap.ensures c.subcommand.ensures.name c.subcommand.ensures.rows in
    let question = is_question at (search rules) (search rules) (search rules) in
    let why : question_word (bytes_eq c.unwrap.result.0.now (codes "explain")) ≡ question_word c.eq-else-eq-3.result = search rules in
    unclear_as c.check_request.result (map g.S.AsStr.text c.args.words.now) c.eq-else-eq-3.result (rows_of (found_of c.unwrap.result.1.now)) at.none
    (at.met ∙ ap (λ n. Some (n, rows_of (found_of c.unwrap.result.1.now))) (question.0 ∙ why)) c.check_request.ensures.refused
