use Rattle.std.proofs.Common.{◌≡◌, sym, ◌∙◌, true, false}
use Rattle.std.proofs.lemmas.Option.{MatchOption-at_none}
use Rattle.std.proofs.lemmas.Result.{err_from_is_err_and}
use Rattle.dnsv_anchors.proofs.AnchorLaws.AnchorLineLemmas.{no_name, no_ds, no_key, no_word, some_ds, some_key}
use Rattle.dnsv_anchors.proofs.anchors.anchor_line.anchor_of.Goals as goal

false_true : false ≡ true → ⊥
false_true e = cc

pub returns-in_default-parse-clause-found : goal.returns-in_default-parse-clause-found
returns-in_default-parse-clause-found c =
    no_name c.args.line.now.octets c.in-Some.word.now c.in-Some.name.now c.in-Some.first.now c.in-Some.second.now c.in-Some.third.now c.in-Some.last.now c.in-Some.ensures
    (λ labels is_name spelling. c.in_default-parse.not-Ok labels (c.parse.ensures.every labels is_name spelling))

pub returns-in_default-2-clause-found : goal.returns-in_default-2-clause-found
returns-in_default-2-clause-found c =
    no_ds c.args.line.now.octets c.in-Some.word.now c.in-Some.name.now c.in-Some.first.now c.in-Some.second.now c.in-Some.third.now c.in-Some.last.now c.in-Some.ensures
    (c.is_word.ensures.0 c.if-is_word.true) (MatchOption-at_none _ _ c.in_default-2.is c.in_ok-ds.ensures.found)

pub returns-in_default-3-clause-found : goal.returns-in_default-3-clause-found
returns-in_default-3-clause-found c =
    no_key c.args.line.now.octets c.in-Some.word.now c.in-Some.name.now c.in-Some.first.now c.in-Some.second.now c.in-Some.third.now c.in-Some.last.now c.in-Some.ensures
    (c.is_word-2.ensures.0 c.if-is_word-2.true) (MatchOption-at_none _ _ c.in_default-3.is c.in_ok-rdata.ensures.found)

pub returns-clause-found : goal.returns-clause-found
returns-clause-found c =
    no_word c.args.line.now.octets c.in-Some.word.now c.in-Some.name.now c.in-Some.first.now c.in-Some.second.now c.in-Some.third.now c.in-Some.last.now c.in-Some.ensures
    (λ is. false_true (sym c.if-is_word.false ∙ c.is_word.ensures.1 is)) (λ is. false_true (sym c.if-is_word-2.false ∙ c.is_word-2.ensures.1 is))

pub returns-in_err-ds-clause-refused : goal.returns-in_err-ds-clause-refused
returns-in_err-ds-clause-refused c =
    let p = err_from_is_err_and c.from_residual.result c.from_residual.ensures.1 in
    rw p.1 (some_ds c.args.line.now.octets c.in-Some.word.now c.in-Some.name.now c.in-Some.first.now c.in-Some.second.now c.in-Some.third.now c.in-Some.last.now c.in-Some.ensures
    c.in-Ok.owner (c.is_word.ensures.0 c.if-is_word.true) c.in-Ok.ensures.name.0 c.in-Ok.ensures.name.1 c.in_err-ds.ensures.refused)

pub returns-in_err-rdata-clause-refused : goal.returns-in_err-rdata-clause-refused
returns-in_err-rdata-clause-refused c =
    let p = err_from_is_err_and c.from_residual-in_err-rdata.result c.from_residual-in_err-rdata.ensures.1 in
    rw p.1 (some_key c.args.line.now.octets c.in-Some.word.now c.in-Some.name.now c.in-Some.first.now c.in-Some.second.now c.in-Some.third.now c.in-Some.last.now c.in-Some.ensures
    c.in-Ok.owner (c.is_word-2.ensures.0 c.if-is_word-2.true) c.in-Ok.ensures.name.0 c.in-Ok.ensures.name.1 c.in_err-rdata.ensures.refused)
