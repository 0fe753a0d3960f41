use Rattle.std.proofs.Common.{sym, arith}
use Rattle.std.proofs.lemmas.Result.{err_from_is_err_and}
use Rattle.dnsv_statements.proofs.StatementLemmas.{no_five, no_word, no_algorithm, no_key, no_signed_data, no_signature, is_statement, states, word_text-word_of}
use Rattle.dnsv_statements.proofs.statements.statement.statement_of.Goals as goal

pub returns-in_default-clause-found : goal.returns-in_default-clause-found
returns-in_default-clause-found c = no_five c.args.line.now.octets c.in_default.ensures

pub returns-in_default-word_of-clause-found : goal.returns-in_default-word_of-clause-found
returns-in_default-word_of-clause-found c =
    no_word _ c.in-Some.word.now c.in-Some.algorithm.now c.in-Some.key.now c.in-Some.signed_data.now c.in-Some.signature.now c.in-Some.ensures c.in_default-word_of.ensures

pub returns-in_default-decimal_u8-clause-found : goal.returns-in_default-decimal_u8-clause-found
returns-in_default-decimal_u8-clause-found c =
    no_algorithm _ c.in-Some.word.now c.in-Some.algorithm.now c.in-Some.key.now c.in-Some.signed_data.now c.in-Some.signature.now c.in-Some.ensures c.in_default-decimal_u8.ensures

pub returns-in_default-digits_of-clause-found : goal.returns-in_default-digits_of-clause-found
returns-in_default-digits_of-clause-found c =
    no_key _ c.in-Some.word.now c.in-Some.algorithm.now c.in-Some.key.now c.in-Some.signed_data.now c.in-Some.signature.now c.in-Some.ensures (sym c.in_default-digits_of.ensures)

pub returns-in_default-digits_of-2-clause-found : goal.returns-in_default-digits_of-2-clause-found
returns-in_default-digits_of-2-clause-found c =
    no_signed_data _ c.in-Some.word.now c.in-Some.algorithm.now c.in-Some.key.now c.in-Some.signed_data.now c.in-Some.signature.now c.in-Some.ensures (sym c.in_default-digits_of-2.ensures)

pub returns-in_default-digits_of-3-clause-found : goal.returns-in_default-digits_of-3-clause-found
returns-in_default-digits_of-3-clause-found c =
    no_signature _ c.in-Some.word.now c.in-Some.algorithm.now c.in-Some.key.now c.in-Some.signed_data.now c.in-Some.signature.now c.in-Some.ensures (sym c.in_default-digits_of-3.ensures)

pub returns-in_err-entry-clause-refused : goal.returns-in_err-entry-clause-refused
returns-in_err-entry-clause-refused c =
    let p = err_from_is_err_and c.from_residual.result c.from_residual.ensures.1 in
    rw p.1 (is_statement c.args.line.now.octets c.in-Some.word.now c.in-Some.algorithm.now c.in-Some.key.now c.in-Some.signed_data.now c.in-Some.signature.now c.in-Some.ensures
    c.in-Some-word_of.word (word_text-word_of c.in-Some.word.now c.in-Some-word_of.word (sym c.in-Some-word_of.ensures)) c.in-Some-decimal_u8.algorithm (omega arith) c.in-Some-decimal_u8.ensures c.in-Some-digits_of.ensures c.in-Some-digits_of-2.ensures c.in-Some-digits_of-3.ensures)

pub returns-clause-found : goal.returns-clause-found
returns-clause-found c =
    states c.args.line.now.octets c.in-Some.word.now c.in-Some.algorithm.now c.in-Some.key.now c.in-Some.signed_data.now c.in-Some.signature.now c.in-Some.ensures
    c.in-Some-word_of.word (word_text-word_of c.in-Some.word.now c.in-Some-word_of.word (sym c.in-Some-word_of.ensures)) c.in-Some-decimal_u8.algorithm (omega arith) c.in-Some-decimal_u8.ensures c.in-Some-digits_of.ensures c.in-Some-digits_of-2.ensures c.in-Some-digits_of-3.ensures _ c.in_ok-entry.ensures
