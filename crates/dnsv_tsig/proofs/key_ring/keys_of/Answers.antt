use Rattle.std.proofs.Common.{◌++◌, ◌∷◌, [], List, sym, subst}
use Rattle.std.proofs.lemmas.Result.{err_from_is_err_and}
use Rattle.dnsv_names.proofs.LineFileLemmas.{begins, each_more, has_all, has_more, has_next}
use Rattle.dnsv_names.specs.Lines.LineFile.{SayEach}
use Rattle.dnsv_tsig.specs.Key.{SharedKey}
use Rattle.dnsv_tsig.specs.KeyFile.{IsKeyLine}
use Rattle.dnsv_tsig.proofs.KeyLemmas.{key_line, line_says, ring_of, some_key}
use Rattle.dnsv_tsig.proofs.key_ring.keys_of.Goals as goal

pub loop-line-init : goal.loop-line-init
loop-line-init c =
    record {
      has = rw c.into_iter-line-iterator.ensures.into_iter_gives c.new-line-items.ensures;
      each = subst (λ (keys : List SharedKey). SayEach IsKeyLine [] keys) (sym c.new-keys.ensures.items) tt;
    }

pub loop-line-preserved-in_ok-push : goal.loop-line-preserved-in_ok-push
loop-line-preserved-in_ok-push c =
    record {
      has = has_more c.args.text.now c.loop-line.yielded _ _ c.in-Some.line c.in-Some.ensures.steps c.loop-line.invariant.has;
      each = subst (λ (keys : List SharedKey). SayEach IsKeyLine (c.loop-line.yielded ++ c.in-Some.line ∷ []) keys) (sym c.in_ok-push.ensures.items)
          (each_more IsKeyLine c.loop-line.yielded c.loop-line.keys.items c.in-Some.line c.in_ok-of.field-0 c.loop-line.invariant.each
          (key_line c.in_ok-of.field-0 c.in-Some-key_text.ensures c.in_ok-of.ensures));
    }

pub loop-line-preserved : goal.loop-line-preserved
loop-line-preserved c =
    let key = line_says c.args.text.now c.requires.0 c.loop-line.yielded c.in-Some.line c.next.new.self c.requires.1
    (has_next c.args.text.now c.loop-line.yielded _ _ c.in-Some.line c.in-Some.ensures.steps c.loop-line.invariant.has) in
    absurd (c.in_default.ensures key.0 key.1)

pub returns-in_err-of-clause-memory : goal.returns-in_err-of-clause-memory
returns-in_err-of-clause-memory c =
    let p = err_from_is_err_and c.from_residual.result c.from_residual.ensures.1 in
    let key = some_key c.in-Some-key_text.ensures in
    rw p.1
    (begins IsKeyLine c.args.text.now c.loop-line.yielded c.in-Some.line c.next.new.self c.loop-line.keys.items
    (has_next c.args.text.now c.loop-line.yielded _ _ c.in-Some.line c.in-Some.ensures.steps c.loop-line.invariant.has)
    c.loop-line.invariant.each (key.0, key.1))

pub returns-in_err-push-clause-memory : goal.returns-in_err-push-clause-memory
returns-in_err-push-clause-memory c =
    let p = err_from_is_err_and c.from_residual-in_err-push.result c.from_residual-in_err-push.ensures.1 in
    let key = some_key c.in-Some-key_text.ensures in
    rw p.1
    (begins IsKeyLine c.args.text.now c.loop-line.yielded c.in-Some.line c.next.new.self c.loop-line.keys.items
    (has_next c.args.text.now c.loop-line.yielded _ _ c.in-Some.line c.in-Some.ensures.steps c.loop-line.invariant.has)
    c.loop-line.invariant.each (key.0, key.1))

pub returns-clause-ring : goal.returns-clause-ring
returns-clause-ring c =
    ring_of c.args.text.now c.requires.0 c.loop-line.keys.items c.loop-line.yielded c.requires.1
    (has_all c.args.text.now c.loop-line.yielded _ c.in-None.ensures.steps.0 c.loop-line.invariant.has) c.loop-line.invariant.each
