use Rattle.std.proofs.Common.{◌∙◌, refl, sym}
use Rattle.std.proofs.lemmas.Bool.{false≢true}
use Rattle.dnsv_moments.proofs.throughout.refused_throughout.Goals as goal

pub returns-in_default-refusal : goal.returns-in_default-refusal
returns-in_default-refusal c = λ error some all.
    let item = c.in-Some.ensures.item.3 in
    c.in_default-refusal.ensures error (c.kind-kind.ensures ∙ all c.in-Some.first.now (0, item.0, sym (item.1 c.in-Some.first.now)))

pub returns-then-not-all_tell : goal.returns-then-not-all_tell
returns-then-not-all_tell c = λ error some all.
    let item = c.in-Some.ensures.item.3 in
    let first = c.kind-kind.ensures ∙ all c.in-Some.first.now (0, item.0, sym (item.1 c.in-Some.first.now)) in
    absurd (false≢true (c.if-not-all_tell.ensures.1 (λ each found. all each found ∙ sym first)))

pub returns : goal.returns
returns c = λ each found. c.if-not-all_tell.ensures.0 refl each found ∙ c.in-Some-refusal.ensures
