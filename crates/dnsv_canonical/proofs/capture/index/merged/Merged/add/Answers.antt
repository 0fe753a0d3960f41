use Rattle.std.proofs.Common.{◌≡◌, ◌∙◌, ◌++◌, ◌∷◌, [], inl, inr, sym, ap, subst, arith, length, true, false}
use Rattle.dnsv_canonical.specs.Index.Grouping.{Numbered, key_of}
use Rattle.dnsv_canonical.specs.Index.Merging.{EndsWith}
use Rattle.dnsv_canonical.proofs.IndexLemmas.Merging.{added, joined}
use Rattle.dnsv_canonical.proofs.capture.index.merged.Merged.add.Goals as goal

pub returns-then-ends_with-clause-merged : goal.returns-then-ends_with-clause-merged
returns-then-ends_with-clause-merged c = λ held kept all firsts made up_to greater.
    let x = c.args.added.now in
    let is : c.push.new.self.items ≡ c.args.self.now.index.numbers.items ++ c.args.added.now.0 ∷ [] = c.in_ok-push.ensures.items ∙ ap (λ (n : Numbered). c.args.self.now.index.numbers.items ++ n.0 ∷ []) c.added.view_is in
    let ends : EndsWith c.args.self.now.last (key_of c.args.added.now.1) = subst (λ (n : Numbered). EndsWith c.args.self.now.last (key_of n.1)) c.added.view_is (c.ends_with.ensures.0 c.if-ends_with.true) in
    let built = joined held kept all firsts c.args.self.now.copied c.args.self.now.index.numbers.items c.args.self.now.index.starts.items c.args.self.now.last x (record { are = made.are; laid = made.laid; left = made.left }) made.last ends greater in
    inl (record { are = built.are; laid = rw is built.laid; left = built.left; last = made.last })

pub returns-clause-merged : goal.returns-clause-merged
returns-clause-merged c = λ held kept all firsts made up_to greater.
    let x = c.args.added.now in
    let numbers_is : c.push-3.new.self.items ≡ c.args.self.now.index.numbers.items ++ c.args.added.now.0 ∷ [] = c.in_ok-push-3.ensures.items ∙ ap (λ (n : Numbered). c.args.self.now.index.numbers.items ++ n.0 ∷ []) c.added.view_is in
    let count : c.len.result ≡ length c.args.self.now.index.numbers.items = omega (arith, c.len.ensures, c.args.self.now.index.numbers.ok.0) in
    let starts_is : c.push-2.new.self.items ≡ c.args.self.now.index.starts.items ++ length c.args.self.now.index.numbers.items ∷ [] = c.in_ok-push-2.ensures.items ∙ ap (λ n. c.args.self.now.index.starts.items ++ n ∷ []) count in
    let ends : EndsWith c.args.self.now.last (key_of c.args.added.now.1) → ⊥ =
    λ there. let turned : true ≡ false = sym (c.ends_with.ensures.1 (subst (λ (n : Numbered). EndsWith c.args.self.now.last (key_of n.1)) (sym c.added.view_is) there)) ∙ c.if-ends_with.false in cc in
    let built = added held kept all firsts c.args.self.now.copied c.args.self.now.index.numbers.items c.args.self.now.index.starts.items c.args.self.now.last x (record { are = made.are; laid = made.laid; left = made.left }) made.last ends up_to greater in
    inr (record { are = built.are; laid = rw (numbers_is, starts_is) built.laid; left = built.left; last = (firsts, c.added.inside.number, ap (λ (n : Numbered). firsts ++ n ∷ []) (sym c.added.view_is)) })
