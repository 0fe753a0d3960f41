use Rattle.std.proofs.Common.{◌≡◌, ◌∙◌, ◌+◌, ◌-◌, ◌<◌, ◌≤◌, sym, ap, subst, arith, length, take, drop, map}
use Rattle.std.proofs.lemmas.List.Elements.{All-from_recursion}
use Rattle.std.specs.List.{AllByRecursion, enumerate_from}
use Rattle.dnsv_canonical.specs.Index.Grouping.{group_of, numbers_of}
use Rattle.dnsv_canonical.proofs.IndexLemmas.Layout.{reach, reach_all}
use Rattle.dnsv_canonical.proofs.IndexLemmas.Merging.{copied_last, copied_more, part_places}
use Rattle.dnsv_canonical.proofs.capture.index.merged.Merged.copy_to.Goals as goal

pub between-requires-clause-order : goal.between-requires-clause-order
between-requires-clause-order c =
    let gs = map (group_of (enumerate_from 1 c.args.held.now)) c.requires.index.firsts in
    let sum : c.args.self.now.copied + (c.args.place - c.args.self.now.copied) ≡ c.args.place = omega (arith, c.if-place-self.false) in
    omega (arith, c.start-start.ensures gs c.requires.index.laid, c.start-end.ensures gs c.requires.index.laid, reach c.args.self.now.copied (c.args.place - c.args.self.now.copied) gs, ap (λ n. length (numbers_of (take n gs))) sum)

pub between-requires-clause-within : goal.between-requires-clause-within
between-requires-clause-within c =
    let gs = map (group_of (enumerate_from 1 c.args.held.now)) c.requires.index.firsts in
    omega (arith, c.start-end.ensures gs c.requires.index.laid, reach_all c.args.place gs, ap length c.deref-2.ensures.value, ap length c.requires.index.laid.numbers_are)

pub push_moved-requires-clause-behind : goal.push_moved-requires-clause-behind
push_moved-requires-clause-behind c =
    let gs = map (group_of (enumerate_from 1 c.args.held.now)) c.requires.index.firsts in
    let places = part_places gs c.args.index.now.numbers.items c.args.index.now.starts.items c.args.self.now.copied c.args.place c.start-start.result c.start-end.result c.requires.index.laid c.if-place-self.false (c.start-start.ensures gs c.requires.index.laid) (c.start-end.ensures gs c.requires.index.laid) in
    λ k d within. (All-from_recursion (λ s. (c.start-start.result ≤ s) × (s ≤ c.start-end.result)) c.between-starts.result.now
    (subst (AllByRecursion (λ s. (c.start-start.result ≤ s) × (s ≤ c.start-end.result))) (sym (c.between-starts.ensures ∙ ap (λ ss. take (c.args.place - c.args.self.now.copied) (drop c.args.self.now.copied ss)) c.deref.ensures.value)) places) k d within).0

pub push_moved-requires-clause-fits : goal.push_moved-requires-clause-fits
push_moved-requires-clause-fits c =
    let gs = map (group_of (enumerate_from 1 c.args.held.now)) c.requires.index.firsts in
    let places = part_places gs c.args.index.now.numbers.items c.args.index.now.starts.items c.args.self.now.copied c.args.place c.start-start.result c.start-end.result c.requires.index.laid c.if-place-self.false (c.start-start.ensures gs c.requires.index.laid) (c.start-end.ensures gs c.requires.index.laid) in
    λ k d within.
    let here = (All-from_recursion (λ s. (c.start-start.result ≤ s) × (s ≤ c.start-end.result)) c.between-starts.result.now
    (subst (AllByRecursion (λ s. (c.start-start.result ≤ s) × (s ≤ c.start-end.result))) (sym (c.between-starts.ensures ∙ ap (λ ss. take (c.args.place - c.args.self.now.copied) (drop c.args.self.now.copied ss)) c.deref.ensures.value)) places) k d within) in
    omega (
      arith,
      here.0,
      here.1,
      c.len-before.ensures,
      c.args.self.now.index.numbers.ok.0,
      c.args.self.now.index.numbers.ok.1,
      c.args.self.now.index.numbers.small,
      c.start-end.ensures gs c.requires.index.laid,
      reach_all c.args.place gs,
      ap length c.requires.index.laid.numbers_are,
      c.args.index.now.numbers.ok.0,
      c.args.index.now.numbers.ok.1,
      c.args.index.now.numbers.small,
    )

pub returns-clause-merged : goal.returns-clause-merged
returns-clause-merged c = λ of all firsts made.
    let held = enumerate_from 1 c.args.held.now in
    let gs = map (group_of (enumerate_from 1 c.args.held.now)) of.firsts in
    let less : c.args.self.now.copied < c.args.place = omega (arith, c.if-place-self.false) in
    let built = copied_more held of.firsts all firsts c.args.self.now.copied c.args.place c.start-start.result c.start-end.result c.len-before.result c.args.index.now.numbers.items c.args.index.now.starts.items
    c.args.self.now.index.numbers.items c.args.self.now.index.starts.items c.between.result.now c.between-starts.result.now less (record { are = made.are; laid = made.laid; left = made.left }) of.laid
    (c.start-start.ensures gs of.laid) (c.start-end.ensures gs of.laid) (omega (arith, c.len-before.ensures, c.args.self.now.index.numbers.ok.0))
    (c.between.ensures ∙ ap (λ ns. take (c.start-end.result - c.start-start.result) (drop c.start-start.result ns)) c.deref-2.ensures.value)
    (c.between-starts.ensures ∙ ap (λ ss. take (c.args.place - c.args.self.now.copied) (drop c.args.self.now.copied ss)) c.deref.ensures.value) in
    record {
      are = built.are;
      laid = rw (c.in_ok-extend_from_slice.ensures.items, c.in_ok-push_moved.ensures) built.laid;
      left = built.left;
      last = copied_last of.firsts firsts c.args.self.now.copied c.args.place c.first.result less (c.first.ensures of);
    }
