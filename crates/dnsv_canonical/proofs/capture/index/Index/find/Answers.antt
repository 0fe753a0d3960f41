use Rattle.std.proofs.Common.{◌≡◌, ◌∙◌, ◌+◌, ◌-◌, ◌*◌, ◌<◌, ◌^◌, suc, length, sym, subst, arith, drop}
use Rattle.std.specs.List.{AllByRecursion}
use Rattle.std.specs.declared.cmp.Ordering.TheVariants.{Greater}
use Rattle.dnsv_canonical.specs.Index.Grouping.{Numbered, stands}
use Rattle.dnsv_canonical.proofs.IndexLemmas.Layout.{length-firsts}
use Rattle.dnsv_canonical.proofs.IndexLemmas.Search.{greater_from, less_up_to, none_behind}
use Rattle.dnsv_canonical.proofs.capture.index.Index.find.Goals as goal

pub loop-low-init : goal.loop-low-init
loop-low-init c = record {
  order = omega arith;
  within = omega (arith, c.len-high.ensures, c.args.self.now.starts.ok.0);
  before = λ index. tt;
  behind = λ index. none_behind (λ (first : Numbered). stands first (c.args.name.now, c.args.rtype.0) ≡ Greater) index.firsts c.len-high.result
      (omega (arith, c.len-high.ensures, c.args.self.now.starts.ok.0, length-firsts c.args.rrsets.now c.args.self.now.numbers.items c.args.self.now.starts.items index));
}

pub loop-low-preserved-in-Less : goal.loop-low-preserved-in-Less
loop-low-preserved-in-Less c =
    let kept = c.loop-low.invariant in
    record {
      order = omega (arith, c.loop-low-test.true);
      within = kept.within;
      before = λ index. less_up_to (c.args.name.now, c.args.rtype.0) index.firsts _ c.first.result.now index.are.rising (c.first.ensures index) (sym c.compared.ensures ∙ c.in-Less.is);
      behind = kept.behind;
    }

pub loop-low-preserved : goal.loop-low-preserved
loop-low-preserved c =
    let kept = c.loop-low.invariant in
    record {
      order = omega (arith, c.loop-low-test.true);
      within = omega (arith, c.loop-low-test.true, kept.within);
      before = kept.before;
      behind = λ index. greater_from (c.args.name.now, c.args.rtype.0) index.firsts _ c.first.result.now index.are.rising (c.first.ensures index) (sym c.compared.ensures ∙ c.in-Greater.is);
    }

pub returns-in-Equal-clause-found : goal.returns-in-Equal-clause-found
returns-in-Equal-clause-found c = λ index.
    let at = c.first.ensures index in ((at.0, c.first.result.now), at.1, sym c.compared.ensures ∙ c.in-Equal.is)

pub returns-clause-found : goal.returns-clause-found
returns-clause-found c = λ index.
    let kept = c.loop-low.invariant in
    let same : c.loop-low.high ≡ c.loop-low.low = omega (arith, kept.order, c.loop-low-test.false) in (
      omega (arith, kept.order, kept.within, length-firsts c.args.rrsets.now c.args.self.now.numbers.items c.args.self.now.starts.items index),
      kept.before index,
      subst (λ n. AllByRecursion (λ (first : Numbered). stands first (c.args.name.now, c.args.rtype.0) ≡ Greater) (drop n index.firsts)) same (kept.behind index),
    )
