use Rattle.std.proofs.Common.{◌≡◌, ◌+◌, ◌-◌, ◌≤◌, ◌++◌, List, sym, ap, subst, arith, length, refl, take, drop}
use Rattle.std.proofs.lemmas.List.{take_all}
use Rattle.std.proofs.lemmas.Option.{slice_get_read}
use Rattle.std.specs.List.{enumerate_from}
use Rattle.std.specs.List.Sorted.{IsSortedBy}
use Rattle.std.specs.Ordering.{is_lt}
use Rattle.std.specs.declared.cmp.Ordering.TheVariants.{Greater}
use Rattle.dnsv_canonical.specs.Index.Grouping.{AreInOrder, IsPlaceFrom, Key, Numbered, key_of, stands}
use Rattle.dnsv_canonical.specs.Index.Merging.{IsMerged}
use Rattle.dnsv_canonical.proofs.IndexLemmas.Growth.{each_rest, earlier, grown_index, none_taken, one_taken, up_to_here}
use Rattle.dnsv_canonical.proofs.IndexLemmas.Layout.{length-firsts}
use Rattle.dnsv_canonical.proofs.capture.index.Index.with.Goals as goal

pub loop-numbered-init : goal.loop-numbered-init
loop-numbered-init c = λ of.
    none_taken (enumerate_from 1 c.args.held.now) of.firsts c.as_slice-numbered-items.result.now c.in_ok-merged.merged (c.in_ok-merged.ensures.nothing (enumerate_from 1 c.args.held.now) of.firsts of.are)

pub loop-numbered-preserved : goal.loop-numbered-preserved
loop-numbered-preserved c = λ of.
    let held = enumerate_from 1 c.args.held.now in
    let taken = c.loop-numbered.invariant of in
    let items = c.as_slice-numbered-items.result.now in
    let i = c.loop-numbered.numbered-index in
    let x = c.numbered-item.result in
    let rising = subst (IsSortedBy (λ (a b : Numbered). is_lt (stands a (key_of b.1)))) (sym c.as_slice-numbered-items.ensures.value) c.in_ok-added.ensures.rising in
    let before = earlier items i x rising c.loop-numbered-test.true c.numbered-item.is in
    let same : key_of c.numbered.inside.rrset.now ≡ key_of c.numbered-item.result.1 = ap (λ (n : Numbered). key_of n.1) c.numbered.view_is in
    let place : IsPlaceFrom of.firsts (key_of c.numbered-item.result.1) c.loop-numbered.merged.copied c.place_from-place.result =
    subst (λ (k : Key). IsPlaceFrom of.firsts k c.loop-numbered.merged.copied c.place_from-place.result) same (c.place_from-place.ensures.parted of) in
    let here = up_to_here (take i items) taken.firsts of.firsts c.loop-numbered.merged.copied c.place_from-place.result x taken.up_to before place in
    let made = c.in_ok-copy_to.ensures.merged of (held ++ take i items) taken.firsts taken.made in
    let above : c.place_from-place.result ≤ c.copy_to.new.self.copied = omega (arith, c.in_ok-copy_to.ensures.copied) in
    let greater = each_rest (λ (f : Numbered). stands f (key_of x.1) ≡ Greater) c.place_from-place.result c.copy_to.new.self.copied of.firsts above place.1 in
    one_taken held of.firsts items (taken.firsts ++ take (c.place_from-place.result - c.loop-numbered.merged.copied) (drop c.loop-numbered.merged.copied of.firsts)) i x c.add.new.self
    (slice_get_read items (length items) i x refl c.loop-numbered-test.true c.numbered-item.is) here
    (c.in_ok-add.ensures.merged held of.firsts (held ++ take i items) (taken.firsts ++ take (c.place_from-place.result - c.loop-numbered.merged.copied) (drop c.loop-numbered.merged.copied of.firsts)) made here greater)

pub returns : goal.returns
returns c =
    let of = c.requires in
    let held = enumerate_from 1 c.args.held.now in
    let taken = c.loop-numbered.invariant of in
    let items = c.as_slice-numbered-items.result.now in
    let i = c.loop-numbered.numbered-index in
    let firsts = taken.firsts ++ take (c.len.result - c.loop-numbered.merged.copied) (drop c.loop-numbered.merged.copied of.firsts) in
    let made = c.in_ok-copy_to-2.ensures.merged of (held ++ take i items) taken.firsts taken.made in
    let all : take i items ≡ items = take_all i items c.loop-numbered-test.false in
    let above : length of.firsts ≤ c.copy_to-2.new.self.copied =
    omega (arith, c.in_ok-copy_to-2.ensures.copied, c.len.ensures, c.args.self.now.starts.ok.0, length-firsts c.args.held.now c.args.self.now.numbers.items c.args.self.now.starts.items of) in
    grown_index c.args.held.now c.args.more.now of.firsts items firsts c.copy_to-2.new.self
    (subst (AreInOrder (enumerate_from (length c.args.held.now + 1) c.args.more.now)) (sym c.as_slice-numbered-items.ensures.value) c.in_ok-added.ensures)
    (subst (λ (xs : List Numbered). IsMerged held of.firsts (held ++ xs) firsts c.copy_to-2.new.self) all made) above
