use Rattle.std.proofs.Common.{◌∙◌, List, ap, map}
use Rattle.std.proofs.lemmas.List.Filters.{dedup_is}
use Rattle.dnsv_moments.specs.Shown.{number_of}
use Rattle.dnsv_moments.specs.declared.shown.Shown.{Shown}
use Rattle.dnsv_moments.proofs.ShownLemmas.{shown_rising}
use Rattle.dnsv_moments.proofs.shown.signatures_shown.Goals as goal

pub returns : goal.returns
returns c =
    shown_rising c.args.lines.now c.in_ok-shown.shown.items c.sort_unstable.new.self.items c.dedup.new.self.items c.in_ok-shown.ensures
    c.sort_unstable.ensures.permutation c.sort_unstable.ensures.sorted (dedup_is _ _ _ c.dedup.ensures.filtered) c.in_ok-numbers.numbers.items
    (c.in_ok-numbers.ensures ∙ ap (λ (xs : List Shown). map number_of xs) c.deref.ensures.value)
