use Rattle.std.proofs.Common.{List, rules, subst, sym}
use Rattle.std.proofs.lemmas.Fn.{always_returns_same}
use Rattle.std.proofs.lemmas.List.{map-id}
use Rattle.std.specs.List.{Contains}
use Rattle.std.specs.List.Sorted.{IsStrictlySortedBy}
use Rattle.dnsv_verifier.proofs.SearchLemmas.{not_missed}
use Rattle.dnsv_compact.specs.CompactList.{key_cmp, key_of_entry}
use Rattle.dnsv_compact.specs.declared.key.ListedKey.{ListedKey}
use Rattle.dnsv_compact.proofs.KeyLemmas.{found_key, key_cmp_total}
use Rattle.dnsv_compact.proofs.key.number_of.Goals as goal

pub unreachable-requires : goal.unreachable-requires
unreachable-requires c =
    let asked : ListedKey = key_of_entry c.args.entry.now in
    let keys = c.args.keys.now in
    let position = c.in_default.ensures.position (λ key. key_cmp key asked) (always_returns_same _ _ _ (λ a r f called. search rules)) in
    not_missed key_cmp key_cmp_total (λ key. key) keys (subst (IsStrictlySortedBy key_cmp) (sym (map-id keys)) c.requires.rising) asked
    (subst (λ (each : List ListedKey). Contains each asked) (sym (map-id keys)) c.requires.among) _ position

pub returns : goal.returns
returns c =
    let asked : ListedKey = key_of_entry c.args.entry.now in
    let position = c.in-Ok.ensures.position (λ key. key_cmp key asked) (always_returns_same _ _ _ (λ a r f called. search rules)) in
    found_key c.args.keys.now asked c.in-Ok.place c.in-Ok.ensures.bound position
