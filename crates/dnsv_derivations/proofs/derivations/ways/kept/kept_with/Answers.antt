use Rattle.std.proofs.Common.{◌+◌, ◌∙◌, ap, length, not}
use Rattle.dnsv_derivations.specs.Explained.{setting_in}
use Rattle.dnsv_derivations.proofs.lemmas.derivations.WayLemmas.NewKeyLemmas.{new_at, no_way_in, none_new}
use Rattle.dnsv_derivations.proofs.derivations.ways.kept.kept_with.Goals as goal

pub returns-then-is_none : goal.returns-then-is_none
returns-then-is_none c =
    let setting = setting_in c.args.evidence.now in
    let k = length c.args.before.now + 1 in
    let none = no_way_in setting k c.args.way c.requires.way (c.is_none.ensures ∙ ap not c.if-is_none.true) in record {
      way = c.requires.way;
      keys = none_new setting k _ none;
    }

pub returns : goal.returns
returns c = record {
  way = c.requires.way;
  keys = new_at (setting_in c.args.evidence.now) (length c.args.before.now) c.args.rrset.now c.in_ok-new_keys.new_keys.items
      c.requires.numbered c.in_ok-new_keys.ensures;
}
