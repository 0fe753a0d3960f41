use Rattle.std.proofs.Common.{List, [], subst, sym}
use Rattle.std.specs.Option.{option_map_or}
use Rattle.dnsv_derivations.specs.Explained.{Explained, setting_in}
use Rattle.dnsv_derivations.specs.derivations.WaySearch.{HasNewKeys}
use Rattle.dnsv_derivations.specs.declared.derivations.ways.kept.NewKey.{NewKey}
use Rattle.dnsv_derivations.proofs.evidence.Evidence.new_keys.Goals as goal

pub returns : goal.returns
returns c =
    let Are : Explained → List NewKey → Type 0 = λ all keys. HasNewKeys (setting_in all) c.args.number keys in
    let Of : Explained → Type 0 = λ all. Are all c.as_slice.result.now in
    let own : Explained = record {
      rrsets = c.self.inside.capture.now.rrsets;
      anchors = c.self.inside.anchors.now;
      table = c.self.inside.table.now;
      todo = option_map_or (λ entries. entries.now) c.self.inside.todo [];
    } in
    subst Of c.self.view_is
    (subst (Are own) (sym c.as_slice.ensures.value) (c.self.invariant.ways c.args.number c.in-Some.known.now c.in-Some.ensures).keys)
