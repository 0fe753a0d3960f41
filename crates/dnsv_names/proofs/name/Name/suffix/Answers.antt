use Rattle.std.proofs.Common.{◌≡◌, ◌-◌, ◌++◌, length, take, drop, sym, ap, ◌∙◌}
use Rattle.std.proofs.lemmas.List.{take-append-drop, take_rest}
use Rattle.dnsv_names.specs.Name.{wire, lower_case, rightmost}
use Rattle.dnsv_names.specs.Name.Spelling.{labels_of}
use Rattle.dnsv_names.specs.Tree.AncestorLaws.{IsName-drop}
use Rattle.dnsv_names.specs.Name.WireLaws.{labels_of-wire}
use Rattle.dnsv_names.proofs.NameLemmas.{SpellsName-wire}
use Rattle.dnsv_names.proofs.name.Name.suffix.Goals as goal

module _ (c : goal.After-copied) where
  same : labels_of c.as_slice-octets.result.now ≡ c.args.self.now
  same = ap labels_of c.as_slice-octets.ensures.value ∙ c.self.view_is

  spelled : c.copied.result.items ≡ wire (rightmost (labels_of c.self.inside.octets.items) c.args.n)
  spelled = c.copied.ensures ∙ take_rest c.as_slice-octets.result.now c.label_place-place.result ∙ c.label_place-place.ensures.rest
      ∙ ap (λ n. wire (drop (n - c.args.n) (labels_of c.as_slice-octets.result.now))) c.label_count.ensures
      ∙ ap (λ octets. wire (rightmost (labels_of octets) c.args.n)) c.as_slice-octets.ensures.value

pub invariant_of-result : goal.invariant_of-result
invariant_of-result c = SpellsName-wire _ _ (IsName-drop _ _ c.self.invariant.name) (spelled c)

pub returns-clause-labels : goal.returns-clause-labels
returns-clause-labels c = ap labels_of (spelled c) ∙ labels_of-wire _ (IsName-drop _ _ c.self.invariant.name).each ∙ ap (λ labels. rightmost labels c.args.n) c.self.view_is

pub returns-clause-above : goal.returns-clause-above
returns-clause-above c = (
  take (length c.args.self.now - c.args.n) c.args.self.now,
  ap lower_case (sym (take-append-drop (length c.args.self.now - c.args.n) c.args.self.now)
      ∙ ap (λ xs. take (length c.args.self.now - c.args.n) c.args.self.now ++ xs) (sym (returns-clause-labels c))),
)
