use Rattle.std.proofs.Common.{ℕ, sym, subst}
use Rattle.dnsv_names.specs.Name.{Labels}
use Rattle.dnsv_denial.specs.declared.unsigned_cuts.shown_cut.ShownCut.{ShownCut}
use Rattle.dnsv_derivations.specs.Explained.{setting_in}
use Rattle.dnsv_derivations.specs.Saying.{Adds}
use Rattle.dnsv_derivations.specs.unsigned_cuts.ShownCuts.{IsCutTold}
use Rattle.dnsv_derivations.specs.unsigned_cuts.UnsignedCuts.{IsUnusableSet, IsUnusableTold}
use Rattle.dnsv_derivations.proofs.lemmas.unsigned_cuts.CutTellLemmas.{IsCutShown, cut_shown}
use Rattle.dnsv_derivations.proofs.unsigned_cuts.add_cut.Goals as goal

pub add_denial-requires : goal.add_denial-requires
add_denial-requires c =
    let setting = setting_in c.args.evidence.now in
    let Shown : ShownCut → Type 0 = λ cut. IsCutShown setting c.args.name.now cut in
    subst Shown c.in-NoDs.is (cut_shown setting c.args.name.now c.args.cut.now c.requires)

pub add_unusable-requires : goal.add_unusable-requires
add_unusable-requires c =
    let setting = setting_in c.args.evidence.now in
    let Shown : ShownCut → Type 0 = λ cut. IsCutShown setting c.args.name.now cut in
    let At : Labels → Type 0 = λ at. (k : ℕ) × IsUnusableSet setting at k in
    let is = subst Shown c.in-NoUsableDs.is (cut_shown setting c.args.name.now c.args.cut.now c.requires) in
    subst At (sym (c.of-at.ensures.value is.0)) (is.1, is.2)

pub add_denial-requires-in-OptOut : goal.add_denial-requires-in-OptOut
add_denial-requires-in-OptOut c =
    let setting = setting_in c.args.evidence.now in
    let Shown : ShownCut → Type 0 = λ cut. IsCutShown setting c.args.name.now cut in
    subst Shown c.in-OptOut.is (cut_shown setting c.args.name.now c.args.cut.now c.requires)

pub returns-in_ok-add_denial-in-NoDs : goal.returns-in_ok-add_denial-in-NoDs
returns-in_ok-add_denial-in-NoDs c =
    let Told : ShownCut → Type 0 = λ cut. Adds (IsCutTold (setting_in c.args.evidence.now) c.args.name.now cut)
    c.args.lines.now.items c.add_denial.new.lines.items in
    subst Told (sym c.in-NoDs.is) c.in_ok-add_denial-in-NoDs.ensures

pub returns-in_ok-add_unusable-in-NoUsableDs : goal.returns-in_ok-add_unusable-in-NoUsableDs
returns-in_ok-add_unusable-in-NoUsableDs c =
    let setting = setting_in c.args.evidence.now in
    let Shown : ShownCut → Type 0 = λ cut. IsCutShown setting c.args.name.now cut in
    let is = subst Shown c.in-NoUsableDs.is (cut_shown setting c.args.name.now c.args.cut.now c.requires) in
    let At : Labels → Type 0 = λ at. Adds (IsUnusableTold setting at) c.args.lines.now.items c.add_unusable.new.lines.items in
    let Told : ShownCut → Type 0 = λ cut. Adds (IsCutTold setting c.args.name.now cut) c.args.lines.now.items
    c.add_unusable.new.lines.items in
    subst Told (sym c.in-NoUsableDs.is) (subst At (c.of-at.ensures.value is.0) c.in_ok-add_unusable-in-NoUsableDs.ensures)

pub returns-in_ok-add_denial-in-OptOut : goal.returns-in_ok-add_denial-in-OptOut
returns-in_ok-add_denial-in-OptOut c =
    let Told : ShownCut → Type 0 = λ cut. Adds (IsCutTold (setting_in c.args.evidence.now) c.args.name.now cut)
    c.args.lines.now.items c.add_denial-in-OptOut.new.lines.items in
    subst Told (sym c.in-OptOut.is) c.in_ok-add_denial-in-OptOut.ensures
