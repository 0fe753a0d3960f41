use Rattle.std.proofs.Common.{ℕ, List, [], sym, ap, ◌∙◌, subst}
use Rattle.std.proofs.lemmas.List.Elements.{Contains-get_or}
use Rattle.std.specs.Prelude.{Contains}
use Rattle.dnsv_mending.specs.declared.facts.keys.SelfSignature.{SelfSignature}
use Rattle.dnsv_records.specs.Dnskey.KeyTag.{key_tag_of}
use Rattle.dnsv_verifier.proofs.NumberedLemmas.{each_all, each_more, each_none}
use Rattle.dnsv_verifier.specs.Admissible.{DnskeyRecord}
use Rattle.dnsv_verifier.specs.Asking.{GivesEach}
use Rattle.dnsv_zone_faults.specs.Dnskeys.{MayBeBy}
use Rattle.dnsv_zone_faults.specs.Dnskeys.DnskeySearch.{IsSelfOf, basis_of_set}
use Rattle.dnsv_zone_faults.specs.Dnskeys.OwnSearch.{AreTagged}
use Rattle.dnsv_zone_faults.specs.declared.zone.dnskeys.tagged.OwnSignature.{OwnSignature}
use Rattle.dnsv_zone_faults.proofs.lemmas.zones.OwnLemmas.{self_are}
use Rattle.dnsv_zone_faults.proofs.zone.dnskeys.held.self_signatures.Goals as goal

pub loop-own-init : goal.loop-own-init
loop-own-init c =
    let set = c.args.set.now in
    let key = c.args.placed.now.key in
    let Self : OwnSignature → SelfSignature → Type 0 = IsSelfOf (basis_of_set set) set.number set.rrset.now key in
    let May : OwnSignature → Type 0 = λ own. MayBeBy (basis_of_set set) set.rrset.now key own.rrsig.now in
    subst (λ (found : List SelfSignature). GivesEach Self May [] found) (sym c.new-found.ensures.items) (each_none Self May c.tagged-own-items.result.now)

pub add_self-requires-clause-own : goal.add_self-requires-clause-own
add_self-requires-clause-own c =
    let own = c.own-item.result in
    c.tagged-own-items.ensures.among own
    (subst (λ (each : OwnSignature). Contains c.tagged-own-items.result.now each) (sym c.own-item.is)
    (Contains-get_or c.tagged-own-items.result.now c.loop-own.own-index own c.loop-own-test.true))

pub loop-own-preserved : goal.loop-own-preserved
loop-own-preserved c =
    let set = c.args.set.now in
    let key = c.args.placed.now.key in
    let Self : OwnSignature → SelfSignature → Type 0 = IsSelfOf (basis_of_set set) set.number set.rrset.now key in
    let May : OwnSignature → Type 0 = λ own. MayBeBy (basis_of_set set) set.rrset.now key own.rrsig.now in
    each_more Self May c.tagged-own-items.result.now c.loop-own.own-index c.own-item.result _ _ c.loop-own-test.true c.own-item.is c.loop-own.invariant
    c.in_ok-add_self.ensures

pub returns : goal.returns
returns c =
    let set = c.args.set.now in
    let are = c.requires.set in
    let key = c.args.placed.now.key in
    let Self : OwnSignature → SelfSignature → Type 0 = IsSelfOf (basis_of_set set) set.number set.rrset.now key in
    let May : OwnSignature → Type 0 = λ own. MayBeBy (basis_of_set set) set.rrset.now key own.rrsig.now in
    let tag = c.key_tag.ensures ∙ ap (λ (k : DnskeyRecord). key_tag_of k.rdata) c.key.ensures in
    self_are (basis_of_set set) set.keyed.now.zone.now set.number set.rrset.now set.keys.items are.keys set.own are.own key c.tagged-own-items.result.now
    (subst (λ (n : ℕ). AreTagged set.own n c.tagged-own-items.result.now) tag c.tagged-own-items.ensures) c.loop-own.found.items _
    (each_all Self May c.tagged-own-items.result.now c.loop-own.own-index _ c.loop-own-test.false c.loop-own.invariant) c.put_in_order.ensures
