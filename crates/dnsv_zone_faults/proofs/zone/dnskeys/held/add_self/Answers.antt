use Rattle.std.proofs.Common.{List, sym, ◌∙◌, subst}
use Rattle.std.proofs.lemmas.Bool.{false≢true}
use Rattle.dnsv_mending.specs.declared.facts.keys.SelfSignature.{SelfSignature}
use Rattle.dnsv_verifier.proofs.NumberedLemmas.{gives_nothing, gives_pushed}
use Rattle.dnsv_verifier.specs.Asking.{GivesMore}
use Rattle.dnsv_zone_faults.specs.Dnskeys.{MayBeBy}
use Rattle.dnsv_zone_faults.specs.Dnskeys.DnskeySearch.{IsSelfOf, basis_of_set}
use Rattle.dnsv_zone_faults.specs.declared.zone.dnskeys.tagged.OwnSignature.{OwnSignature}
use Rattle.dnsv_zone_faults.proofs.zone.dnskeys.held.add_self.Goals as goal

pub returns-then-not-may_be_by : goal.returns-then-not-may_be_by
returns-then-not-may_be_by c =
    let set = c.args.set.now in
    let key = c.args.placed.now.key in
    gives_nothing (IsSelfOf (basis_of_set set) set.number set.rrset.now key) (λ (own : OwnSignature). MayBeBy (basis_of_set set) set.rrset.now key own.rrsig.now)
    c.args.own.now c.args.found.now.items (λ may. false≢true (sym c.if-not-may_be_by.true ∙ c.may_be_by.ensures.1 may))

pub returns : goal.returns
returns c =
    let set = c.args.set.now in
    let key = c.args.placed.now.key in
    let Self : OwnSignature → SelfSignature → Type 0 = IsSelfOf (basis_of_set set) set.number set.rrset.now key in
    let May : OwnSignature → Type 0 = λ own. MayBeBy (basis_of_set set) set.rrset.now key own.rrsig.now in
    subst (λ (new : List SelfSignature). GivesMore Self May c.args.own.now c.args.found.now.items new) (sym c.in_ok-push.ensures.items)
    (gives_pushed Self May c.args.own.now c.args.found.now.items c.self_signature.result c.self_signature.ensures)
