use Rattle.std.proofs.Common.{◌∙◌, sym}
use Rattle.std.proofs.lemmas.Bool.{false≢true}
use Rattle.dnsv_canonical.specs.Rrsets.{IsNumbered}
use Rattle.dnsv_derivations.specs.Explained.{setting_in}
use Rattle.dnsv_derivations.proofs.lemmas.NumberedLemmas.{in_list}
use Rattle.dnsv_holding.proofs.lemmas.telling.SecureLemmas.{its_signature, must_hold, never_rrset, never_signature}
use Rattle.dnsv_holding.proofs.lemmas.telling.TellLemmas.{closer_there, no_closer_shown, owned_added, signature_at, wildcard_added}
use Rattle.dnsv_holding.proofs.told.add_set.Goals as goal

pub returns-in_default : goal.returns-in_default
returns-in_default c =
    absurd (never_rrset (setting_in c.args.evidence.now) c.args.at.now.name.now c.args.number c.requires.secure c.rrsets.result.now
    c.rrsets.ensures c.in_default.ensures)

pub returns-in_default-numbered : goal.returns-in_default-numbered
returns-in_default-numbered c =
    let rrsets = c.args.evidence.now.rrsets in
    absurd (never_signature (setting_in c.args.evidence.now) c.args.at.now.name.now c.args.number c.requires.secure c.in-Some.rrset.now
    (in_list rrsets c.rrsets.result.now c.args.number.rrset c.in-Some.rrset.now c.rrsets.ensures c.in-Some.ensures)
    c.signatures.result.now c.signatures.ensures c.in_default-numbered.ensures)

pub add_derivation-requires : goal.add_derivation-requires
add_derivation-requires c = its_signature (setting_in c.args.evidence.now) c.args.at.now.name.now c.args.number c.requires.secure

pub returns-then-not-is_expanded : goal.returns-then-not-is_expanded
returns-then-not-is_expanded c =
    let explained = c.args.evidence.now in
    let rrset = c.in-Some.rrset.now in
    let rrsig = c.in-Some-numbered.rrsig.now in
    let test = rw c.owner.ensures at c.is_expanded.ensures in
    let derived = c.in_ok-add_derivation.ensures in
    owned_added (setting_in explained) c.args.at.now.name.now c.args.number rrset rrsig
    c.args.lines.now.items derived.more _
    (signature_at explained.rrsets c.args.number rrset c.signatures.result.now rrsig
    (in_list explained.rrsets c.rrsets.result.now c.args.number.rrset rrset c.rrsets.ensures c.in-Some.ensures)
    c.signatures.ensures c.in-Some-numbered.ensures)
    (λ expanded. false≢true (sym c.if-not-is_expanded.true ∙ test.1 expanded))
    derived.says derived.is

pub returns-in_default-shown_no_closer : goal.returns-in_default-shown_no_closer
returns-in_default-shown_no_closer c =
    let explained = c.args.evidence.now in
    let rrset = c.in-Some.rrset.now in
    let rrsig = c.in-Some-numbered.rrsig.now in
    let test = rw c.owner.ensures at c.is_expanded.ensures in
    let is_rrset : IsNumbered explained.rrsets c.args.number.rrset rrset =
    in_list explained.rrsets c.rrsets.result.now c.args.number.rrset rrset c.rrsets.ensures c.in-Some.ensures in
    absurd ((rw c.to_name.ensures at c.in_default-shown_no_closer.ensures.first)
    (closer_there c.args.at.now.case.now explained c.requires.at.evidence c.requires.at.trust c.in_ok-view.view c.args.at.now.name.now
    c.in_ok-view.ensures rrsig.labels rrsig.signer
    (must_hold (setting_in explained) c.args.at.now.name.now c.args.number c.requires.secure rrset is_rrset rrsig
    (signature_at explained.rrsets c.args.number rrset c.signatures.result.now rrsig is_rrset c.signatures.ensures
    c.in-Some-numbered.ensures) (test.0 c.if-not-is_expanded.false))))

pub add_denial-requires : goal.add_denial-requires
add_denial-requires c =
    no_closer_shown c.args.at.now.case.now c.args.evidence.now c.requires.at.evidence c.requires.at.trust
    c.in_ok-view.view c.args.at.now.name.now c.in_ok-view.ensures _ _
    c.in-Some-shown_no_closer.shown c.in-Some-shown_no_closer.ensures.first

pub returns : goal.returns
returns c =
    let explained = c.args.evidence.now in
    let rrset = c.in-Some.rrset.now in
    let rrsig = c.in-Some-numbered.rrsig.now in
    let test = rw c.owner.ensures at c.is_expanded.ensures in
    let derived = c.in_ok-add_derivation.ensures in
    wildcard_added c.args.at.now.case.now explained c.requires.at.evidence c.requires.at.trust
    c.in_ok-view.view c.args.at.now.name.now c.in_ok-view.ensures c.args.number rrset rrsig
    c.in-Some-shown_no_closer.shown c.args.lines.now.items derived.more _ _
    (signature_at explained.rrsets c.args.number rrset c.signatures.result.now rrsig
    (in_list explained.rrsets c.rrsets.result.now c.args.number.rrset rrset c.rrsets.ensures c.in-Some.ensures)
    c.signatures.ensures c.in-Some-numbered.ensures)
    (test.0 c.if-not-is_expanded.false)
    (rw c.to_name.ensures at c.in-Some-shown_no_closer.ensures.first)
    derived.says derived.is c.in_ok-add_denial.ensures
