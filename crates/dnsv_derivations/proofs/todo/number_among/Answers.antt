use Rattle.std.proofs.Common.{None, Some, rules, subst}
use Rattle.dnsv_canonical.specs.SignedData.{IsSignedData}
use Rattle.dnsv_verifier.specs.declared.entry.Entry.{Entry}
use Rattle.dnsv_derivations.specs.Explained.{IsTodo}
use Rattle.dnsv_derivations.proofs.lemmas.TodoLemmas.{its_number, never_asked}
use Rattle.dnsv_derivations.proofs.todo.number_among.Goals as goal

pub returns-in_default : goal.returns-in_default
returns-in_default c = λ entry is.
    let rrset = c.args.rrset.now in
    let none : IsSignedData rrset.owner rrset.rtype rrset.rdata c.args.rrsig.now None = search rules in
    absurd (never_asked rrset c.args.rrsig.now c.args.key.now none entry is)

pub returns-then-rises : goal.returns-then-rises
returns-then-rises c =
    let rrset = c.args.rrset.now in
    let signed : IsSignedData rrset.owner rrset.rtype rrset.rdata c.args.rrsig.now (Some c.as_slice.result.now) = search rules in
    let Of : Entry → Type 0 = λ each. IsTodo c.args.entries.now each c.number_by_halves.result in
    its_number rrset c.args.rrsig.now c.args.key.now c.args.entries.now c.as_slice.result.now c.number_by_halves.result signed
    (subst Of c.entry_over.ensures c.number_by_halves.ensures)

pub returns : goal.returns
returns c =
    let rrset = c.args.rrset.now in
    let signed : IsSignedData rrset.owner rrset.rtype rrset.rdata c.args.rrsig.now (Some c.as_slice-2.result.now) = search rules in
    its_number rrset c.args.rrsig.now c.args.key.now c.args.entries.now c.as_slice-2.result.now c.number_of.result signed c.number_of.ensures
