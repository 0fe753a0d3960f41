use Rattle.std.proofs.Common.{◌≡◌, ℕ, List, Some, None, sym, ap, ◌∙◌, subst}
use Rattle.std.specs.Option.{option_map}
use Rattle.dnsv_canonical.specs.Rrsets.{IsNumbered, ReceivedRrset}
use Rattle.dnsv_canonical.specs.SignedData.{IsSignedData}
use Rattle.dnsv_verifier.specs.Table.{SignsNothing, TableContents, table_answer}
use Rattle.dnsv_verifier.proofs.PlaceLemmas.{says_over, signature_numbered, unnumbered_rrset, unnumbered_signature, unsigned}
use Rattle.dnsv_verifier.proofs.table.Table.answer_at.Goals as goal

pub returns-in_default-numbered : goal.returns-in_default-numbered
returns-in_default-numbered c =
    let same : c.rrsets.result.now ≡ c.args.self.now.rrsets = c.rrsets.ensures.value ∙ ap (λ (t : TableContents). t.rrsets) c.self.view_is in
    subst (λ (rrsets : List ReceivedRrset). SignsNothing rrsets c.args.number) same
    (unnumbered_rrset c.rrsets.result.now c.args.number c.in_default-numbered.ensures)

pub returns-in_default-numbered-2 : goal.returns-in_default-numbered-2
returns-in_default-numbered-2 c =
    let same : c.rrsets.result.now ≡ c.args.self.now.rrsets = c.rrsets.ensures.value ∙ ap (λ (t : TableContents). t.rrsets) c.self.view_is in
    subst (λ (rrsets : List ReceivedRrset). SignsNothing rrsets c.args.number) same
    (unnumbered_signature c.rrsets.result.now c.args.number c.in-Some-numbered.rrset.now c.signatures.result.now c.in-Some-numbered.ensures
    c.signatures.ensures c.in_default-numbered-2.ensures)

pub returns-in_default-2 : goal.returns-in_default-2
returns-in_default-2 c =
    let same : c.rrsets.result.now ≡ c.args.self.now.rrsets = c.rrsets.ensures.value ∙ ap (λ (t : TableContents). t.rrsets) c.self.view_is in
    let rrset = c.in-Some-numbered.rrset.now in
    let rrsig = c.in-Some-numbered-2.rrsig.now in
    let nothing : IsSignedData rrset.owner rrset.rtype rrset.rdata rrsig None =
    subst (λ found. IsSignedData rrset.owner rrset.rtype rrset.rdata rrsig (option_map (λ octets. octets.items) found)) c.in_default-2.is
    c.in_ok-octets.ensures in
    subst (λ (rrsets : List ReceivedRrset). SignsNothing rrsets c.args.number) same
    (unsigned c.rrsets.result.now c.args.number rrset c.signatures.result.now c.in-Some-numbered.ensures c.signatures.ensures rrsig
    c.in-Some-numbered-2.ensures nothing)

pub returns : goal.returns
returns c =
    let table = c.args.self.now in
    let rrset = c.in-Some-numbered.rrset.now in
    let rrsig = c.in-Some-numbered-2.rrsig.now in
    let same : c.rrsets.result.now ≡ table.rrsets = c.rrsets.ensures.value ∙ ap (λ (t : TableContents). t.rrsets) c.self.view_is in
    let numbered : IsNumbered table.rrsets c.args.number.rrset rrset =
    subst (λ (rrsets : List ReceivedRrset). IsNumbered rrsets c.args.number.rrset rrset) same c.in-Some-numbered.ensures in
    let signed : IsSignedData rrset.owner rrset.rtype rrset.rdata rrsig (Some c.in-Some-2.octets.items) =
    subst (λ found. IsSignedData rrset.owner rrset.rtype rrset.rdata rrsig (option_map (λ octets. octets.items) found)) c.in-Some-2.is
    c.in_ok-octets.ensures in
    let octets : IsSignedData rrset.owner rrset.rtype rrset.rdata rrsig (Some c.as_slice.result.now) =
    subst (λ (o : List ℕ). IsSignedData rrset.owner rrset.rtype rrset.rdata rrsig (Some o)) (sym c.as_slice.ensures.value) signed in
    says_over table c.args.number rrset rrsig c.args.key.now c.as_slice.result.now c.answer-answer.result
    (signature_numbered table.rrsets c.args.number rrset c.signatures.result.now numbered c.signatures.ensures rrsig c.in-Some-numbered-2.ensures)
    octets (c.answer-answer.ensures ∙ ap (λ entry. table_answer table entry) c.entry_over.ensures)
