use Rattle.std.proofs.Common.{List, [], ◌∷◌, ◌++◌, refl, rules, sym, subst}
use Rattle.dnsv_canonical.specs.declared.number.SignatureNumber.{SignatureNumber}
use Rattle.dnsv_verifier.specs.Asking.{AreMadeAt, IsMadeBySome, IsMadeOf, IsPartOf, MadeSignature}
use Rattle.dnsv_verifier.specs.Within.{IsVerifiableWithin}
use Rattle.dnsv_verifier.proofs.AskLemmas.{adds_nothing, adds_one}
use Rattle.dnsv_verifier.proofs.EntryLemmas.{only_made}
use Rattle.dnsv_verifier.proofs.PlaceLemmas.{made_at}
use Rattle.dnsv_verifier.proofs.ask.made.add_signature.Goals as goal

pub returns-then-not-is_made_by_some-clause-adds : goal.returns-then-not-is_made_by_some-clause-adds
returns-then-not-is_made_by_some-clause-adds c =
    let sought = c.args.sought.now in
    adds_nothing (IsMadeOf sought.range.from sought.range.to sought.keys.now c.args.rrset.now c.args.rrsig.now) _
    (λ made is. let holds = c.is_made_by_some.ensures.1 is.by_some in let fails = c.if-not-is_made_by_some.true in cc)

pub returns-clause-adds : goal.returns-clause-adds
returns-clause-adds c =
    let sought = c.args.sought.now in
    let rrset = c.args.rrset.now in
    let rrsig = c.args.rrsig.now in
    let verifiable : IsVerifiableWithin sought.range.from sought.range.to rrset rrsig = c.is_verifiable_within.ensures.0 c.if-not-is_verifiable_within.false in
    let by_some : IsMadeBySome sought.keys.now rrsig = c.is_made_by_some.ensures.0 c.if-not-is_made_by_some.false in
    let of : IsPartOf rrset rrsig c.in-Some.part = search rules in
    let made : MadeSignature = record { rrsig = rrsig; part = c.in-Some.part } in
    let it : IsMadeOf sought.range.from sought.range.to sought.keys.now rrset rrsig made =
    record { same = refl; verifiable = verifiable; by_some = by_some; part_of = of } in
    rw c.in_ok-push-2.ensures.items
    (adds_one (IsMadeOf sought.range.from sought.range.to sought.keys.now rrset rrsig) c.args.made.now.signatures.items made it
    (λ other by. only_made sought.range.from sought.range.to sought.keys.now rrset rrsig other made by it))

pub returns-clause-numbers : goal.returns-clause-numbers
returns-clause-numbers c = λ rrsets has are.
    let of : IsPartOf c.args.rrset.now c.args.rrsig.now c.in-Some.part = search rules in
    let made : MadeSignature = record { rrsig = c.args.rrsig.now; part = c.in-Some.part } in
    subst (λ (all : List MadeSignature). AreMadeAt rrsets c.push.new.self.items all) (sym c.in_ok-push-2.ensures.items)
    (subst (λ (numbers : List SignatureNumber). AreMadeAt rrsets numbers (c.args.made.now.signatures.items ++ made ∷ [])) (sym c.in_ok-push.ensures.items)
    (made_at rrsets c.args.number c.args.rrset.now made c.args.made.now.numbers.items c.args.made.now.signatures.items has of are))
