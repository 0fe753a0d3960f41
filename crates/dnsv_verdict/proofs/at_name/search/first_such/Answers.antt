-- the RRset that has one, those before it, and all of them where none has
use Rattle.std.proofs.Common.{◌-◌, ap, arith, get_or, length, subst, sym}
use Rattle.std.proofs.lemmas.Option.{slice_get-get_or, slice_get_within}
use Rattle.dnsv_canonical.specs.Rrsets.{IsNumbered}
use Rattle.dnsv_verdict.specs.Secure.Search.{IsFirstFound, IsFound}
use Rattle.dnsv_verdict.proofs.SearchLemmas.{first_such_found, none_found_at, none_with}
use Rattle.dnsv_chain.proofs.NumberedLemmas.{numbers_are, one_at}
use Rattle.dnsv_verdict.proofs.at_name.search.first_such.Goals as goal

pub rrset_at-rrset-requires-clause-some : goal.rrset_at-rrset-requires-clause-some
rrset_at-rrset-requires-clause-some g c =
    let are = numbers_are c.args.capture.now.rrsets c.args.name.now c.args.rtype.0 c.at-at_name.result.now c.at-at_name.ensures in
    (one_at c.args.capture.now.rrsets c.args.name.now c.args.rtype.0 c.at-at_name.result.now c.loop-number.number-index are c.loop-number-test.true).is_rrset.0

pub rrset_at-rrset-requires-clause-within : goal.rrset_at-rrset-requires-clause-within
rrset_at-rrset-requires-clause-within g c =
    let are = numbers_are c.args.capture.now.rrsets c.args.name.now c.args.rtype.0 c.at-at_name.result.now c.at-at_name.ensures in
    let one = one_at c.args.capture.now.rrsets c.args.name.now c.args.rtype.0 c.at-at_name.result.now c.loop-number.number-index are c.loop-number-test.true in
    let from_one = one.is_rrset.0 in
    let within = slice_get_within c.args.capture.now.rrsets (get_or c.at-at_name.result.now c.loop-number.number-index 0 - 1) one.rrset one.is_rrset.1 in
    omega (arith, from_one, within, ap length c.rrsets-rrsets.ensures.value)

pub returns-in-Some : goal.returns-in-Some
returns-in-Some g c =
    let number = get_or c.at-at_name.result.now c.loop-number.number-index 0 in
    let are = numbers_are c.args.capture.now.rrsets c.args.name.now c.args.rtype.0 c.at-at_name.result.now c.at-at_name.ensures in
    first_such_found (g.T.Test.passes c.args.test.now) c.args.trust.now c.args.capture.now.rrsets c.args.name.now c.args.rtype.0 c.at-at_name.result.now are c.requires
    c.loop-number.number-index number c.rrset_at-rrset.result.now c.in-Some.signature c.in-Some.rrsig.now c.loop-number.invariant
    (slice_get-get_or c.at-at_name.result.now c.loop-number.number-index 0 c.loop-number-test.true)
    (one_at c.args.capture.now.rrsets c.args.name.now c.args.rtype.0 c.at-at_name.result.now c.loop-number.number-index are c.loop-number-test.true)
    (subst (λ xs. IsNumbered xs number c.rrset_at-rrset.result.now) c.rrsets-rrsets.ensures.value c.rrset_at-rrset.ensures)
    (subst (λ xs. IsFirstFound (g.T.Test.passes c.args.test.now) c.rrset_at-rrset.result.now xs c.in-Some.signature c.in-Some.rrsig.now) c.signed.ensures c.in-Some.ensures)

pub loop-number-preserved : goal.loop-number-preserved
loop-number-preserved g c =
    let number = get_or c.at-at_name.result.now c.loop-number.number-index 0 in
    none_with (g.T.Test.passes c.args.test.now) c.args.trust.now c.args.capture.now.rrsets c.at-at_name.result.now c.loop-number.number-index number c.rrset_at-rrset.result.now c.loop-number.invariant
    (slice_get-get_or c.at-at_name.result.now c.loop-number.number-index 0 c.loop-number-test.true)
    (subst (λ xs. IsNumbered xs number c.rrset_at-rrset.result.now) c.rrsets-rrsets.ensures.value c.rrset_at-rrset.ensures)
    (λ s found. c.in_default.ensures s (subst (λ xs. IsFound (g.T.Test.passes c.args.test.now) c.rrset_at-rrset.result.now xs s) (sym c.signed.ensures) found))

pub returns : goal.returns
returns g c =
    let are = numbers_are c.args.capture.now.rrsets c.args.name.now c.args.rtype.0 c.at-at_name.result.now c.at-at_name.ensures in
    none_found_at (g.T.Test.passes c.args.test.now) c.args.trust.now c.args.capture.now.rrsets c.args.name.now c.args.rtype.0 c.at-at_name.result.now are c.requires
    c.loop-number.number-index c.loop-number-test.false c.loop-number.invariant
