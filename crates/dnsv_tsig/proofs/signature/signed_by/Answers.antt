use Rattle.std.proofs.Common.{ℕ, List, ◌≡◌, length, ap, arith, subst, sym}
use Rattle.std.proofs.lemmas.Option.{MatchOption-at_none}
use Rattle.dnsv_tsig.specs.Tsig.{IsTsig}
use Rattle.dnsv_tsig.proofs.TsigLemmas.{one_tsig}
use Rattle.dnsv_tsig.proofs.signature.signed_by.Goals as goal

pub returns-in_default : goal.returns-in_default
returns-in_default c = λ tsig is.
    let Reads : List ℕ → Type 0 = λ octets. IsTsig octets tsig in
    MatchOption-at_none _ _ c.in_default.is c.read.ensures tsig (subst Reads (sym (c.requires is.rtype)) is.rdata)

pub returns-then-tsig-lt-LEAST_MAC_LENGTH : goal.returns-then-tsig-lt-LEAST_MAC_LENGTH
returns-then-tsig-lt-LEAST_MAC_LENGTH c = λ tsig is.
    let Reads : List ℕ → Type 0 = λ octets. IsTsig octets tsig in
    let same : tsig ≡ c.in-Some.tsig = one_tsig (subst Reads (sym (c.requires is.rtype)) is.rdata) c.in-Some.ensures in
    omega (arith, ap (λ t. length t.mac) same, ap (λ t. length t.mac) c.tsig.view_is, is.at_least)

pub returns-then-tsig-gt-MAC_LENGTH : goal.returns-then-tsig-gt-MAC_LENGTH
returns-then-tsig-gt-MAC_LENGTH c = λ tsig is.
    let Reads : List ℕ → Type 0 = λ octets. IsTsig octets tsig in
    let same : tsig ≡ c.in-Some.tsig = one_tsig (subst Reads (sym (c.requires is.rtype)) is.rdata) c.in-Some.ensures in
    omega (arith, ap (λ t. length t.mac) same, ap (λ t. length t.mac) c.tsig.view_is, is.at_most)
