use Rattle.std.proofs.Common.{◌≡◌, ◌+◌, Option, subst, sym, ◌∙◌}
use Rattle.std.specs.declared.cmp.Ordering.TheVariants.{Equal, Greater}
use Rattle.dnsv_canonical.specs.Canonical.{rdata_cmp}
use Rattle.dnsv_derivations.specs.derivations.SignerSearch.{IsFirstTo, IsLowestOf}
use Rattle.dnsv_derivations.specs.declared.derivations.signers.Signer.{Signer}
use Rattle.dnsv_derivations.proofs.lemmas.derivations.SignerLemmas.{lower_found, none_found, not_lower, only_found}
use Rattle.dnsv_derivations.proofs.derivations.signers.earlier.Goals as goal

pub returns-in_default : goal.returns-in_default
returns-in_default c = λ setting number n before lowest.
    let Lowest : Option Signer → Type 0 = λ each. IsLowestOf setting number (n + 1) each in
    none_found setting number n c.args.first before (subst Lowest c.in_default.is lowest)

pub returns-in_default-first : goal.returns-in_default-first
returns-in_default-first c = λ setting number n before lowest.
    let Lowest : Option Signer → Type 0 = λ each. IsLowestOf setting number (n + 1) each in
    let First : Option Signer → Type 0 = λ each. IsFirstTo setting number n each in
    only_found setting number n c.in-Some.found (subst First c.in_default-first.is before) (subst Lowest c.in-Some.is lowest)

pub returns-in-Less : goal.returns-in-Less
returns-in-Less c = λ setting number n before lowest.
    let Lowest : Option Signer → Type 0 = λ each. IsLowestOf setting number (n + 1) each in
    let First : Option Signer → Type 0 = λ each. IsFirstTo setting number n each in
    lower_found setting number n c.in-Some-first.first c.in-Some.found (subst First c.in-Some-first.is before)
    (subst Lowest c.in-Some.is lowest) (sym c.cmp.ensures ∙ c.in-Less.is)

pub returns-in-Equal : goal.returns-in-Equal
returns-in-Equal c = λ setting number n before lowest.
    let Lowest : Option Signer → Type 0 = λ each. IsLowestOf setting number (n + 1) each in
    let First : Option Signer → Type 0 = λ each. IsFirstTo setting number n each in
    not_lower setting number n c.in-Some-first.first c.in-Some.found (subst First c.in-Some-first.is before)
    (subst Lowest c.in-Some.is lowest)
    (λ less. let is : rdata_cmp c.in-Some.found.rdata.now c.in-Some-first.first.rdata.now ≡ Equal = sym c.cmp.ensures ∙ c.in-Equal.is in cc)

pub returns-in-Greater : goal.returns-in-Greater
returns-in-Greater c = λ setting number n before lowest.
    let Lowest : Option Signer → Type 0 = λ each. IsLowestOf setting number (n + 1) each in
    let First : Option Signer → Type 0 = λ each. IsFirstTo setting number n each in
    not_lower setting number n c.in-Some-first.first c.in-Some.found (subst First c.in-Some-first.is before)
    (subst Lowest c.in-Some.is lowest)
    (λ less. let is : rdata_cmp c.in-Some.found.rdata.now c.in-Some-first.first.rdata.now ≡ Greater = sym c.cmp.ensures ∙ c.in-Greater.is in cc)
