use Rattle.std.proofs.Common.{◌≡◌, Option, subst, sym, ◌∙◌}
use Rattle.std.specs.declared.cmp.Ordering.TheVariants.{Less, Equal, Greater}
use Rattle.dnsv_canonical.specs.Canonical.{rdata_cmp}
use Rattle.dnsv_verifier.specs.Admissible.{DnskeyRecord}
use Rattle.dnsv_derivations.specs.derivations.SignerSearch.{IsLowestValid, IsValidKey}
use Rattle.dnsv_derivations.proofs.lemmas.derivations.ValidLemmas.{first_valid, lower_valid, none_valid, not_lower_valid}
use Rattle.dnsv_derivations.proofs.derivations.signers.valid.lower.Goals as goal

pub returns-in_default : goal.returns-in_default
returns-in_default c = λ meaning rrsig octets set keys n key numbered lowest found.
    let Found : Option DnskeyRecord → Type 0 = λ each. IsValidKey meaning rrsig octets set key each in
    none_valid meaning rrsig octets set keys n key numbered c.args.lowest lowest (subst Found c.in_default.is found)

pub returns-in_default-lowest : goal.returns-in_default-lowest
returns-in_default-lowest c = λ meaning rrsig octets set keys n key numbered lowest found.
    let Found : Option DnskeyRecord → Type 0 = λ each. IsValidKey meaning rrsig octets set key each in
    let Lowest : Option DnskeyRecord → Type 0 = λ each. IsLowestValid meaning rrsig octets set keys n each in
    first_valid meaning rrsig octets set keys n key numbered c.in-Some.found (subst Lowest c.in_default-lowest.is lowest)
    (subst Found c.in-Some.is found)

pub returns-in-Less : goal.returns-in-Less
returns-in-Less c = λ meaning rrsig octets set keys n key numbered lowest found.
    let Found : Option DnskeyRecord → Type 0 = λ each. IsValidKey meaning rrsig octets set key each in
    let Lowest : Option DnskeyRecord → Type 0 = λ each. IsLowestValid meaning rrsig octets set keys n each in
    let a = c.rdata.ensures in
    let b = c.rdata-2.ensures in
    let is : rdata_cmp c.rdata.result.now c.rdata-2.result.now ≡ Less = sym c.cmp.ensures ∙ c.in-Less.is in
    lower_valid meaning rrsig octets set keys n key numbered c.in-Some-lowest.lowest c.in-Some.found
    (subst Lowest c.in-Some-lowest.is lowest) (subst Found c.in-Some.is found) cc

pub returns-in-Equal : goal.returns-in-Equal
returns-in-Equal c = λ meaning rrsig octets set keys n key numbered lowest found.
    let Found : Option DnskeyRecord → Type 0 = λ each. IsValidKey meaning rrsig octets set key each in
    let Lowest : Option DnskeyRecord → Type 0 = λ each. IsLowestValid meaning rrsig octets set keys n each in
    not_lower_valid meaning rrsig octets set keys n key numbered c.in-Some-lowest.lowest c.in-Some.found
    (subst Lowest c.in-Some-lowest.is lowest) (subst Found c.in-Some.is found)
    (λ less.
    let a = c.rdata.ensures in
    let b = c.rdata-2.ensures in
    let is : rdata_cmp c.rdata.result.now c.rdata-2.result.now ≡ Equal = sym c.cmp.ensures ∙ c.in-Equal.is in cc)

pub returns-in-Greater : goal.returns-in-Greater
returns-in-Greater c = λ meaning rrsig octets set keys n key numbered lowest found.
    let Found : Option DnskeyRecord → Type 0 = λ each. IsValidKey meaning rrsig octets set key each in
    let Lowest : Option DnskeyRecord → Type 0 = λ each. IsLowestValid meaning rrsig octets set keys n each in
    not_lower_valid meaning rrsig octets set keys n key numbered c.in-Some-lowest.lowest c.in-Some.found
    (subst Lowest c.in-Some-lowest.is lowest) (subst Found c.in-Some.is found)
    (λ less.
    let a = c.rdata.ensures in
    let b = c.rdata-2.ensures in
    let is : rdata_cmp c.rdata.result.now c.rdata-2.result.now ≡ Greater = sym c.cmp.ensures ∙ c.in-Greater.is in cc)
