use Rattle.std.proofs.Common.{◌≡◌, Bor, List, ℕ, IfOk, sym, ap, subst, ◌∙◌, map}
use Rattle.std.specs.Option.{option_copied}
use Rattle.dnsv_canonical.specs.Rrsets.{first_appearances}
use Rattle.std.specs.Str.{bytes_eq}
use Rattle.dnsv_canonical.proofs.ByRrsetLemmas.{rdata_found, octets_of}
use Rattle.dnsv_canonical.proofs.by_rrset.distinct_rdata.Goals as goal

pub returns-in_default-clause-once : goal.returns-in_default-clause-once
returns-in_default-clause-once c =
    ap (map (λ r. r.now)) c.new.ensures.items
    ∙ ap (first_appearances bytes_eq) (ap (λ o. octets_of (option_copied o)) (sym c.in_default.is) ∙ ap octets_of c.get.ensures.value ∙ rdata_found c.args.by_rrset.now (c.args.rtype, record { 0 = c.args.owner }))

pub returns-clause-once : goal.returns-clause-once
returns-clause-once c =
    subst (λ rs. IfOk c.each_once.result (λ first_ones. map (λ r. r.now) first_ones.items ≡ first_appearances bytes_eq rs))
    (
    ap (map (λ (r : Bor (List ℕ)). r.now)) (c.in_ok-from_slice.ensures.items ∙ c.deref.ensures.value)
    ∙ ap (λ o. octets_of (option_copied o)) (sym c.in-Some.is) ∙ ap octets_of c.get.ensures.value ∙ rdata_found c.args.by_rrset.now (c.args.rtype, record { 0 = c.args.owner })
    ) c.each_once.ensures
