use Rattle.std.proofs.Common.{List, ℕ, subst, sym}
use Rattle.std.specs.List.{AllByRecursion, AllZip}
use Rattle.std.specs.Prelude.{Contains}
use Rattle.dnsv_chain.specs.Basis.{basis_by}
use Rattle.dnsv_faults.specs.Rrsets.{AreRrsetFacts}
use Rattle.dnsv_gaps.specs.Parts.{IsRrset}
use Rattle.dnsv_gaps.proofs.PartLemmas.{facts_from, such_rrsets}
use Rattle.dnsv_gaps.proofs.parts.facts_of_numbers.Goals as goal

pub facts_of_rrsets-requires : goal.facts_of_rrsets-requires
facts_of_rrsets-requires c =
    subst (λ (ks : List ℕ). AllByRecursion (IsRrset c.args.facts.now.rrsets) ks) (sym c.deref.ensures.value)
    (such_rrsets c.args.facts.now.rrsets c.args.numbers.now c.in_ok-rrsets.rrsets.items c.requires c.in_ok-rrsets.ensures.members)

pub returns : goal.returns
returns c =
    facts_from (basis_by c.args.facts.now) (Contains c.args.numbers.now) c.in_ok-rrsets.rrsets.items
    c.in_ok-facts_of_rrsets.field-0.items c.in_ok-rrsets.ensures.order c.in_ok-rrsets.ensures.members
    (subst (λ (ks : List ℕ). AllZip (AreRrsetFacts (basis_by c.args.facts.now)) ks c.in_ok-facts_of_rrsets.field-0.items) c.deref.ensures.value
    c.in_ok-facts_of_rrsets.ensures)
