use Rattle.std.proofs.Common.{◌+◌, List, ℕ, subst, sym, take}
use Rattle.std.proofs.lemmas.List.{get_or_default, take_all}
use Rattle.std.proofs.lemmas.List.Elements.{Contains-get_or}
use Rattle.std.specs.List.{AllZip}
use Rattle.dnsv_canonical.proofs.OrderLemmas.{each_of}
use Rattle.dnsv_chain.proofs.ZipLemmas.{zip_more}
use Rattle.dnsv_chain.specs.Basis.{basis_by}
use Rattle.dnsv_mending.specs.declared.facts.signature.RrsetFacts.{RrsetFacts}
use Rattle.dnsv_faults.specs.Rrsets.{AreRrsetFacts}
use Rattle.dnsv_gaps.specs.Parts.{IsRrset}
use Rattle.dnsv_gaps.proofs.parts.facts_of_rrsets.Goals as goal

pub facts_of_rrset-requires : goal.facts_of_rrset-requires
facts_of_rrset-requires c =
    each_of (IsRrset c.args.facts.now.rrsets) c.args.rrsets.now _ c.requires
    (Contains-get_or c.args.rrsets.now c.loop-number.number-index 0 c.loop-number-test.true)

pub loop-number-preserved : goal.loop-number-preserved
loop-number-preserved c =
    subst (λ (each : List RrsetFacts). AllZip (AreRrsetFacts (basis_by c.args.facts.now)) (take (c.loop-number.number-index + 1) c.args.rrsets.now) each)
    (sym c.in_ok-push.ensures.items)
    (zip_more (AreRrsetFacts (basis_by c.args.facts.now)) c.args.rrsets.now c.loop-number.found.items c.loop-number.number-index _ _
    c.loop-number-test.true (get_or_default c.args.rrsets.now c.loop-number.number-index 0 _ c.loop-number-test.true) c.loop-number.invariant c.in_ok-facts_of_rrset.ensures)

pub returns : goal.returns
returns c =
    subst (λ (ks : List ℕ). AllZip (AreRrsetFacts (basis_by c.args.facts.now)) ks c.loop-number.found.items)
    (take_all c.loop-number.number-index c.args.rrsets.now c.loop-number-test.false) c.loop-number.invariant
