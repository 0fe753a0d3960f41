use Rattle.std.proofs.Common.{◌↔◌, ℕ, IsTrue, subst}
use Rattle.std.specs.List.{AllZip, enumerate_from}
use Rattle.dnsv_names.specs.Name.{rightmost}
use Rattle.dnsv_gaps.specs.Asking.{asking}
use Rattle.dnsv_gaps.specs.Denials.{IsDenialNumber}
use Rattle.dnsv_gaps.specs.Sources.{AreSources}
use Rattle.dnsv_gaps.specs.Speakers.{AreSourceFacts}
use Rattle.dnsv_gaps.specs.Unusable.{AreUnusable}
use Rattle.dnsv_gaps.proofs.speakers.zone_facts.Goals as goal

pub returns-clause-facts : goal.returns-clause-facts
returns-clause-facts c =
    let a = asking c.args.question.now in
    let name = c.args.question.now.name.now in
    let zone = c.in_ok-zone.zone in
    let same = c.in_ok-zone.ensures.labels in
    let are = c.in_ok-zone.ensures.denials in
    let told = c.in_ok-sources.ensures in record {
      within = c.requires.within;
      denials = subst (λ (n : ℕ). IsTrue zone.has_denials ↔ ((k : ℕ) × IsDenialNumber a (rightmost name n) k)) same are.has_denials;
      chains = told.chains;
      are_sources = subst (λ (n : ℕ). AreSources a (rightmost name n) told.chains) same told.are_sources;
      sources = subst (λ (n : ℕ). AllZip (AreSourceFacts a (rightmost name n)) (enumerate_from 0 told.chains) c.in_ok-sources.sources.items) same
          told.each;
      unusable = subst (λ (n : ℕ). AreUnusable a (rightmost name n) zone.unusable.items) same are.unusable;
    }
