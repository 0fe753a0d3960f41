-- What is so of the RRsets of some records is one.
use Rattle.std.proofs.Common.{ℕ, List, subst}
use Rattle.std.specs.List.{AllZip}
use Rattle.dnsv_canonical.specs.declared.number.RecordNumber.{RecordNumber}
use Rattle.dnsv_chain.specs.Basis.{Basis}
use Rattle.dnsv_mending.specs.declared.facts.signature.RrsetFacts.{RrsetFacts}
use Rattle.dnsv_faults.specs.Rrsets.{AreRrsetFacts}
use Rattle.dnsv_gaps.specs.Parts.{AreFactsOf, HasSuch}
use Rattle.dnsv_remedy_laws.specs.AlikeZones.{AreAlikeRrsets}
use Rattle.dnsv_reasons.proofs.lemmas.facts.RrsetLemmas.{one_rrset_facts}
use Rattle.dnsv_reasons.proofs.lemmas.questions.ListLemmas.{one_of_numbers}

module _ (basis : Basis) where
  pub one_part : (Such : RecordNumber → Type 0) (a b : List RrsetFacts) → AreFactsOf basis Such a → AreFactsOf basis Such b
      → AllZip AreAlikeRrsets a b
  one_part Such a b x y =
      let Is : RrsetFacts → Type 0 = λ each. AreRrsetFacts basis each.number each in
      let At : ℕ → RrsetFacts → Type 0 = λ k each. AreRrsetFacts basis k each in
      one_of_numbers (λ (each : RrsetFacts). each.number) (HasSuch Such) Is AreAlikeRrsets
      (λ c d same p q. one_rrset_facts basis d.number c d (subst (λ k. At k c) same p) q) a b
      (record { rising = x.rising; each = x.each; members = x.members }) (record { rising = y.rising; each = y.each; members = y.members })
