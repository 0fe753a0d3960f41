-- A question is derived by one list of lines.
use Rattle.std.proofs.Common.{◌≡◌, ℕ, List, [], subst}
use Rattle.dnsv_names.specs.Name.{Labels}
use Rattle.dnsv_verifier.proofs.TableLemmas.{only_table}
use Rattle.dnsv_verifier.specs.Table.{TableContents}
use Rattle.dnsv_chain.specs.Basis.{Basis}
use Rattle.dnsv_verdict.specs.Way.{IsVerdictOf}
use Rattle.dnsv_verdict.specs.declared.link.Link.{Link}
use Rattle.dnsv_verdict.specs.declared.verdict.Verdict.{Verdict}
use Rattle.dnsv_verdict.specs.declared.verdict.Verdict.TheVariants.{Bogus, Indeterminate}
use Rattle.dnsv_derivations.specs.Explained.{Explained}
use Rattle.dnsv_holding.specs.Derived.{AreLinksDerived, AreLinksTold, IsDerivationOf, IsDerivationTold, explained_with}
use Rattle.dnsv_lines.specs.declared.line.Line.{Line}
use Rattle.dnsv_derivations.proofs.lemmas.one.TrustedLemmas.{AreApart}
use Rattle.dnsv_explain_laws.proofs.holding.one.HoldingLemmas.{NeedsApart, needs_apart, none_apart, one_links, one_way}

module _ (explained : Explained) (none : AreApart explained.todo) (t : ℕ) (links : List Link) (last : Labels) where
  one_derivation_told : (verdict : Verdict) → NeedsApart explained none t verdict → (a b : List Line)
      → IsDerivationTold explained t links last verdict a → IsDerivationTold explained t links last verdict b → a ≡ b
  one_derivation_told Bogus apart a b x y = one_links explained none t links [] a b x y
  one_derivation_told Indeterminate apart a b x y = one_links explained none t links [] a b x y
  one_derivation_told verdict apart a b x y = one_way explained none t links last verdict apart [] a b x y

-- a verdict has one derivation
pub one_derivation : (basis : Basis) (name : Labels) (t : ℕ) (links : List Link) (last : Labels) (verdict : Verdict) (a b : List Line)
    → IsVerdictOf basis name t links last verdict → IsDerivationOf basis t links last verdict a
    → IsDerivationOf basis t links last verdict b → a ≡ b
one_derivation basis name t links last verdict a b is x y =
    let table : x.table ≡ y.table = only_table basis.meaning basis.moment basis.rrsets x.table x.of y.table y.of in
    let Of : TableContents → Type 0 = λ each. IsDerivationTold (explained_with basis each) t links last verdict a in
    let explained = explained_with basis y.table in
    one_derivation_told explained none_apart t links last verdict
    (needs_apart explained none_apart basis last t verdict is.is_verdict) a b (subst Of table x.told) y.told

-- and so have links
pub one_links_derived : (basis : Basis) (links : List Link) (a b : List Line) → AreLinksDerived basis links a
    → AreLinksDerived basis links b → a ≡ b
one_links_derived basis links a b x y =
    let table : x.table ≡ y.table = only_table basis.meaning basis.moment basis.rrsets x.table x.of y.table y.of in
    let Of : TableContents → Type 0 = λ each. AreLinksTold (explained_with basis each) links a in
    one_links (explained_with basis y.table) none_apart 0 links [] a b (subst Of table x.told) y.told
