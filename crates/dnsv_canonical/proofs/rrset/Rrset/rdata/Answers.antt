use Rattle.std.proofs.Common.{ap, arith, get_or, length, subst, sym, []}
use Rattle.std.proofs.lemmas.List.{length-map}
use Rattle.std.specs.Borrow.{Bor}
use Rattle.std.specs.Prelude.{List, ℕ}
use Rattle.std.specs.List.{AllByRecursion}
use Rattle.dnsv_canonical.specs.Rdata.{IsRdata}
use Rattle.dnsv_canonical.proofs.ListLemmas.{each_borrowed}
use Rattle.dnsv_canonical.proofs.rrset.Rrset.rdata.Goals as goal

pub returns-clause-well_formed : goal.returns-clause-well_formed
returns-clause-well_formed c =
    subst (λ rtype. IsRdata rtype (get_or c.rdata.result.now c.args.place (record { ref_ptr = (0, 0); now = [] })).now) (ap (λ rrset. rrset.rtype) c.self.view_is)
    (each_borrowed (IsRdata c.self.inside.received.rtype) c.rdata.result.now c.args.place _
    (subst (AllByRecursion (IsRdata c.self.inside.received.rtype)) (sym c.rdata.ensures) c.self.invariant.well_formed.each_rdata)
    (omega (arith, c.requires, ap (λ rrset. length rrset.rdata) c.self.view_is, ap length c.rdata.ensures, length-map c.rdata.result.now (λ (r : Bor (List ℕ)). r.now))))
