-- the table is that of the verifier
use Rattle.std.proofs.Common.{length, ap}
use Rattle.dnsv_verifier.specs.Table.{TableContents}
use Rattle.dnsv_verdict.proofs.ReportLemmas.{number_asked}
use Rattle.dnsv_chain.specs.Basis.{Basis, basis_of}
use Rattle.dnsv_verdict.proofs.case.Case.new.Goals as goal

pub returns-clause-of : goal.returns-clause-of
returns-clause-of g c =
    let basis : Basis = basis_of c.args.capture.now.rrsets c.args.anchors.now c.args.moment (g.V.Verifier.meaning c.args.verifier.now) in
    c.in_ok-case.ensures.basis basis.meaning basis.moment basis.rrsets c.in_ok-table.ensures.table

pub returns-clause-asked : goal.returns-clause-asked
returns-clause-asked g c =
    number_asked (g.V.Verifier.meaning c.args.verifier.now) c.args.moment c.args.capture.now.rrsets c.in_ok-table.table _ c.in_ok-table.ensures.table
    (ap (λ (table : TableContents). length table.answers) c.in_ok-case.ensures.of.table)
