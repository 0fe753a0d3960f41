use Rattle.dnsv_chain.specs.Basis.{basis_of}
use Rattle.dnsv_asking.proofs.judging.Judging.by_table.Goals as goal

pub of-requires-then-why : goal.of-requires-then-why
of-requires-then-why c =
    let basis = c.requires.0 in (
      basis_of basis.rrsets c.args.anchors.now basis.moment basis.meaning,
      c.in_ok-case.ensures.basis basis.meaning basis.moment basis.rrsets c.requires.1,
    )

pub returns-clause-case : goal.returns-clause-case
returns-clause-case c = λ meaning moment rrsets is.
    rw c.of-2.ensures (c.in_ok-case.ensures.basis meaning moment rrsets is)
