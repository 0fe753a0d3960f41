use Rattle.std.proofs.Common.{◌+◌, ◌-◌, ◌++◌, take, drop, refl, sym, ◌∙◌, arith}
use Rattle.dnsv_names.specs.Name.{wire}
use Rattle.dnsv_message.proofs.RdataLemmas.{head_fits, NamesRead-start, NamesRead-next, NamesRead-missing, NamesRead-tail, NamesRead-found}
use Rattle.dnsv_message.proofs.FollowLemmas.RdataFollowed.{same_by_test, differ_by_test}
use Rattle.dnsv_message.proofs.rdata_ref.is_laid_out.Goals as goal

pub returns-then-size-layout-clause-none : goal.returns-then-size-layout-clause-none
returns-then-size-layout-clause-none c = λ no rdata at.
    omega (arith, c.if-size-layout.true, head_fits c.args.octets.now c.args.layout c.args.start c.args.size rdata at)

pub loop-read-init : goal.loop-read-init
loop-read-init c =
    let head = take (c.args.start + c.args.layout.head - c.args.start) (drop c.args.start c.args.octets.now) in
    (head, NamesRead-start c.args.octets.now c.args.layout c.args.start c.args.size head (omega (arith, c.if-size-layout.false)) refl)

pub returns-in_default-clause-none : goal.returns-in_default-clause-none
returns-in_default-clause-none c = λ no.
    NamesRead-missing c.args.octets.now c.args.layout c.args.start c.args.size c.loop-read.place c.loop-read.invariant.0 c.loop-read.read c.loop-read.invariant.1
    (λ i. omega (arith, c.type_inv.octets i)) c.loop-read-test.true c.in_default.ensures

pub loop-read-preserved : goal.loop-read-preserved
loop-read-preserved c =
    let written = c.loop-read.invariant.0 in
    let name = c.in-Some.ensures.0 in (
      written ++ wire name,
      NamesRead-next c.args.octets.now c.args.layout c.args.start c.args.size c.loop-read.place written c.loop-read.read c.loop-read.invariant.1
          name c.in-Some.end (written ++ wire name) c.loop-read-test.true c.in-Some.ensures.1 refl,
    )

pub returns-clause-stands : goal.returns-clause-stands
returns-clause-stands c = λ yes.
    let written = c.loop-read.invariant.0 in
    let all = written ++ take (c.args.start + c.args.size - c.loop-read.place) (drop c.loop-read.place c.args.octets.now) in (
      all,
      NamesRead-found c.args.octets.now c.args.layout c.args.start c.args.size c.loop-read.place written c.loop-read.read c.loop-read.invariant.1
          all (omega (arith, c.loop-read-test.false, c.loop-read.auto.read-end)) (sym c.unwrap_or.ensures ∙ same_by_test _ _ yes) refl,
    )

pub returns-clause-none : goal.returns-clause-none
returns-clause-none c = λ no.
    NamesRead-tail c.args.octets.now c.args.layout c.args.start c.args.size c.loop-read.place c.loop-read.invariant.0 c.loop-read.read c.loop-read.invariant.1
    (λ i. omega (arith, c.type_inv.octets i)) (omega (arith, c.loop-read-test.false, c.loop-read.auto.read-end))
    (λ same. differ_by_test _ _ no (c.unwrap_or.ensures ∙ same))
