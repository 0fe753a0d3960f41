use Rattle.std.proofs.Common.{List, subst}
use Rattle.dnsv_gaps.specs.Asking.{asking_of}
use Rattle.dnsv_remedies.specs.declared.said.Said.{Said}
use Rattle.dnsv_reasons.specs.Lines.{AreSaidLines}
use Rattle.dnsv_reasons.proofs.failing.failures.Goals as goal

pub returns : goal.returns
returns c =
    let lines = c.in_ok-lines.lines.items in
    let Of : List Said → Type 0 = λ told. AreSaidLines (asking_of c.args.facts.now c.args.name.now c.args.rtype.0) told lines in record {
      told = c.in_ok-told.told.items;
      are_told = c.in_ok-told.ensures;
      said = subst Of c.deref-2.ensures.value c.in_ok-lines.ensures;
    }
