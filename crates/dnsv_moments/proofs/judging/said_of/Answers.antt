use Rattle.std.proofs.Common.{List, string_bytes, subst}
use Rattle.dnsv_lines.specs.declared.line.Line.{Line}
use Rattle.dnsv_moments.specs.validity.Said.{AreShownIn}
use Rattle.dnsv_moments.proofs.SayingLemmas.{said_is}
use Rattle.dnsv_moments.proofs.judging.said_of.Goals as goal

pub returns : goal.returns
returns c = λ basis name t same derived.
    let Shown : List Line → Type 0 = λ lines. AreShownIn lines c.in_ok-by.by.items in
    said_is c.args.format basis name t c.args.rrsets.now c.args.derivation.now.outcome c.args.derivation.now.lines.items
    (record { kind = c.in_ok-kind.kind; text = string_bytes c.in_ok-kind.text }) c.in_ok-by.by.items c.new.result same derived
    c.in_ok-kind.ensures (subst Shown c.deref.ensures.value c.in_ok-by.ensures) c.new.ensures
