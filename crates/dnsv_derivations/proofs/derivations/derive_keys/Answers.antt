use Rattle.std.proofs.Common.{ℕ, List, Option, subst, sym}
use Rattle.dnsv_derivations.specs.Explained.{setting_in}
use Rattle.dnsv_derivations.specs.derivations.Climb.{IsUpTo}
use Rattle.dnsv_derivations.specs.derivations.Derivations.{IsDerivation}
use Rattle.dnsv_derivations.specs.derivations.Derivations.Subject.{keys}
use Rattle.dnsv_lines.specs.declared.line.Line.{Line}
use Rattle.dnsv_derivations.proofs.derivations.derive_keys.Goals as goal

pub returns : goal.returns
returns c =
    let setting = setting_in c.args.evidence.now in
    let UpTo : Option ℕ → Type 0 = λ next. IsUpTo setting c.args.before.now c.args.number c.loop-next.lines.items next in
    let Derives : List Line → Type 0 = λ lines. IsDerivation setting c.args.before.now (keys c.args.number) lines in
    subst Derives (sym c.reverse.ensures.items) (subst UpTo c.in_default.is c.loop-next.invariant)
