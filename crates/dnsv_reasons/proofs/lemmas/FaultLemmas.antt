-- What fails is told by reasons, and by signers that aren't trusted.
use Rattle.std.proofs.Common.{◌≡◌, inl, inr, List, [], ◌∷◌, sym, subst}
use Rattle.std.specs.List.{AllByRecursion}
use Rattle.dnsv_gaps.specs.Asking.{Asking}
use Rattle.dnsv_lines.specs.declared.line.Line.{Line}
use Rattle.dnsv_lines.specs.declared.line.Line.TheVariants as line
use Rattle.dnsv_mending.specs.declared.told.Told.{Told}
use Rattle.dnsv_mending.specs.declared.told.Told.TheVariants as told
use Rattle.dnsv_reasons.specs.Failures.{AreFailures}
use Rattle.dnsv_reasons.specs.Lines.{AreSaidLines, IsSaidLine}
use Rattle.dnsv_trust_reasons.specs.TrustLines.{IsTrustLine}
use Rattle.dnsv_remedies.specs.declared.said.Said.{Said}
use Rattle.dnsv_remedies.specs.declared.said.Said.TheVariants as told_of

-- the line says what fails
abbrev pub IsFault : Line → Type 0
IsFault (line.Reason reason) = Unit {0}
IsFault (line.Follows untrusted) = Unit {0}
IsFault _ = ⊥

module _ (a : Asking) where
  is_fault : (said one : Line) → said ≡ one → IsFault one → IsFault said
  is_fault said one is fault = subst IsFault (sym is) fault

  trust_fault : (fault : Told) (said : Line) → IsTrustLine a.basis a.name fault said → IsFault said
  trust_fault (told.NotSelfSigned number) said is = is_fault said _ is.4 tt
  trust_fault other said is = is_fault said _ is.2 tt

  said_fault : (fault : Said) (said : Line) → IsSaidLine a fault said → IsFault said
  said_fault (told_of.Trust fault) said is = trust_fault fault said is
  said_fault (told_of.NoCloser number n) said is = is_fault said _ is.4 tt
  said_fault (told_of.Source why number asked) said is = is_fault said _ is.4 tt
  said_fault (told_of.DsUnproved cut) said is = is_fault said _ is.4 tt
  said_fault other said is = is_fault said _ is.2 tt

  all_faults : (faults : List Said) (lines : List Line) → AreSaidLines a faults lines → AllByRecursion IsFault lines
  all_faults [] lines are = subst (AllByRecursion IsFault) (sym are) tt
  all_faults (fault ∷ others) lines (inl x) =
      subst (AllByRecursion IsFault) (sym x.4) (said_fault fault x.0 x.2, all_faults others x.1 x.3)
  all_faults (fault ∷ others) lines (inr x) = all_faults others lines x.1

  pub failures_fault : (lines : List Line) → AreFailures a lines → AllByRecursion IsFault lines
  failures_fault lines are = all_faults are.told lines are.said
