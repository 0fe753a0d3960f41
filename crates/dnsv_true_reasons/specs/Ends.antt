-- Why a signer isn't trusted, as lines of what fails tell it (RFC 4035 5).
use Rattle.std.specs.Prelude.{◌≡◌, ◌⊎◌, ℕ, List, Contains}
use Rattle.dnsv_names.specs.Name.{Labels, SameName, IsAtOrBelow}
use Rattle.dnsv_canonical.specs.Rrsets.{ReceivedRrset}
use Rattle.dnsv_chain.specs.Trusted.{IsTrusted}
use Rattle.dnsv_lines.specs.declared.line.Line.{Line}
use Rattle.dnsv_lines.specs.declared.line.Line.TheVariants as line
use Rattle.dnsv_lines.specs.declared.line.fault.Reason.{Reason}
use Rattle.dnsv_lines.specs.declared.line.fault.Reason.TheVariants as reason
use Rattle.dnsv_chain.specs.Basis.{Basis}
use Rattle.dnsv_gaps.specs.Asking.{Asking}

-- an RRset of the type at the owner is a DNSKEY RRset of the zone, or a DS RRset that leads to it
pub record LeadsToKeys (rtype : ℕ) (owner zone : Labels) : Type 0 where
  pub its_type : (rtype ≡ 48) ⊎ (rtype ≡ 43)
  pub at : SameName owner zone

-- what fails is said of the zone: of the zone itself, of a trust anchor or a DS record of it, of a key of it, or of a DNSKEY or DS
-- RRset there or a signature of one
abbrev pub IsSaidOf : Reason → Labels → Type 0
IsSaidOf (reason.Zone fault) zone = SameName fault.zone zone
IsSaidOf (reason.Entry fault) zone = SameName fault.entry.zone zone
IsSaidOf (reason.NotSelfSigned key) zone = SameName key.zone zone
IsSaidOf (reason.NotVouched keys) zone = SameName keys.zone zone
IsSaidOf (reason.Unsigned unsigned) zone = LeadsToKeys unsigned.rtype.0 unsigned.owner zone
IsSaidOf (reason.Signature fault) zone = LeadsToKeys fault.signature.rtype.0 fault.signature.owner zone
IsSaidOf _ zone = ⊥

-- a DNSKEY RRset of the zone is trusted
abbrev pub IsTrustedZone : Basis → Labels → Type 0
IsTrustedZone basis zone =
    (set : ReceivedRrset) × IsTrusted basis.meaning basis.moment basis.rrsets basis.anchors set × SameName set.owner zone

-- the zone isn't trusted, and the lines tell why: a reason is said of it or of a zone above
pub record IsExplained (a : Asking) (lines : List Line) (zone : Labels) : Type 0 where
  pub untrusted : ¬ IsTrustedZone a.basis zone
  pub reason : Reason
  pub told : Contains lines (line.Reason reason)
  pub above : Labels
  pub is : IsAtOrBelow zone above
  pub said : IsSaidOf reason above
