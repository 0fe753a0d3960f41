-- The lines of a name that may be unsigned: what shows it, the case, and the proof with its parts (RFC 4035 5.2,
-- RFC 5155 8.6, 9.2).
use Rattle.std.specs.Prelude.{List}
use Rattle.dnsv_names.specs.Name.{Labels, rightmost}
use Rattle.dnsv_chain.specs.Trust.{KeptTrust, SecuredIn}
use Rattle.dnsv_denial.specs.unsigned_cuts.ShownCut.{IsShownCut}
use Rattle.dnsv_denial.specs.declared.unsigned_cuts.shown_cut.ShownCut.{ShownCut}
use Rattle.dnsv_denial.specs.declared.unsigned_cuts.shown_cut.ShownCut.TheVariants as cut
use Rattle.dnsv_derivations.specs.Explained.{Setting}
use Rattle.dnsv_derivations.specs.Denials.{IsDenialTold}
use Rattle.dnsv_derivations.specs.derivations.OwnDerivations.{IsTrustIn}
use Rattle.dnsv_derivations.specs.unsigned_cuts.UnsignedCuts.{IsUnusableTold}
use Rattle.dnsv_lines.specs.declared.line.Line.{Line}

-- the evidence shows from which name on the name may be unsigned, by the trust of the setting
abbrev pub IsCutShownBy : Setting → Labels → ShownCut → Type 0
IsCutShownBy setting name shown =
    (trust : KeptTrust) × IsTrustIn setting trust × IsShownCut (SecuredIn trust) setting.rrsets name shown

-- from which name on the name may be unsigned, and what shows it
abbrev pub IsCutTold : Setting → Labels → ShownCut → List Line → List Line → Type 0
IsCutTold setting name (cut.NoDs labels shown) = IsDenialTold setting name shown
IsCutTold setting name (cut.NoUsableDs labels) = IsUnusableTold setting (rightmost name labels)
IsCutTold setting name (cut.OptOut labels shown) = IsDenialTold setting name shown
