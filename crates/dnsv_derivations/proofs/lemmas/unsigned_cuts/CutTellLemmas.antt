-- The lines of a name that may be unsigned, by what shows it.
use Rattle.std.proofs.Common.{◌≤◌, ℕ, length}
use Rattle.dnsv_names.specs.Name.{Labels, rightmost}
use Rattle.dnsv_chain.specs.Trust.{KeptTrust, SecuredIn}
use Rattle.dnsv_denial.specs.unsigned_cuts.ShownCut.{IsShownCut}
use Rattle.dnsv_denial.specs.unsigned_cuts.ShownCut.IsShownCut.{no_ds, no_usable_ds, opt_out}
use Rattle.dnsv_denial.specs.declared.unsigned_cuts.shown_cut.ShownCut.{ShownCut}
use Rattle.dnsv_denial.specs.declared.unsigned_cuts.shown_cut.ShownCut.TheVariants as cut
use Rattle.dnsv_derivations.specs.Denials.{IsShownDenial}
use Rattle.dnsv_derivations.specs.Denials.IsShownBy.{no_ds as delegation_shown, opted_out}
use Rattle.dnsv_derivations.specs.Explained.{Setting}
use Rattle.dnsv_derivations.specs.derivations.OwnDerivations.{IsTrustIn}
use Rattle.dnsv_derivations.specs.unsigned_cuts.ShownCuts.{IsCutShownBy}
use Rattle.dnsv_derivations.specs.unsigned_cuts.UnsignedCuts.{IsUnusableSet}
use Rattle.dnsv_derivations.proofs.lemmas.denials.TrustLemmas.{kept_good}

module _ (setting : Setting) (name : Labels) where
  -- what each of the cuts rests on
  abbrev pub IsCutShown : ShownCut → Type 0
  IsCutShown (cut.NoDs labels shown) = IsShownDenial setting name shown
  IsCutShown (cut.NoUsableDs labels) = (labels ≤ length name) × (k : ℕ) × IsUnusableSet setting (rightmost name labels) k
  IsCutShown (cut.OptOut labels shown) = IsShownDenial setting name shown

  shown_by : (trust : KeptTrust) → IsTrustIn setting trust → (each : ShownCut) → IsShownCut (SecuredIn trust) setting.rrsets name each → IsCutShown each
  shown_by trust good each (no_ds labels shown fewest is) = (trust, good, delegation_shown labels is)
  shown_by trust good each (no_usable_ds labels none fewest) =
      let unusable = fewest.holds in (
        unusable.at_or_above,
        unusable.k,
        record {
          ds = unusable.rrset;
          is_ds = unusable.is_rrset;
          rtype = unusable.rtype;
          owner = unusable.owner;
          secured = (unusable.signature, kept_good setting trust good unusable.k unusable.signature unusable.secured);
          records = unusable.records;
          read = unusable.read;
          none = unusable.none;
        },
      )
  shown_by trust good each (opt_out labels shown no_delegation no_unusable most is) = (trust, good, opted_out labels is)

  pub cut_shown : (each : ShownCut) → IsCutShownBy setting name each → IsCutShown each
  cut_shown each is = shown_by is.0 is.1 each is.2
