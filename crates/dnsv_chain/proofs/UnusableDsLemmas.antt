-- What a DS RRset's records are, as they were read.
use Rattle.std.proofs.Common.{◌≡◌, ℕ, Bool, false, List, [], ◌∷◌, length, ◌==◌, if◌then◌else◌, refl, ap, subst, inl}
use Rattle.std.specs.Prelude.{Contains}
use Rattle.std.specs.List.{AllZip}
use Rattle.std.proofs.lemmas.Bool.Decides.{Decides-eqb}
use Rattle.dnsv_names.specs.Name.{Labels}
use Rattle.dnsv_records.specs.Ds.{IsDs}
use Rattle.dnsv_records.specs.declared.ds.Ds.{Ds}
use Rattle.dnsv_canonical.proofs.CanonicalLemmas.{Contains-from_member}
use Rattle.dnsv_canonical.specs.Rdata.{rdata_of_type}
use Rattle.dnsv_canonical.specs.Rrsets.{ReceivedRrset}
use Rattle.dnsv_anchors.specs.Ds.{HasUsable}
use Rattle.dnsv_chain.specs.UnusableDs.{IsUnusableDs}
use Rattle.dnsv_chain.proofs.ChainLemmas.{same_ds}

its_rdata : (rrset : ReceivedRrset) → rrset.rtype ≡ 43 → rdata_of_type 43 rrset ≡ rrset.rdata
its_rdata rrset is = ap (λ (b : Bool). if b then rrset.rdata else []) ((Decides-eqb rrset.rtype 43).1 is)

pub ds_read : (rrset : ReceivedRrset) (records : List Ds) → rrset.rtype ≡ 43 → AllZip IsDs (rdata_of_type 43 rrset) records → AllZip IsDs rrset.rdata records
ds_read rrset records is each = subst (λ (rdata : List (List ℕ)). AllZip IsDs rdata records) (its_rdata rrset is) each

-- none of the records that were read is usable
pub none_usable : (Secured : ℕ → Type 0) (rrset : ReceivedRrset) (name : Labels) (records : List Ds) → AllZip IsDs (rdata_of_type 43 rrset) records
    → IsUnusableDs Secured rrset name → ¬ HasUsable records
none_usable Secured rrset name records each is =
    subst (λ (list : List Ds). ¬ HasUsable list) (same_ds rrset.rdata is.records records is.read (ds_read rrset records is.rtype each)) is.none

pub some_number : (xs : List ℕ) (empty : Bool) → empty ≡ (length xs == 0) → empty ≡ false → (s : ℕ) × Contains xs s
some_number [] empty test fails = let bad : ⊥ = cc in absurd bad
some_number (x ∷ xs) empty test fails = (x, Contains-from_member (x ∷ xs) x (inl refl))
