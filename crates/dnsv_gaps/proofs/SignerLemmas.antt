-- The signers of RRsets that may deny.
use Rattle.std.proofs.Common.{◌↔◌, ℕ, Bool, false, List, IsTrue, refl, sym}
use Rattle.std.proofs.lemmas.Bool.{false≢true}
use Rattle.std.specs.List.{AllZip}
use Rattle.dnsv_names.specs.Name.{Labels}
use Rattle.dnsv_names.specs.Tree.TreeLaws.{at_or_below_respects, below_respects}
use Rattle.dnsv_records.specs.Rrsig.{IsRrsig}
use Rattle.dnsv_records.specs.declared.rrsig.Rrsig.{Rrsig}
use Rattle.dnsv_canonical.specs.Rrsets.{ReceivedRrset}
use Rattle.dnsv_faults.proofs.lemmas.KnownLemmas.{read_in, read_of}
use Rattle.dnsv_faults.specs.KnownZones.{IsFromAbove}
use Rattle.dnsv_gaps.specs.DenialSearch.{HasOneBy, HasSignerAbove, HasSpeaker}
use Rattle.dnsv_gaps.specs.Denials.{HasSigner, IsStray}

module _ (rrset : ReceivedRrset) (rrsigs : List Rrsig) (each : AllZip IsRrsig rrset.signatures rrsigs) where
  pub one_speaking : (name : Labels) (t : ℕ) (from_above : Bool) → (IsTrue from_above ↔ IsFromAbove t rrset)
      → HasSignerAbove rrsigs name from_above ↔ HasSpeaker name t rrset
  one_speaking name t from_above test = (
    λ one. (
      one.rrsig.signer,
      record {
        rrsig = one.rrsig;
        its = read_of rrset rrsigs each one.rrsig one.among;
        signer = refl;
        above = one.above.at;
        properly = λ from. one.above.properly (test.1 from);
      },
    ),
    λ has.
        let zone : Labels = has.0 in
        let speaks = has.1 in record {
          rrsig = speaks.rrsig;
          among = read_in rrset rrsigs each speaks.rrsig speaks.its;
          above = record {
            at = at_or_below_respects name name zone speaks.rrsig.signer refl (sym speaks.signer) speaks.above;
            properly = λ yes. below_respects name name zone speaks.rrsig.signer refl (sym speaks.signer) (speaks.properly (test.0 yes));
          };
        },
  )

  pub one_by : (zone : Labels) → HasOneBy rrsigs zone ↔ HasSigner rrset zone
  one_by zone = (
    λ one. record { rrsig = one.rrsig; its = read_of rrset rrsigs each one.rrsig one.among; signer = one.signer },
    λ has. record { rrsig = has.rrsig; among = read_in rrset rrsigs each has.rrsig has.its; signer = has.signer },
  )

  -- none at or above the owner
  pub none_above : ¬ HasSignerAbove rrsigs rrset.owner false → IsStray rrset
  none_above never rrsig its above = never (record { rrsig = rrsig; among = read_in rrset rrsigs each rrsig its; above = record { at = above; properly = λ yes. absurd (false≢true yes) } })

  pub not_stray : HasSignerAbove rrsigs rrset.owner false → ¬ IsStray rrset
  not_stray one stray = stray one.rrsig (read_of rrset rrsigs each one.rrsig one.among) one.above.at
