-- What is told of a zone is so of it in another spelling.
use Rattle.std.proofs.Common.{◌≡◌, ◌≢◌, ◌∙◌, ◌+◌, ℕ, List}
use Rattle.dnsv_names.specs.Name.{Labels, SameName, rightmost}
use Rattle.dnsv_names.specs.Tree.TreeLaws.{at_or_below_trans, same_at_or_below}
use Rattle.dnsv_zones.specs.chains.HashedNames.{sha1_hash}
use Rattle.dnsv_zones.specs.chains.Nsec3Chain.{Nsec3Record}
use Rattle.dnsv_zones.specs.chains.NsecChain.{NsecRecord}
use Rattle.dnsv_zones.specs.forms.Forms.{IsAbove, NoCloserForm}
use Rattle.dnsv_zones.specs.forms.Nsec.{IsAbsentBy}
use Rattle.dnsv_zones.specs.forms.Nsec3.{Covers}
use Rattle.dnsv_zones.specs.forms.Parts.{OptsOutNextCloser}
use Rattle.dnsv_zones.specs.forms.RecordWords.{words}
use Rattle.dnsv_canonical.specs.Rrsets.{ReceivedRrset}
use Rattle.dnsv_canonical.specs.declared.number.RecordNumber.{RecordNumber}
use Rattle.dnsv_denial.specs.gathering.EvidenceWords.{Chain, SaidByNsec, SaidByNsec3}
use Rattle.dnsv_denial.specs.gathering.EvidenceWords.Chain.{ByNsec, ByNsec3}
use Rattle.dnsv_derivations.proofs.lemmas.denials.PartLemmas.{zone_as}
use Rattle.dnsv_lines.specs.declared.line.Line.{Line}
use Rattle.dnsv_rules.specs.Told.{IsShownGood, shown_said, told_words}

module _ (rrsets : List ReceivedRrset) (lines : List Line) (zone other : Labels) (same : SameName zone other) where
  nsec_as : (Says : NsecRecord → Type 0) (n : RecordNumber) → SaidByNsec (IsShownGood lines) rrsets zone Says n
      → SaidByNsec (IsShownGood lines) rrsets other Says n
  nsec_as Says n said =
      (said.0, record { is = said.1.is; secured = zone_as (IsShownGood lines) rrsets zone other n.rrset same said.1.secured }, said.2)

  nsec3_as : (Says : Nsec3Record → Type 0) (n : RecordNumber) → SaidByNsec3 (IsShownGood lines) rrsets zone Says n
      → SaidByNsec3 (IsShownGood lines) rrsets other Says n
  nsec3_as Says n said =
      let is = said.1.is in
      let owner = is.owner in (
        said.0,
        record {
          is = record {
            rrset = is.rrset;
            rdata = is.rdata;
            at = is.at;
            rtype = is.rtype;
            owner = record {
              label = owner.label;
              parent = owner.parent;
              parts = owner.parts;
              in_zone = owner.in_zone ∙ same;
              is_hash = owner.is_hash;
              spelled = owner.spelled;
            };
            fields = is.fields;
            read = is.read;
            usable = is.usable;
            next = is.next;
            flags = is.flags;
            types = is.types;
            parameters = is.parameters;
          };
          secured = zone_as (IsShownGood lines) rrsets zone other n.rrset same said.1.secured;
        },
        said.2,
      )

  absent_as : (chain : Chain) (x : Labels) (n : RecordNumber) → (shown_said rrsets lines zone chain).Absent x n
      → (shown_said rrsets lines other chain).Absent x n
  absent_as ByNsec x n said = nsec_as (λ r. IsAbsentBy r x) n said
  absent_as (ByNsec3 parameters) x n said = nsec3_as (λ r. Covers (sha1_hash parameters) r x × (r.flags ≡ 0)) n said

  out_as : (chain : Chain) (x : Labels) (n : RecordNumber) → (shown_said rrsets lines zone chain).OptedOut x n
      → (shown_said rrsets lines other chain).OptedOut x n
  out_as ByNsec x n said = said
  out_as (ByNsec3 parameters) x n said = nsec3_as (λ r. Covers (sha1_hash parameters) r x × (r.flags ≢ 0)) n said

  above_as : (name : Labels) (labels : ℕ) → IsAbove zone name labels → IsAbove other name labels
  above_as name labels above = record {
    proper = above.proper;
    within = at_or_below_trans (rightmost name labels) zone other above.within (same_at_or_below zone other same);
  }

  pub closer_as : (chain : Chain) (name : Labels) (labels : ℕ)
      → NoCloserForm (words (told_words (shown_said rrsets lines zone chain) lines)) zone name labels
      → NoCloserForm (words (told_words (shown_said rrsets lines other chain) lines)) other name labels
  closer_as chain name labels form =
      let next = form.next_closer in record {
        above = above_as name labels form.above;
        next_closer = (next.0, (absent_as chain (rightmost name (labels + 1)) next.0 next.1.0, next.1.1));
      }

  pub out_closer_as : (chain : Chain) (name : Labels) (labels : ℕ)
      → OptsOutNextCloser (told_words (shown_said rrsets lines zone chain) lines) zone name labels
      → OptsOutNextCloser (told_words (shown_said rrsets lines other chain) lines) other name labels
  out_closer_as chain name labels form =
      let out = form.opted_out in record {
        above = above_as name labels form.above;
        opted_out = (out.0, (out_as chain (rightmost name (labels + 1)) out.0 out.1.0, out.1.1));
      }
