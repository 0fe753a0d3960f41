-- The first of those that match is the first way.
use Rattle.std.proofs.Common.{◌≡◌, ◌≢◌, ℕ, sym, ap, ◌∙◌, subst}
use Rattle.std.specs.declared.cmp.Ordering.TheVariants.{Less}
use Rattle.dnsv_canonical.specs.Rrsets.{IsNumbered, ReceivedRrset}
use Rattle.dnsv_verifier.specs.Admissible.{DnskeyRecord}
use Rattle.dnsv_chain.specs.Trusted.{IsKeyOf}
use Rattle.dnsv_proof_forms.specs.records.Numbers.{number_cmp}
use Rattle.dnsv_canonical.specs.declared.number.RecordNumber.{RecordNumber}
use Rattle.dnsv_derivations.specs.Explained.{Setting}
use Rattle.dnsv_derivations.specs.Following.{IsGoodUnder, IsMatchedBy}
use Rattle.dnsv_derivations.specs.derivations.WaySearch.{IsFirstUnder, IsFoundWay, IsNoWayBefore, IsNoneUnder, signature_of}
use Rattle.dnsv_derivations.specs.derivations.Ways.{HasSecured, IsWayInto, Way, record_at, voucher_rank}
use Rattle.dnsv_lines.specs.declared.line.derivation.Voucher.{Voucher}
use Rattle.dnsv_derivations.specs.declared.derivations.ways.FoundWay.{FoundWay}
use Rattle.dnsv_canonical.proofs.NumberLemmas.{one_numbered}

abbrev pub Matched : Setting → Voucher → DnskeyRecord → Type 0
Matched setting = IsMatchedBy (HasSecured setting) setting.rrsets setting.anchors

-- What stands there is told so, and matches these keys.
pub record IsTold (setting : Setting) (rrset place : ℕ) (told : Voucher) (Matches : DnskeyRecord → Type 0) : Type 0 where
  pub rank : voucher_rank told ≡ record_at rrset place
  pub matches : (key : DnskeyRecord) → Matches key → Matched setting told key
  pub only : (other : Voucher) (key : DnskeyRecord) → Matched setting other key → voucher_rank other ≡ record_at rrset place → Matches key

module _ (setting : Setting) (k : ℕ) (set : ReceivedRrset) (numbered : IsNumbered setting.rrsets k set) where
  same : (way : Way) (is : IsWayInto setting k way) → is.set ≡ set
  same way is = one_numbered setting.rrsets k is.set set is.good.is_rrset numbered

  -- a way is by a key that stands in the RRset and signs it
  stands : (way : Way) → IsWayInto setting k way → IsKeyOf set way.key
  stands way is = subst (λ (each : ReceivedRrset). IsKeyOf each way.key) (same way is) is.stands

  signs : (way : Way) → IsWayInto setting k way → IsGoodUnder setting (signature_of k way.signature) set way.key
  signs way is =
      subst (λ (each : ReceivedRrset). IsGoodUnder setting (signature_of k way.signature) each way.key) (same way is) is.good

  pub none_by : (Matches : DnskeyRecord → Type 0) → IsNoneUnder setting k set Matches → (way : Way) → IsWayInto setting k way
      → ¬ Matches way.key
  none_by Matches none way is matches = none way.key (stands way is) (way.signature, matches, signs way is)

  -- the first that matches in the order of ways is the first way
  pub found_first : (rrset place : ℕ) (told : Voucher) (Matches : DnskeyRecord → Type 0) (found : FoundWay)
      → IsTold setting rrset place told Matches → IsNoWayBefore setting k rrset place
      → IsFirstUnder setting k set Matches told found → IsFoundWay setting k found
  found_first rrset place told Matches found at none under =
      let rank : voucher_rank found.voucher ≡ record_at rrset place = ap voucher_rank under.voucher_is ∙ at.rank in
      let Before : RecordNumber → Type 0 =
      λ number. (other : Way) → IsWayInto setting k other → number_cmp (voucher_rank other.voucher) number ≢ Less in
      let By : Voucher → Type 0 = λ each. Matched setting each under.key in
      record {
        key = under.key;
        named = under.named;
        first = record {
          is = record {
            set = set;
            stands = under.stands;
            good = under.good.good;
            matched = subst By (sym under.voucher_is) (at.matches under.key under.matched);
          };
          voucher = subst Before (sym rank) none;
          key = λ other is voucher_is. under.lowest other.key (stands other is)
              (other.signature, at.only other.voucher other.key is.matched (ap voucher_rank voucher_is ∙ rank), signs other is);
          signature = λ other is voucher_is key_is.
              let Under : DnskeyRecord → Type 0 = λ each. IsGoodUnder setting (signature_of k other.signature) set each in
              under.good.lowest other.signature (subst Under key_is (signs other is));
        };
        todo = under.good.todo;
      }
