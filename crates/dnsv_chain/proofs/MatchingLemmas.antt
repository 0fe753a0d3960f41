-- DS records that match a key, by the one digest that the key has of their digest type.
use Rattle.std.proofs.Common.{◌≡◌, ◌↔◌, ℕ, List, Some, None, sym, ap, ◌∙◌, subst}
use Rattle.std.specs.Prelude.{IsTrue}
use Rattle.dnsv_names.specs.Name.{Labels, SameName}
use Rattle.dnsv_digest.specs.Digest.{ds_digest_of}
use Rattle.dnsv_records.specs.Algorithm.{is_supported}
use Rattle.dnsv_records.specs.declared.ds.Ds.{Ds}
use Rattle.dnsv_verifier.specs.Admissible.{DnskeyRecord}
use Rattle.dnsv_anchors.specs.Ds.DsReading.{IsLeading, Leads}
use Rattle.dnsv_anchors.proofs.UsableLemmas.{usable_leader, usable_leads}
use Rattle.dnsv_chain.specs.Ds.{HasUsableMatch}
use Rattle.dnsv_chain.specs.Ds.DsReading.{HasLeadingMatch, HasNamed, HasNamedDigest}

module _ (owner : Labels) (records : List Ds) (number : ℕ) (key : DnskeyRecord) where
  pub match_is_named : HasLeadingMatch owner records number key → HasNamed records number key
  match_is_named has = record {
    ds = has.ds;
    among = has.among;
    is = has.is;
    names = record { algorithm = has.matching.algorithm; key_tag = has.matching.key_tag };
  }

  pub same_owner : HasLeadingMatch owner records number key → SameName owner key.owner
  same_owner has = has.matching.same_owner

  -- the digest of the record that matches is the key's by the digest type
  its_digest : (has : HasLeadingMatch owner records number key) → ds_digest_of number key.owner key.rdata ≡ Some has.ds.digest
  its_digest has = ap (λ (type : ℕ). ds_digest_of type key.owner key.rdata) (sym has.is) ∙ has.matching.digest

  pub no_digest : ds_digest_of number key.owner key.rdata ≡ None → HasLeadingMatch owner records number key → ⊥
  no_digest none has = let some = its_digest has in cc

  pub by_digest : (digest : List ℕ) → ds_digest_of number key.owner key.rdata ≡ Some digest → SameName owner key.owner
      → HasNamedDigest records number key digest ↔ HasLeadingMatch owner records number key
  by_digest digest is same = (
    λ has. record {
      ds = has.ds;
      among = has.among;
      is = has.is;
      matching = record {
        same_owner = same;
        algorithm = has.names.algorithm;
        key_tag = has.names.key_tag;
        digest = ap (λ (type : ℕ). ds_digest_of type key.owner key.rdata) has.is ∙ is ∙ ap Some (sym has.digest_is);
      };
    },
    λ has. let some = its_digest has in let both : has.ds.digest ≡ digest = cc in
        record {
          ds = has.ds;
          among = has.among;
          is = has.is;
          names = record { algorithm = has.matching.algorithm; key_tag = has.matching.key_tag };
          digest_is = both;
        },
  )

-- ---- the digest type that leads

pub usable_matches : (owner : Labels) (records : List Ds) (key : DnskeyRecord) (leading : ℕ) → Leads records leading
    → IsTrue (is_supported key.dnskey.algorithm.0)
    → (HasLeadingMatch owner records leading key → HasUsableMatch owner records key) × (HasUsableMatch owner records key → HasLeadingMatch owner records leading key)
usable_matches owner records key leading leads supported =
    let P : ℕ → Type 0 = λ algorithm. IsTrue (is_supported algorithm) in (
      λ has. record { ds = has.ds; among = has.among; usable = usable_leader records leading has.ds leads has.is (subst P (sym has.matching.algorithm) supported); matching = has.matching },
      λ has. record { ds = has.ds; among = has.among; is = usable_leads records leading has.ds leads has.among has.usable; matching = has.matching },
    )

-- where no digest type leads nothing matches
pub none_matches : (owner : Labels) (records : List Ds) (key : DnskeyRecord) → IsLeading records None → HasUsableMatch owner records key → ⊥
none_matches owner records key none has = none has.ds has.among has.usable.digest_type
