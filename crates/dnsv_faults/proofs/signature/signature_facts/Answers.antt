use Rattle.std.proofs.Common.{ℕ, refl, ap, ◌∙◌, subst}
use Rattle.dnsv_verifier.specs.Table.{TableContents}
use Rattle.dnsv_faults.specs.Signatures.{AreSignatureFaults}
use Rattle.dnsv_faults.proofs.signature.signature_facts.Goals as goal

pub returns : goal.returns
returns c =
    let moment = c.moment.ensures ∙ ap (λ (table : TableContents). table.moment) c.table.ensures in record {
      rrsig = c.args.rrsig.now;
      its = c.requires;
      number = refl;
      signer = c.labels.ensures.count;
      signed = c.is_signed.ensures;
      faults = subst (λ (n : ℕ). AreSignatureFaults n c.args.rrset.now c.args.rrsig.now c.signature_faults.result) moment c.signature_faults.ensures;
      key_missing = c.is_key_missing.ensures;
      not_zone_key = c.has_no_zone_key.ensures c.args.facts.now.rrsets c.args.rrsig.now c.named_by-named.ensures;
      keys = c.in_ok-named_keys.ensures;
    }
