use Rattle.std.proofs.Common.{◌≡◌, ◌∙◌, List, subst, sym}
use Rattle.std.proofs.lemmas.Bool.{eqb-true, not-false}
use Rattle.dnsv_canonical.specs.Rdata.{rdata_of_type}
use Rattle.dnsv_names.specs.Name.{Labels, SameName}
use Rattle.dnsv_records.specs.declared.ds.Ds.{Ds}
use Rattle.dnsv_anchors.specs.Ds.DsReading.{Leads}
use Rattle.dnsv_chain.proofs.ChainLemmas.{same_ds}
use Rattle.dnsv_chain.proofs.DelegatedLemmas.{digest_leads, ds_has_digest}
use Rattle.dnsv_chain.proofs.delegated.delegates_by_digest.Goals as goal

pub returns : goal.returns
returns c =
    let ds = c.args.ds.now in
    let key = c.args.key.now in
    let is : ds.rtype ≡ 43 = sym c.rtype.ensures ∙ eqb-true _ _ (not-false _ (sym c.ne.ensures ∙ c.if-ne.false)) in
    let owner : SameName ds.owner key.owner =
    subst (λ (name : Labels). SameName name key.owner) c.owner.ensures (c.is_owner.ensures.0 c.if-not-is_owner.false) in
    let named = c.has_named_digest.ensures.0 c.if-not-has_named_digest.false in
    let same = same_ds (rdata_of_type 43 ds) c.ds_records-2.result.now c.ds_records.result.now c.ds_records-2.ensures c.ds_records.ensures in (
      λ leads.
          ds_has_digest ds c.ds_records.result.now is c.ds_records.ensures c.args.digest_type.0 key c.args.digest.now owner named
          (subst (λ (list : List Ds). Leads list c.args.digest_type.0) same (c.leads_in.ensures.0 leads)),
      λ by. c.leads_in.ensures.1 (digest_leads ds c.ds_records-2.result.now is c.ds_records-2.ensures c.args.digest_type.0 key c.args.digest.now by),
    )
