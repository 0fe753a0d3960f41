use Rattle.std.proofs.lemmas.Bool.{false≢true}
use Rattle.dnsv_anchors.specs.Ds.{HasUsable}
use Rattle.dnsv_derivations.specs.Explained.{setting_in}
use Rattle.dnsv_derivations.proofs.lemmas.AnswerLemmas.{not_so, so_not}
use Rattle.dnsv_derivations.proofs.lemmas.unsigned_cuts.UnusableLemmas.{its_set, none_usable, set_delegates}
use Rattle.dnsv_derivations.proofs.unsigned_cuts.unusable.is_unusable.Goals as goal

pub returns-then-not-may_delegate : goal.returns-then-not-may_delegate
returns-then-not-may_delegate c = (
  λ never. absurd (false≢true never),
  λ is.
      let holds = c.may_delegate.ensures.1
      (set_delegates (setting_in c.args.evidence.now) c.args.name.now c.args.number c.args.rrset.now c.requires is) in
      let fails = c.if-not-may_delegate.true in
      cc,
)

pub returns : goal.returns
returns c =
    let setting = setting_in c.args.evidence.now in
    let values = c.ds_records.result.now in (
      λ yes.
          its_set setting c.args.name.now c.args.number c.args.rrset.now c.requires values
          (c.may_delegate.ensures.0 c.if-not-may_delegate.false) c.ds_records.ensures
          (not_so c.has_usable.result (HasUsable values) c.has_usable.ensures yes),
      λ is.
          so_not c.has_usable.result (HasUsable values) c.has_usable.ensures
          (none_usable setting c.args.name.now c.args.number c.args.rrset.now c.requires values is c.ds_records.ensures),
    )
