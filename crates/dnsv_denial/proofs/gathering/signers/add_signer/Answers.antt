-- a signature that is there, and one that isn't
use Rattle.std.proofs.Common.{◌≡◌, ◌<◌, ◌-◌, ◌++◌, ◌∷◌, [], if◌then◌else◌, ⊎_elim, arith, length, refl, subst, sym}
use Rattle.std.proofs.lemmas.List.Elements.{Contains-append_left}
use Rattle.std.proofs.lemmas.Option.{slice_get_past, slice_get_read}
use Rattle.std.specs.Prelude.{Contains}
use Rattle.dnsv_names.specs.Name.{same_name}
use Rattle.dnsv_records.specs.declared.rrsig.Rrsig.{Rrsig}
use Rattle.dnsv_anchors.specs.ByOwner.{values_at}
use Rattle.dnsv_denial.proofs.lemmas.gathering.GatherLemmas.{no_zone_signature, unnumbered}
use Rattle.dnsv_denial.proofs.lemmas.gathering.SignerLemmas.{added_for}
use Rattle.dnsv_denial.proofs.gathering.signers.add_signer.Goals as goal

pub returns-then-signature-eq0-clause-added : goal.returns-then-signature-eq0-clause-added
returns-then-signature-eq0-clause-added c = λ zone has.
    absurd (⊎_elim
    (λ (zero_is : c.args.signature ≡ 0). unnumbered c.args.rrset.now zone c.args.signature zero_is has)
    (λ (past : (c.args.signature ≡ 0 → ⊥) × length c.signatures-rrsigs.result.now < c.args.signature). no_zone_signature c.args.rrset.now zone c.args.signature c.signatures-rrsigs.result.now c.signatures-rrsigs.ensures
    (slice_get_past c.signatures-rrsigs.result.now (c.args.signature - 1) (omega (arith, past.1))) has)
    c.then-signature-eq0.either)

pub returns-clause-kept : goal.returns-clause-kept
returns-clause-kept c = λ zone k there.
    subst (λ xs. Contains xs k) (sym (c.in_ok-add_at.ensures zone)) (Contains-append_left (values_at c.args.numbers.now zone) _ k there)

pub returns-clause-added : goal.returns-clause-added
returns-clause-added c = λ zone has.
    let at = slice_get_read c.signatures-rrsigs.result.now (length c.signatures-rrsigs.result.now) (c.args.signature - 1) c.index-rrsigs-signature.result refl (omega (arith, c.if-signature-eq0.false, c.if-signature-rrsigs.false)) c.index-rrsigs-signature.is in
    added_for c.args.rrset.now zone c.args.signature c.signatures-rrsigs.result.now c.index-rrsigs-signature.result c.signatures-rrsigs.ensures at has
    (values_at c.args.numbers.now zone) (values_at c.add_at.new.by_owner zone) c.args.number
    (subst (λ (rrsig : Rrsig). values_at c.add_at.new.by_owner zone ≡ values_at c.args.numbers.now zone ++ (if same_name zone rrsig.signer then c.args.number ∷ [] else []))
    (sym c.index-rrsigs-signature.is) (c.in_ok-add_at.ensures zone))
