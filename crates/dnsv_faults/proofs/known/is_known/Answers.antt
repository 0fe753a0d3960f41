use Rattle.std.proofs.Common.{refl, inl, inr, subst, sym, ◌∙◌}
use Rattle.std.proofs.lemmas.Bool.{false≢true}
use Rattle.dnsv_names.specs.Name.{Labels}
use Rattle.dnsv_chain.specs.Basis.{basis_by}
use Rattle.dnsv_faults.specs.KnownZones.{HasOwnAnchor, HasRrset}
use Rattle.dnsv_faults.proofs.lemmas.KnownLemmas.{is_known, known_speaker, properly_known}
use Rattle.dnsv_faults.proofs.known.is_known.Goals as goal

pub returns-then-not-is_proper : goal.returns-then-not-is_proper
returns-then-not-is_proper c = (
  λ yes. absurd (false≢true yes),
  λ known. absurd (false≢true (sym c.if-not-is_proper.true ∙ c.is_proper.ensures.1 (λ asked.
      properly_known (basis_by c.args.facts.now) c.args.name.now c.args.rtype.0 c.args.labels c.requires.within known asked))),
)

pub returns-then-has_own_anchor : goal.returns-then-has_own_anchor
returns-then-has_own_anchor c =
    let Own : Labels → Type 0 = HasOwnAnchor c.args.facts.now.anchors in (
      λ yes. is_known (basis_by c.args.facts.now) c.args.name.now c.args.rtype.0 c.args.labels c.requires.within
          (c.is_proper.ensures.0 c.if-not-is_proper.false)
          (inl (subst Own c.suffix-zone.ensures.labels (c.has_own_anchor.ensures.0 c.if-has_own_anchor.true))),
      λ known. refl,
    )

pub returns-then-has_rrset : goal.returns-then-has_rrset
returns-then-has_rrset c =
    let Has : Labels → Type 0 = λ zone. HasRrset c.args.facts.now.rrsets zone 43 in (
      λ yes. is_known (basis_by c.args.facts.now) c.args.name.now c.args.rtype.0 c.args.labels c.requires.within
          (c.is_proper.ensures.0 c.if-not-is_proper.false)
          (inr (inl (subst Has c.suffix-zone.ensures.labels (c.has_rrset.ensures.0 c.if-has_rrset.true)))),
      λ known. refl,
    )

pub returns-then-has_rrset-2 : goal.returns-then-has_rrset-2
returns-then-has_rrset-2 c =
    let Has : Labels → Type 0 = λ zone. HasRrset c.args.facts.now.rrsets zone 48 in (
      λ yes. is_known (basis_by c.args.facts.now) c.args.name.now c.args.rtype.0 c.args.labels c.requires.within
          (c.is_proper.ensures.0 c.if-not-is_proper.false)
          (inr (inr (inl (subst Has c.suffix-zone.ensures.labels (c.has_rrset-2.ensures.0 c.if-has_rrset-2.true))))),
      λ known. refl,
    )

pub returns : goal.returns
returns c =
    let Own : Labels → Type 0 = HasOwnAnchor c.args.facts.now.anchors in
    let HasDs : Labels → Type 0 = λ zone. HasRrset c.args.facts.now.rrsets zone 43 in
    let HasKeys : Labels → Type 0 = λ zone. HasRrset c.args.facts.now.rrsets zone 48 in
    let back = sym c.suffix-zone.ensures.labels in
    let spoken = c.requires.spoken c.args.labels c.requires.within in (
      λ yes. is_known (basis_by c.args.facts.now) c.args.name.now c.args.rtype.0 c.args.labels c.requires.within
          (c.is_proper.ensures.0 c.if-not-is_proper.false) (inr (inr (inr (spoken.0 (c.is_among.ensures.0 yes))))),
      λ known. c.is_among.ensures.1 (spoken.1 (known_speaker (basis_by c.args.facts.now) c.args.name.now c.args.rtype.0 c.args.labels
          c.requires.within known
          (λ own. false≢true (sym c.if-has_own_anchor.false ∙ c.has_own_anchor.ensures.1 (subst Own back own)))
          (λ has. false≢true (sym c.if-has_rrset.false ∙ c.has_rrset.ensures.1 (subst HasDs back has)))
          (λ has. false≢true (sym c.if-has_rrset-2.false ∙ c.has_rrset-2.ensures.1 (subst HasKeys back has))))),
    )
