-- Lines of which each follows from those before it are true.
use Rattle.std.proofs.Common.{◌≡◌, ◌+◌, ℕ, List, [], ◌∷◌, ◌++◌, Option, Some, None, sym, subst, arith, append_assoc, ⊎_elim}
use Rattle.std.proofs.lemmas.List.Elements.{Contains-append_left, Contains-push_cases}
use Rattle.std.proofs.lemmas.List.{append-nil}
use Rattle.std.specs.List.{Contains}
use Rattle.dnsv_names.specs.Name.{Labels, SameName, rightmost}
use Rattle.dnsv_verifier.specs.Admissible.{DnskeyRecord}
use Rattle.dnsv_canonical.specs.Rrsets.{IsNumbered, ReceivedRrset}
use Rattle.dnsv_chain.specs.Trusted.{IsKeyOf, IsSecured, IsTrusted}
use Rattle.dnsv_denial.specs.gathering.EvidenceWords.{Chain, evidence_said}
use Rattle.dnsv_denial.proofs.lemmas.more.FormLemmas.{SaysNoLess, cut_to, opts_out_to}
use Rattle.dnsv_denial.proofs.lemmas.more.EvidenceLemmas.{chain_to}
use Rattle.dnsv_derivations.specs.Explained.{Setting}
use Rattle.dnsv_derivations.specs.Following.{EachFollows, Follows, FollowsAsPart, FollowsTrusted, IsNamed, IsPlaceOf, IsSaidSigned, IsSignatureSaid}
use Rattle.dnsv_derivations.specs.Following.Cases.{IsCaseBy, IsCaseOf}
use Rattle.dnsv_derivations.specs.Following.Parts.{IsPartOf, IsUnusableRecord, IsZoneNamed}
use Rattle.dnsv_derivations.specs.Following.Parts.IsZoneNamed.{by_case, by_proof}
use Rattle.dnsv_derivations.specs.derivations.Ways.{HasSecured, IsWayInto}
use Rattle.dnsv_canonical.proofs.NumberLemmas.{one_numbered}
use Rattle.dnsv_derivations.proofs.lemmas.denials.PartLemmas.{said_too}
use Rattle.dnsv_derivations.proofs.lemmas.derivations.DerivationLemmas.{matched_then}
use Rattle.dnsv_derivations.proofs.lemmas.derivations.WayLemmas.{way_leads}
use Rattle.dnsv_derivations.proofs.lemmas.intervals.MomentLemmas.{first_or_behind}
use Rattle.dnsv_lines.specs.declared.line.Line.{Line}
use Rattle.dnsv_lines.specs.declared.line.Line.TheVariants as line
use Rattle.dnsv_lines.specs.declared.line.cut.InsecureCase.{InsecureCase}
use Rattle.dnsv_lines.specs.declared.line.cut.InsecureCase.TheVariants as case
use Rattle.dnsv_lines.specs.declared.line.denial.Part.{Part}
use Rattle.dnsv_canonical.specs.declared.number.SignatureNumber.{SignatureNumber}
use Rattle.dnsv_lines.specs.declared.line.derivation.TrustedKeys.{TrustedKeys}

-- ---- cases

module _ (S T : ℕ → ℕ → Type 0) (more : (k s : ℕ) → S k s → T k s) (P Q : ℕ → Type 0) (some : (k : ℕ) → P k → Q k) (rrsets : List ReceivedRrset) where
  said_more : (zone : Labels) (chain : Chain) → SaysNoLess (evidence_said S rrsets zone chain) (evidence_said T rrsets zone chain)
  said_more zone chain = chain_to S T more rrsets rrsets (λ k rrset is. is) zone chain

  -- what records of a zone say by signatures that count they say by more
  case_of_too : (zone : Labels) (kind : InsecureCase) (cut : Labels) → IsCaseOf S rrsets zone kind cut → IsCaseOf T rrsets zone kind cut
  case_of_too zone case.UnsignedDelegation cut (name, labels, chain, same, at) = (
    name,
    labels,
    chain,
    same,
    record {
      fits = at.fits;
      form = cut_to (evidence_said S rrsets zone chain) (evidence_said T rrsets zone chain) (said_more zone chain) zone name (rightmost name labels) at.form;
    },
  )
  case_of_too zone case.UnusableDs cut never = never
  case_of_too zone case.OptOut cut (name, labels, chain, same, at) =
      (name, labels, chain, same, opts_out_to (evidence_said S rrsets zone chain) (evidence_said T rrsets zone chain) (said_more zone chain) zone name labels at)
  case_of_too zone case.OptOutWildcard cut (name, labels, chain, same, at) = (
    name,
    labels,
    chain,
    same,
    record {
      above = at.above;
      opted_out = (
        at.opted_out.0,
        (said_more zone chain).opted_out (rightmost name (labels + 1)) at.opted_out.0 at.opted_out.1,
      );
    },
  )

  case_too : (kind : InsecureCase) (cut : Labels) (zone : Option Labels) → IsCaseBy S P rrsets kind cut zone → IsCaseBy T Q rrsets kind cut zone
  case_too kind cut None (is, at) = (
    is,
    record {
      k = at.k;
      ds = at.ds;
      is_ds = at.is_ds;
      rtype = at.rtype;
      owner = at.owner;
      signed = some at.k at.signed;
      records = at.records;
      read = at.read;
      none = at.none;
    },
  )
  case_too kind cut (Some named) (zone, same, says) = (zone, same, case_of_too zone kind cut says)

module _ (setting : Setting) where
  abbrev Trusted : ReceivedRrset → Type 0
  Trusted set = IsTrusted setting.meaning setting.moment setting.rrsets setting.anchors set

  abbrev Secured : ℕ → ℕ → Type 0
  Secured = IsSecured setting.meaning setting.moment setting.rrsets setting.anchors

  -- what a line says is so; of the zone of a part see below
  abbrev IsTrue : Line → Type 0
  IsTrue (line.Trusted keys) =
      (set : ReceivedRrset) × IsNumbered setting.rrsets keys.signature.rrset set × Trusted set × SameName set.owner keys.zone
      × (key : DnskeyRecord) × IsKeyOf set key × IsNamed key keys.key
  IsTrue (line.Signed signed) =
      Secured signed.signature.rrset signed.signature.signature
      × (rrset : ReceivedRrset) × IsNumbered setting.rrsets signed.signature.rrset rrset × SameName rrset.owner signed.owner
      × (signed.rtype.0 ≡ rrset.rtype)
      × (set : ReceivedRrset) × IsNumbered setting.rrsets signed.keys set × Trusted set × SameName set.owner signed.zone
      × (key : DnskeyRecord) × IsKeyOf set key × IsNamed key signed.key
  IsTrue (line.Case cut) = IsCaseBy Secured (HasSecured setting) setting.rrsets cut.case cut.name cut.zone
  IsTrue (line.Unusable unusable) = IsUnusableRecord setting.rrsets unusable × HasSecured setting unusable.number.rrset
  IsTrue (line.Rrset place) = IsPlaceOf setting.rrsets place
  IsTrue _ = Unit {0}

  abbrev AreTrue : List Line → Type 0
  AreTrue lines = (line : Line) → Contains lines line → IsTrue line

  -- what is said to be signed has a signature that is good by trust
  secured_said : (before : List Line) → AreTrue before → (k : ℕ) → IsSaidSigned before k → HasSecured setting k
  secured_said before all k said =
      let Numbered : ℕ → Type 0 = λ n. Secured n said.signed.signature.signature in
      (said.signed.signature.signature, subst Numbered said.rrset (all (line.Signed said.signed) said.among).0)

  -- and a signature that is said to be good is
  pub said_secured : (before : List Line) → AreTrue before → (k s : ℕ) → IsSignatureSaid before (record { rrset = k; signature = s })
      → Secured k s
  said_secured before all k s said =
      let Good : SignatureNumber → Type 0 = λ number. Secured number.rrset number.signature in
      subst Good said.is (all (line.Signed said.signed) said.among).0

  abbrev way_followed : (before : List Line) → AreTrue before → (keys : TrustedKeys) (follows : FollowsTrusted setting before keys)
      → IsWayInto setting keys.signature.rrset (record { voucher = keys.voucher; key = follows.key; signature = keys.signature.signature })
  way_followed before all keys follows = record {
    set = follows.set;
    stands = follows.stands;
    good = follows.good;
    matched = matched_then setting.rrsets setting.anchors (IsSaidSigned before) (HasSecured setting) (secured_said before all) keys.voucher follows.key
        follows.vouched;
  }

  -- what follows is true, where the lines before are
  true_line : (before : List Line) → AreTrue before → (each : Line) → Follows setting before each → IsTrue each
  true_line before all (line.Trusted keys) follows = (
    follows.set,
    follows.good.is_rrset,
    way_leads setting keys.signature.rrset _ (way_followed before all keys follows),
    follows.owner,
    follows.key,
    follows.stands,
    follows.named,
  )
  true_line before all (line.Signed signed) follows =
      let said = all (line.Trusted follows.trusted.keys) follows.trusted.among in
      let Numbered : ℕ → Type 0 = λ k. IsNumbered setting.rrsets k said.0 in
      let same : said.0 ≡ follows.set =
      one_numbered setting.rrsets signed.keys said.0 follows.set (subst Numbered follows.trusted.rrset said.1) follows.is_set in
      let trusted : Trusted follows.set = subst Trusted same said.2 in (
        record {
          rrset = follows.rrset;
          numbered = follows.good.is_rrset;
          rdata = follows.good.rdata;
          signature = follows.good.is_signature;
          rrsig = follows.good.rrsig;
          is = follows.good.read;
          good = record { set = follows.set; trusted = trusted; key = follows.key; stands = follows.stands; good = follows.good.good };
        },
        follows.rrset,
        follows.good.is_rrset,
        follows.owner,
        follows.rtype,
        follows.set,
        follows.is_set,
        trusted,
        follows.zone,
        follows.key,
        follows.stands,
        follows.named,
      )
  true_line before all (line.Case cut) follows =
      case_too (λ k s. IsSignatureSaid before (record { rrset = k; signature = s })) Secured (said_secured before all) (IsSaidSigned before)
      (HasSecured setting) (secured_said before all) setting.rrsets cut.case cut.name cut.zone follows
  true_line before all (line.Unusable ds) follows = (follows.0, secured_said before all ds.number.rrset follows.1)
  true_line before all (line.Rrset place) follows = follows
  true_line before all each follows = tt

  more_true : (before : List Line) (each : Line) → AreTrue before → IsTrue each → AreTrue (before ++ each ∷ [])
  more_true before each all one = λ other there.
      ⊎_elim (λ (earlier : Contains before other). all other earlier)
      (λ (last : each ≡ other). subst IsTrue last one)
      (Contains-push_cases before each other there)

  pub all_true : (before lines : List Line) → AreTrue before → EachFollows setting before lines → AreTrue (before ++ lines)
  all_true before [] all follows = subst AreTrue (sym (append-nil before)) all
  all_true before (each ∷ lines) all follows =
      subst AreTrue (append_assoc before (each ∷ []) lines)
      (all_true (before ++ each ∷ []) lines (more_true before each all (true_line before all each follows.0)) follows.1)

  pub no_lines : AreTrue []
  no_lines = λ each there. absurd (omega (arith, there.1))

  -- ---- parts

  -- a zone that lines before name is one that the lines name
  named_among : (before lines : List Line) (zone : Labels) (chain : Chain) → IsZoneNamed before zone chain → IsZoneNamed (before ++ lines) zone chain
  named_among before lines zone chain (by_proof proof among same kind) =
      by_proof proof (Contains-append_left before lines (line.Proof proof) among) same kind
  named_among before lines zone chain (by_case cut named among is same) =
      by_case cut named (Contains-append_left before lines (line.Case cut) among) is same

  -- the part is so, of a zone that a line names
  abbrev IsTruePart : Part → List Line → Type 0
  IsTruePart part lines = (zone : Labels) × (chain : Chain) × IsZoneNamed lines zone chain × IsPartOf Secured setting.rrsets zone chain part

  part_here : (before lines : List Line) → AreTrue before → (part : Part) → FollowsAsPart setting before part → IsTruePart part (before ++ lines)
  part_here before lines all part follows = (
    follows.zone,
    follows.chain,
    named_among before lines follows.zone follows.chain follows.named,
    said_too (λ k s. IsSignatureSaid before (record { rrset = k; signature = s })) Secured setting.rrsets follows.zone follows.chain
        part.role part.relation part.name part.by (said_secured before all) follows.says,
  )

  pub part_true : (before lines : List Line) → AreTrue before → EachFollows setting before lines → (part : Part) → Contains lines (line.Part part)
      → IsTruePart part (before ++ lines)
  part_true before [] all follows part there = absurd (omega (arith, there.1))
  part_true before (each ∷ lines) all follows part there =
      let At : Line → Type 0 = λ one. Follows setting before one in
      ⊎_elim (λ (here : each ≡ line.Part part). part_here before (each ∷ lines) all part (subst At here follows.0))
      (λ (later : Contains lines (line.Part part)).
      subst (IsTruePart part) (append_assoc before (each ∷ []) lines)
      (part_true (before ++ each ∷ []) lines (more_true before each all (true_line before all each follows.0)) follows.1 part later))
      (first_or_behind each lines (line.Part part) there)
