-- Who signed what lines show to be good.
use Rattle.std.proofs.Common.{◌≡◌, ◌∙◌, ℕ, List, [], ◌∷◌, ◌++◌, sym, ap, subst, arith, ⊎_elim}
use Rattle.std.specs.List.{Contains}
use Rattle.dnsv_names.specs.Name.{Labels, SameName, lower_case}
use Rattle.dnsv_records.specs.Rrsig.{IsRrsig}
use Rattle.dnsv_records.specs.declared.rrsig.Rrsig.{Rrsig}
use Rattle.dnsv_records.proofs.OneRecord.{one_rrsig}
use Rattle.dnsv_canonical.specs.Rrsets.{IsNumbered, ReceivedRrset}
use Rattle.dnsv_canonical.specs.declared.number.SignatureNumber.{SignatureNumber}
use Rattle.dnsv_chain.specs.Trusted.{IsTrusted}
use Rattle.dnsv_denial.specs.gathering.Evidence.{IsSecuredBy}
use Rattle.dnsv_derivations.specs.Explained.{Setting}
use Rattle.dnsv_derivations.specs.Following.{EachFollows, Follows, FollowsSigned}
use Rattle.dnsv_canonical.proofs.NumberLemmas.{one_numbered}
use Rattle.dnsv_derivations.proofs.lemmas.intervals.MomentLemmas.{first_or_behind}
use Rattle.dnsv_lines.specs.declared.line.Line.{Line}
use Rattle.dnsv_lines.specs.declared.line.Line.TheVariants as line
use Rattle.dnsv_lines.specs.declared.line.derivation.SignedRrset.{SignedRrset}
use Rattle.dnsv_rules.specs.Truth.{IsShownSecured}

-- the signature with the numbers
pub one_signature : (rrsets : List ReceivedRrset) (k s : ℕ) (a b : ReceivedRrset) (x y : List ℕ) (f g : Rrsig) → IsNumbered rrsets k a
    → IsNumbered rrsets k b → IsNumbered a.signatures s x → IsNumbered b.signatures s y → IsRrsig x f → IsRrsig y g → f ≡ g
one_signature rrsets k s a b x y f g is_a is_b at_a at_b read_f read_g =
    let rrset : a ≡ b = one_numbered rrsets k a b is_a is_b in
    let At : ReceivedRrset → Type 0 = λ each. IsNumbered each.signatures s x in
    let rdata : x ≡ y = one_numbered b.signatures s x y (subst At rrset at_a) at_b in
    let Of : List ℕ → Type 0 = λ each. IsRrsig each f in
    one_rrsig y f g (subst Of rdata read_f) read_g

-- one of the lines follows from some before it
record FollowsThere (setting : Setting) (each : Line) : Type 0 where
  before : List Line
  follows : Follows setting before each

follows_there : (setting : Setting) (before lines : List Line) → EachFollows setting before lines → (each : Line) → Contains lines each
    → FollowsThere setting each
follows_there setting before [] follow each there = absurd (omega (arith, there.1))
follows_there setting before (first ∷ lines) follow each there =
    let At : Line → Type 0 = λ one. Follows setting before one in
    ⊎_elim
    (λ (same : first ≡ each). let here : FollowsThere setting each = record { before = before; follows = subst At same follow.0 } in here)
    (λ (later : Contains lines each). follows_there setting (before ++ first ∷ []) lines follow.1 each later)
    (first_or_behind first lines each there)

module _ (setting : Setting) (lines : List Line) (zone : Labels) (k : ℕ) (by : IsSecuredBy (IsShownSecured setting lines) setting.rrsets zone k) where
  -- a line calls a signature of the zone good, by the key of the zone
  pub signed_by : EachFollows setting [] lines → (signed : SignedRrset) × Contains lines (line.Signed signed) × SameName signed.zone zone
  signed_by follow =
      let its = by.signed in
      let shown = its.secured.0 in
      let there = follows_there setting [] lines follow (line.Signed shown.signed) shown.among in
      let is : FollowsSigned setting there.before shown.signed = there.follows in
      let good = is.good in
      let Rrset : SignatureNumber → Type 0 = λ each. IsNumbered setting.rrsets each.rrset is.rrset in
      let Rdata : SignatureNumber → Type 0 = λ each. IsNumbered is.rrset.signatures each.signature good.rdata in
      let rrsig : good.rrsig ≡ its.rrsig =
      one_signature setting.rrsets k its.signature is.rrset by.rrset good.rdata its.rdata good.rrsig its.rrsig (subst Rrset shown.is good.is_rrset)
      by.is_rrset (subst Rdata shown.is good.is_signature) its.is_signature good.read its.read in
      let owner : SameName is.set.owner good.rrsig.signer = sym (ap lower_case is.stands.owner) ∙ good.good.admissible.zone_key.owner in
      let signer : SameName good.rrsig.signer zone = ap (λ (each : Rrsig). lower_case each.signer) rrsig ∙ its.signer in
      (shown.signed, shown.among, sym is.zone ∙ owner ∙ signer)

  -- the zone has a trusted DNSKEY RRset
  pub trusted_by : (set : ReceivedRrset) × IsTrusted setting.meaning setting.moment setting.rrsets setting.anchors set × SameName set.owner zone
  trusted_by =
      let its = by.signed in
      let is = its.secured.1 in
      let good = is.good in
      let rrsig : is.rrsig ≡ its.rrsig =
      one_signature setting.rrsets k its.signature is.rrset by.rrset is.rdata its.rdata is.rrsig its.rrsig is.numbered by.is_rrset is.signature
      its.is_signature is.is its.read in
      let owner : SameName good.set.owner is.rrsig.signer = sym (ap lower_case good.stands.owner) ∙ good.good.admissible.zone_key.owner in
      let signer : SameName is.rrsig.signer zone = ap (λ (each : Rrsig). lower_case each.signer) rrsig ∙ its.signer in
      (good.set, good.trusted, owner ∙ signer)
