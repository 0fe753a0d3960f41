-- What is kept of a way while it is followed, beside what `FollowLemmas` says.
use Rattle.std.proofs.Common.{◌≡◌, ℕ, Option, None, List, [], ◌∷◌, ◌++◌, map, sym, ap, ◌∙◌, subst}
use Rattle.std.specs.Prelude.{IsFalse, IsTrue}
use Rattle.std.proofs.lemmas.List.{map-append}
use Rattle.dnsv_names.specs.Name.{Labels}
use Rattle.dnsv_canonical.specs.Rrsets.{ReceivedRrset}
use Rattle.dnsv_proof_forms.specs.QuestionHashes.{HashedQuestion}
use Rattle.dnsv_verdict.specs.Hope.{HasHope}
use Rattle.dnsv_verdict.specs.Report.{IsKept, hashed_in}
use Rattle.dnsv_verdict.specs.Settled.{IsSettledAs}
use Rattle.dnsv_verdict.specs.Trail.{AddsHashes, IsEmpty, KeepsHope, Trails, kept_hashes}
use Rattle.dnsv_chain.specs.Basis.{CaseContents}
use Rattle.dnsv_verdict.specs.declared.at_name.Hope.{Hope}
use Rattle.dnsv_verdict.specs.declared.link.Link.{Link}
use Rattle.dnsv_verdict.specs.declared.trail.Trail.{Trail}
use Rattle.dnsv_verdict.specs.declared.verdict.Verdict.{Verdict}
use Rattle.dnsv_verdict.specs.declared.verdict.Verdict.TheVariants.{SecureAlias, Pending}

-- what is settled is not hoped
pub settled_without_hope : (case : CaseContents) (Secured : ℕ → ℕ → Type 0) (rrsets : List ReceivedRrset) (name : Labels) (t : ℕ) (verdict : Verdict)
    (hope : Option Hope) → IsSettledAs Secured rrsets name t verdict → hope ≡ None → HasHope case name t verdict hope
settled_without_hope case Secured rrsets name t (Pending entries) hope is none = absurd is
settled_without_hope case Secured rrsets name t verdict hope is none = none

-- ---- one name

pub one_name : (case : CaseContents) (name : Labels) (t : ℕ) (verdict : Verdict) (lent question : HashedQuestion) (before between after : Trail)
    → lent ≡ question → question ≡ hashed_in case.rrsets name → KeepsHope case lent.name t verdict before between
    → AddsHashes question between after → Trails case name t verdict before after
one_name case name t verdict lent question before between after same is told adds =
    let named : lent.name ≡ name = ap (λ (each : HashedQuestion). each.name) (same ∙ is) in
    let kept : KeepsHope case name t verdict before between =
    subst (λ (each : Labels). KeepsHope case each t verdict before between) named told in record {
      keeps = adds.keeps ∙ kept.keeps;
      hashes = λ keeps. adds.hashes (subst (λ keeps. IsTrue keeps) (sym kept.keeps) keeps)
          ∙ ap (λ (earlier : List HashedQuestion). earlier ++ question ∷ []) kept.hashes
          ∙ ap (λ (each : HashedQuestion). kept_hashes before ++ each ∷ []) is;
      hope = λ keeps none. subst (λ (hope : Option Hope). HasHope case name t verdict hope) (sym adds.hope) (kept.hope keeps none);
      unkept = λ not. adds.unkept (subst (λ keeps. IsFalse keeps) (sym kept.keeps) not) ∙ kept.unkept not;
    }

-- ---- names one after another

-- where the trail was empty at the start, it has the hashes for these names, of which none is hoped for; where nothing
-- is kept it is as at the start
pub record IsTrailOf (rrsets : List ReceivedRrset) (names : List Labels) (start trail : Trail) : Type 0 where
  pub keeps : trail.keeps ≡ start.keeps
  pub each_name : IsTrue start.keeps → IsEmpty start → kept_hashes trail ≡ map (hashed_in rrsets) names
  pub none : IsTrue start.keeps → IsEmpty start → trail.hope ≡ None
  pub unkept : IsFalse start.keeps → trail ≡ start

-- the hashes of one name more
each_name_more : (case : CaseContents) (t : ℕ) (names : List Labels) (name : Labels) (verdict : Verdict) (start before after : Trail)
    → IsTrailOf case.rrsets names start before → Trails case name t verdict before after
    → IsTrue start.keeps → IsEmpty start
    → kept_hashes after ≡ map (hashed_in case.rrsets) (names ++ name ∷ [])
each_name_more case t names name verdict start before after so_far more keeps empty =
    more.hashes (subst (λ keeps. IsTrue keeps) (sym so_far.keeps) keeps)
    ∙ ap (λ (earlier : List HashedQuestion). earlier ++ hashed_in case.rrsets name ∷ []) (so_far.each_name keeps empty)
    ∙ sym (map-append (hashed_in case.rrsets) names (name ∷ []))

-- where nothing is kept, nothing more
pub unkept_more : (case : CaseContents) (t : ℕ) (names : List Labels) (name : Labels) (verdict : Verdict) (start before after : Trail)
    → IsTrailOf case.rrsets names start before → Trails case name t verdict before after
    → IsFalse start.keeps → after ≡ start
unkept_more case t names name verdict start before after so_far more not =
    more.unkept (subst (λ keeps. IsFalse keeps) (sym so_far.keeps) not) ∙ so_far.unkept not

-- an alias more
pub trail_more : (case : CaseContents) (t : ℕ) (links : List Link) (last : Labels) (k s : ℕ) (verdict : Verdict) (start before after : Trail)
    → verdict ≡ SecureAlias k s
    → IsTrailOf case.rrsets (map (λ link. link.name) links) start before → Trails case last t verdict before after
    → IsTrailOf case.rrsets (map (λ link. link.name) (links ++ (record { name = last; rrset = k; signature = s }) ∷ [])) start after
trail_more case t links last k s verdict start before after alias so_far more =
    let link : Link = record { name = last; rrset = k; signature = s } in
    record {
      keeps = more.keeps ∙ so_far.keeps;
      each_name = λ keeps empty. each_name_more case t (map (λ (each : Link). each.name) links) last verdict start before after so_far more keeps empty
          ∙ ap (λ (names : List Labels). map (hashed_in case.rrsets) names) (sym (map-append (λ (each : Link). each.name) links (link ∷ [])));
      none = λ keeps empty. subst (λ (each : Verdict). HasHope case last t each after.hope) alias
          (more.hope (subst (λ keeps. IsTrue keeps) (sym so_far.keeps) keeps) (so_far.none keeps empty));
      unkept = unkept_more case t (map (λ (each : Link). each.name) links) last verdict start before after so_far more;
    }

-- the end
pub kept_to_end : (case : CaseContents) (t : ℕ) (links : List Link) (last : Labels) (verdict : Verdict) (start before after : Trail)
    → IsTrailOf case.rrsets (map (λ link. link.name) links) start before → Trails case last t verdict before after
    → IsTrue start.keeps → IsEmpty start → IsKept case t links last verdict (kept_hashes after) after.hope
kept_to_end case t links last verdict start before after so_far more keeps empty = record {
  each_name = each_name_more case t (map (λ (each : Link). each.name) links) last verdict start before after so_far more keeps empty;
  hoped = more.hope (subst (λ keeps. IsTrue keeps) (sym so_far.keeps) keeps) (so_far.none keeps empty);
}

-- an alias at the end
pub kept_to_stop : (case : CaseContents) (t : ℕ) (links : List Link) (last : Labels) (k s : ℕ) (verdict : Verdict) (start before after : Trail)
    → verdict ≡ SecureAlias k s
    → IsTrailOf case.rrsets (map (λ link. link.name) links) start before → Trails case last t verdict before after
    → IsTrue start.keeps → IsEmpty start → IsKept case t links last (SecureAlias k s) (kept_hashes after) after.hope
kept_to_stop case t links last k s verdict start before after alias so_far more keeps empty =
    subst (λ (each : Verdict). IsKept case t links last each (kept_hashes after) after.hope) alias
    (kept_to_end case t links last verdict start before after so_far more keeps empty)
