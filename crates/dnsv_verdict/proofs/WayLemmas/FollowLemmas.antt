-- What is kept of a way while it is followed.
use Rattle.std.proofs.Common.{◌≡◌, ◌+◌, ◌<◌, ℕ, List, [], ◌∷◌, ◌++◌, length, map, sym, ap, ◌∙◌, subst}
use Rattle.std.proofs.lemmas.List.{map-append}
use Rattle.std.specs.List.{AllByRecursion}
use Rattle.dnsv_names.specs.Count.{counted}
use Rattle.dnsv_names.specs.Name.{IsName, Labels}
use Rattle.dnsv_records.specs.declared.nsec3.Nsec3Parameters.{Nsec3Parameters}
use Rattle.dnsv_canonical.specs.Evidence.{AreParameters, nsec3_rdata}
use Rattle.dnsv_canonical.specs.Rrsets.{ReceivedRrset}
use Rattle.dnsv_verifier.specs.Table.{IsTableOf, TableContents}
use Rattle.dnsv_verifier.specs.declared.answer.Answer.{Answer}
use Rattle.dnsv_verifier.specs.declared.entry.Entry.{Entry}
use Rattle.dnsv_anchors.specs.declared.anchor.Anchor.{Anchor}
use Rattle.dnsv_zones.specs.chains.HashedNames.{hashes_for}
use Rattle.dnsv_questions.specs.Question.{IsQuestion}
use Rattle.dnsv_verdict.proofs.ReportLemmas.HashedLemmas.{hashes_more}
use Rattle.dnsv_verdict.proofs.WayLemmas.{names_behind, way_more}
use Rattle.dnsv_verdict.specs.Report.Hashed.{hashes_on}
use Rattle.dnsv_chain.specs.Basis.{Basis, basis_of}
use Rattle.dnsv_verdict.specs.Verdict.{IsVerdictAt}
use Rattle.dnsv_verdict.specs.Way.{IsAlias, IsAmong, IsStoppedAt, IsTarget, IsVerdictOf, IsWay, Stops, most_links, names_on}
use Rattle.dnsv_verdict.specs.declared.error.VerdictError.{VerdictError}
use Rattle.dnsv_verdict.specs.declared.link.Link.{Link}
use Rattle.dnsv_verdict.specs.declared.verdict.Verdict.{Verdict}
use Rattle.dnsv_verdict.specs.declared.verdict.Verdict.TheVariants.{SecureAlias}

-- of each basis that the table is of
abbrev pub OfTable : List ReceivedRrset → List Anchor → TableContents → (Basis → Type 0) → Type 0
OfTable rrsets anchors table Holds =
    (meaning : Entry → Answer) (moment : ℕ) → IsTableOf meaning moment rrsets table → Holds (basis_of rrsets anchors moment meaning)

-- the verdict at the name is an alias
pub alias_there : (rrsets : List ReceivedRrset) (anchors : List Anchor) (table : TableContents) (last : Labels) (t : ℕ) (verdict : Verdict) (k s : ℕ)
    → verdict ≡ SecureAlias k s → OfTable rrsets anchors table (λ basis. IsVerdictAt basis last t verdict)
    → OfTable rrsets anchors table (λ basis. IsVerdictAt basis last t (SecureAlias k s))
alias_there rrsets anchors table last t verdict k s is there =
    λ meaning moment of. subst (λ each. IsVerdictAt (basis_of rrsets anchors moment meaning) last t each) is (there meaning moment of)

-- hashing each of the names, with each parameters, makes the count this one
abbrev pub AreCounted : List ReceivedRrset → List Labels → ℕ → ℕ → Type 0
AreCounted rrsets names before after =
    (all : List Nsec3Parameters) → AreParameters (nsec3_rdata rrsets) all → after ≡ counted before (hashes_on names all)

-- the names of the links are hashed, and the last one isn't yet
pub record IsFollowed
    (rrsets : List ReceivedRrset) (anchors : List Anchor) (table : TableContents) (t : ℕ) (name : Labels) (before after : ℕ)
    (links : List Link) (last : Labels) : Type 0 where
  pub way : OfTable rrsets anchors table (λ basis. IsWay basis t name links last)
  pub names : AllByRecursion IsName (names_on links last)
  pub counts : AreCounted rrsets (map (λ link. link.name) links) before after

-- ---- a name more

-- the last name is hashed too
pub counted_last : (rrsets : List ReceivedRrset) (links : List Link) (last : Labels) (before between after : ℕ)
    → ((start a b : ℕ) → counted (counted start a) b ≡ counted start (a + b))
    → AreCounted rrsets (map (λ link. link.name) links) before between
    → ((all : List Nsec3Parameters) → AreParameters (nsec3_rdata rrsets) all → after ≡ counted between (hashes_for last all))
    → AreCounted rrsets (names_on links last) before after
counted_last rrsets links last before between after twice first second all are =
    second all are ∙ ap (λ n. counted n (hashes_for last all)) (first all are)
    ∙ twice before (hashes_on (map (λ (link : Link). link.name) links) all) (hashes_for last all)
    ∙ ap (λ n. counted before n) (sym (hashes_more (map (λ (link : Link). link.name) links) last all))

each_more : (names : List Labels) (name : Labels) → AllByRecursion IsName names → IsName name → AllByRecursion IsName (names ++ name ∷ [])
each_more [] name each is = (is, tt)
each_more (first ∷ names) name each is = (each.0, each_more names name each.1 is)

pub followed_more : (rrsets : List ReceivedRrset) (anchors : List Anchor) (table : TableContents) (t : ℕ) (name : Labels)
    (before between after : ℕ) (links : List Link) (last : Labels) (k s : ℕ) (target : Labels)
    → IsFollowed rrsets anchors table t name before between links last
    → OfTable rrsets anchors table (λ basis. IsVerdictAt basis last t (SecureAlias k s))
    → AreCounted rrsets (names_on links last) before after
    → IsTarget rrsets k target → ¬ IsAmong target (names_on links last) → length links < most_links → IsQuestion target t
    → IsFollowed rrsets anchors table t name before after (links ++ (record { name = last; rrset = k; signature = s }) ∷ []) target
followed_more rrsets anchors table t name before between after links last k s target so_far alias counts to new few asked =
    let link : Link = record { name = last; rrset = k; signature = s } in
    record {
      way = λ meaning moment of. way_more (basis_of rrsets anchors moment meaning) t name links last k s target
          (so_far.way meaning moment of) (alias meaning moment of) to new few asked;
      names = subst (λ ns. AllByRecursion IsName ns) (sym (names_behind links link [] target)) (each_more (names_on links last) target so_far.names to.is_name);
      counts = subst (λ ns. AreCounted rrsets ns before after) (sym (map-append (λ (each : Link). each.name) links (link ∷ []))) counts;
    }

-- ---- the end

pub followed_to_end : (rrsets : List ReceivedRrset) (anchors : List Anchor) (table : TableContents) (t : ℕ) (name : Labels)
    (before between : ℕ) (links : List Link) (last : Labels) (verdict : Verdict)
    → IsFollowed rrsets anchors table t name before between links last
    → OfTable rrsets anchors table (λ basis. IsVerdictAt basis last t verdict) → ¬ IsAlias verdict
    → OfTable rrsets anchors table (λ basis. IsVerdictOf basis name t links last verdict)
followed_to_end rrsets anchors table t name before between links last verdict so_far is none meaning moment of =
    record { way = so_far.way meaning moment of; is_verdict = is meaning moment of; no_alias = none }

-- an alias at the last name that can't be followed stops the way
pub followed_to_stop : (rrsets : List ReceivedRrset) (anchors : List Anchor) (table : TableContents) (t : ℕ) (name : Labels)
    (before between : ℕ) (links : List Link) (last : Labels) (k s : ℕ) (error : VerdictError)
    → IsFollowed rrsets anchors table t name before between links last
    → OfTable rrsets anchors table (λ basis. IsVerdictAt basis last t (SecureAlias k s))
    → Stops rrsets t (names_on links last) (length links) k error
    → OfTable rrsets anchors table (λ basis. IsStoppedAt basis name t links (record { name = last; rrset = k; signature = s }) error)
followed_to_stop rrsets anchors table t name before between links last k s error so_far alias stops meaning moment of =
    record { way = so_far.way meaning moment of; is_alias = alias meaning moment of; stops = stops }
