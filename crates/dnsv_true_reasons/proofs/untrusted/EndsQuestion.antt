-- What is told of a question tells why a signer isn't trusted.
use Rattle.std.proofs.Common.{if◌then◌else◌, ◌≡◌, ◌⊎◌, inl, inr, ⊎_elim, ℕ, ◌++◌, ◌≤◌, ◌&&◌, Bool, true, false, List, [], ◌∷◌, Option, Some, None, map, flat_map, refl, subst, slice_get}
use Rattle.std.specs.List.{AllByRecursion}
use Rattle.dnsv_canonical.specs.declared.number.SignatureNumber.{SignatureNumber}
use Rattle.dnsv_lines.specs.declared.line.fault.signature.WhySignature.TheVariants as signature
use Rattle.dnsv_mending.specs.Level.{Leveled, zone_above}
use Rattle.dnsv_mending.specs.Mend.{Mended, cheapest, is_none}
use Rattle.dnsv_mending.specs.Reasons.{IsClosedSignature}
use Rattle.dnsv_mending.specs.Reasons as trust
use Rattle.dnsv_mending.specs.Rrset.{signature_ways}
use Rattle.dnsv_mending.specs.Ways.{IsAmong}
use Rattle.dnsv_mending.specs.Zone.{levels_of}
use Rattle.dnsv_mending.specs.declared.facts.signature.RrsetFacts.{RrsetFacts}
use Rattle.dnsv_mending.specs.declared.facts.zone.ZoneFacts.{ZoneFacts}
use Rattle.dnsv_mending.specs.declared.price.Class.TheVariants as class
use Rattle.dnsv_mending.specs.declared.told.Told.{Told}
use Rattle.dnsv_mending.specs.declared.told.Told.TheVariants as told
use Rattle.dnsv_mending.proofs.AllWays.{all_append, all_flat, all_if, none_some, of_cheapest}
use Rattle.dnsv_remedies.specs.Answers.{answer_ways, closer_remedy, goal_ways, stripped}
use Rattle.dnsv_remedies.specs.Cuts.{cut_after, cut_least, cut_ways, is_way, parent_ways}
use Rattle.dnsv_remedies.specs.Denials.{denial, denial_ways, lacking, other_ways, speaker_ways}
use Rattle.dnsv_remedies.specs.Parts.{zone_kept, zone_of}
use Rattle.dnsv_remedies.specs.Question.{all_lines, answer_or_denial, dname_line, is_below_dname, question_remedy, question_ways}
use Rattle.dnsv_remedies.specs.Reasons.{IsTrusted}
use Rattle.dnsv_remedies.specs.Remedy.{Remedied, after, ended, fault, untold, with_unusable}
use Rattle.dnsv_remedies.specs.declared.facts.answer.AnswerSignature.{AnswerSignature}
use Rattle.dnsv_remedies.specs.declared.facts.answer.CloserFacts.{CloserFacts}
use Rattle.dnsv_remedies.specs.declared.facts.answer.GoalFacts.{GoalFacts}
use Rattle.dnsv_remedies.specs.declared.facts.cut.CutFacts.{CutFacts}
use Rattle.dnsv_remedies.specs.declared.facts.cut.ParentFacts.{ParentFacts}
use Rattle.dnsv_remedies.specs.declared.facts.denial.SpeakerFacts.{SpeakerFacts}
use Rattle.dnsv_remedies.specs.declared.facts.question.DnameFacts.{DnameFacts}
use Rattle.dnsv_remedies.specs.declared.facts.question.QuestionFacts.{QuestionFacts}
use Rattle.dnsv_remedies.specs.declared.said.Said.{Said}
use Rattle.dnsv_remedies.specs.declared.said.Said.TheVariants as said
use Rattle.dnsv_remedies.proofs.Told.{of_least}
use Rattle.dnsv_true_reasons.proofs.untrusted.Ending.{IsUntrusted, SignatureEnds, ZoneEnds}
use Rattle.dnsv_true_reasons.proofs.untrusted.EndsRrsets.{AreEnding, EndsIf, signature_ends, zone_above_ends}
use Rattle.dnsv_true_reasons.proofs.Members.{among_left, among_parts, among_right}
use Rattle.dnsv_true_reasons.proofs.telling.SaysOwn.{closer_tells, cut_tells, denial_tells}
use Rattle.dnsv_true_reasons.proofs.telling.SaysParts.{SaysNames, SaysParent, SaysSpeaker, Tells}
use Rattle.dnsv_true_reasons.proofs.untrusted.EndsParts.{End, In, IsOther, IsOwnBy, IsRrsetBy, after_other, after_zone, beside_signature, fits_by, trust_other}

module _ (zones : List ZoneFacts) (SaidOf : ℕ → Told → Type 0) (By : SignatureNumber → ℕ → Type 0) where
  -- ---- what is asked of a question

  pub record AnswerBy (s : AnswerSignature) : Type 0 where
    pub by : s.signature.faults.signer ≡ false → By s.signature.number s.signature.signer
    pub closed : IsClosedSignature zones s.signature
    pub sound : s.signature.is_signed ≡ true → IsTrusted zones s.signature.signer
    pub there : (c : CloserFacts) → s.closer ≡ Some c → (z : ZoneFacts) × (slice_get zones s.signature.signer ≡ Some z)
    pub covers : (c : CloserFacts) → s.closer ≡ Some c → (r : RrsetFacts) → IsAmong r c.covers.items → IsRrsetBy zones SaidOf By s.signature.signer r
    -- what a signature asks for of a signer that can't be the zone has no records
    pub other : s.signature.faults.signer ≡ true → (c : CloserFacts) → s.closer ≡ Some c → c.covers.items ≡ []

  pub record IsQuestionBy (q : QuestionFacts) : Type 0 where
    pub answers : (g : GoalFacts) (s : AnswerSignature) → IsAmong g q.goals.items → IsAmong s g.signatures.items → AnswerBy s
    pub speakers : (z : SpeakerFacts) → IsAmong z q.speakers.items → SaysSpeaker (IsOwnBy zones SaidOf By z.labels) (IsRrsetBy zones SaidOf By z.labels) q.labels z
    pub speaks : (z : SpeakerFacts) → IsAmong z q.speakers.items → (f : ZoneFacts) × (slice_get zones z.labels ≡ Some f)
    pub parents : (z : ParentFacts) → IsAmong z q.parents.items → SaysParent (IsOwnBy zones SaidOf By z.labels) (IsRrsetBy zones SaidOf By z.labels) q.labels z
    pub leads : (z : ParentFacts) → IsAmong z q.parents.items → (f : ZoneFacts) × (slice_get zones z.labels ≡ Some f)

  own_names : (z labels : ℕ) → SaysNames (IsOwnBy zones SaidOf By z) labels
  own_names z labels = record {
    missing = λ k e. absurd (cc e);
    missing_of = λ n within k e. absurd (cc e);
    unproved = λ n within k e. absurd (cc e);
    ds_unproved = λ n c within inside k e. absurd (cc e);
    dname_held = λ n number within k e. absurd (cc e);
  }

  module _ (good : AreEnding zones SaidOf By (levels_of true zones)) (q : QuestionFacts) (its : IsQuestionBy q) where
    kept_case : (n : ℕ) (o : Option Leveled) → slice_get (levels_of true zones) n ≡ o → (m : Mended) → zone_of o ≡ Some m → ZoneEnds zones SaidOf By n m
    kept_case n None at m is = absurd (none_some m is)
    kept_case n (Some level) at m is = (good n level at).zone m is

    zone_leads : (n : ℕ) (m : Mended) → zone_kept (levels_of true zones) n ≡ Some m → ZoneEnds zones SaidOf By n m
    zone_leads n m is = kept_case n (slice_get (levels_of true zones) n) refl m is

    above_leads : EndsIf zones SaidOf By (zone_above (levels_of true zones))
    above_leads = zone_above_ends zones SaidOf By (levels_of true zones) good

    -- ---- answers

    own_closer : (s : AnswerSignature) (o : Option CloserFacts) → s.closer ≡ o → AnswerBy s → Tells (IsOwnBy zones SaidOf By s.signature.signer) (closer_remedy (levels_of true zones) s.signature o)
    own_closer s None is of = record { chain = tt; own = tt }
    own_closer s (Some c) is of =
        let there = of.there c is in
        subst (λ (o : Option CloserFacts). Tells (IsOwnBy zones SaidOf By s.signature.signer) (closer_remedy (levels_of true zones) s.signature o)) is
        (closer_tells (IsOwnBy zones SaidOf By s.signature.signer) (IsRrsetBy zones SaidOf By s.signature.signer) (levels_of true zones) s (fits_by zones SaidOf By s.signature.signer there.0 there.1)
        (λ x same. record { itself = λ k e. absurd (cc e); covers = of.covers x same; unusable = λ u among k e. absurd (cc e) }))

    other_closer : (s : AnswerSignature) → AnswerBy s → s.signature.faults.signer ≡ true → Tells IsOther (closer_remedy (levels_of true zones) s.signature s.closer)
    other_closer s of off = closer_tells IsOther (λ r. ⊥) (levels_of true zones) s (λ r none. absurd none)
        (λ c is. record {
          itself = λ k e. cc e;
          covers = λ r among. subst (λ (rs : List RrsetFacts). IsAmong r rs) (of.other off c is) among;
          unusable = λ u among k e. cc e;
        })

    answer_ends : (g : GoalFacts) (s : AnswerSignature) → IsAmong g q.goals.items → IsAmong s g.signatures.items
        → AllByRecursion (End zones SaidOf By) (answer_ways (levels_of true zones) (zone_above (levels_of true zones)) s)
    unfolding answer_ways
    answer_ends g s among in_goal =
        let levels = levels_of true zones in
        let of = its.answers g s among in_goal in
        let ways = signature_ways levels (zone_above levels) s.signature in
        beside_signature zones SaidOf By s.signature (cheapest ways) (closer_remedy levels s.signature s.closer)
        (λ m is. of_cheapest (SignatureEnds zones SaidOf By s.signature) ways m
        (signature_ends zones SaidOf By levels good s.signature of.by of.closed (zone_above levels) above_leads) is)
        of.sound (other_closer s of) (own_closer s s.closer refl of)

    stripped_case : (g : GoalFacts) (t : Bool) → Tells IsOther (if t then untold class.Missing else fault class.Missing (said.Trust (told.Unsigned g.number)))
    stripped_case g true = record { chain = tt; own = tt }
    stripped_case g false = record { chain = tt; own = (trust_other (told.Unsigned g.number) refl, tt) }

    goal_ends : (g : GoalFacts) → IsAmong g q.goals.items → AllByRecursion (End zones SaidOf By) (goal_ways (levels_of true zones) (zone_above (levels_of true zones)) (is_below_dname q) g)
    unfolding goal_ways
    goal_ends g among =
        let levels = levels_of true zones in
        all_if (End zones SaidOf By) (is_none g.signatures.items) (after (zone_above levels) (stripped (is_below_dname q) g)) (flat_map (answer_ways levels (zone_above levels)) g.signatures.items)
        (λ none. after_other zones SaidOf By (zone_above levels) (stripped (is_below_dname q) g) above_leads (stripped_case g (is_below_dname q && g.is_cname)))
        (λ some. all_flat (End zones SaidOf By) (answer_ways levels (zone_above levels)) g.signatures.items (λ s in_goal. answer_ends g s among in_goal))

    -- ---- denials

    speaker_ends : (z : SpeakerFacts) (is_dname : Bool) → IsAmong z q.speakers.items → AllByRecursion (End zones SaidOf By) (speaker_ways (levels_of true zones) q.labels is_dname z)
    speaker_ends z is_dname among =
        let levels = levels_of true zones in
        let f = its.speaks z among in
        after_zone zones SaidOf By z.labels (zone_kept levels z.labels) (denial levels q.labels is_dname z) (zone_leads z.labels)
        (denial_tells (IsOwnBy zones SaidOf By z.labels) (IsRrsetBy zones SaidOf By z.labels) levels q.labels (own_names z.labels q.labels) z (its.speakers z among) (fits_by zones SaidOf By z.labels f.0 f.1) is_dname)

    other_ends : (z : SpeakerFacts) → IsAmong z q.speakers.items → AllByRecursion (End zones SaidOf By) (other_ways (levels_of true zones) q.labels z)
    unfolding other_ways
    other_ends z among = all_if (End zones SaidOf By) (lacking (levels_of true zones) q.labels z).lacks [] (speaker_ways (levels_of true zones) q.labels false z) (λ e. tt) (λ e. speaker_ends z false among)

    denials_end : (is_dname : Bool) (zs : List SpeakerFacts) → ((z : SpeakerFacts) → IsAmong z zs → IsAmong z q.speakers.items)
        → AllByRecursion (End zones SaidOf By) (denial_ways (levels_of true zones) q.labels is_dname zs)
    denials_end is_dname [] those = (none_missing, tt)
      where
        none_missing : End zones SaidOf By (fault class.Missing (said.AnswerMissing None))
        none_missing k (inl there) = absurd there
        none_missing k (inr there) = absurd (⊎_elim (λ (e : said.Trust (told.Follows k) ≡ said.AnswerMissing None). let never : ⊥ = cc e in never) (λ (none : ⊥). none) there)
    denials_end is_dname (z ∷ zs) those =
        all_append (End zones SaidOf By) (speaker_ways (levels_of true zones) q.labels is_dname z) (if is_dname then [] else flat_map (other_ways (levels_of true zones) q.labels) zs)
        (speaker_ends z is_dname (those z (inl refl)))
        (all_if (End zones SaidOf By) is_dname [] (flat_map (other_ways (levels_of true zones) q.labels) zs) (λ e. tt)
        (λ e. all_flat (End zones SaidOf By) (other_ways (levels_of true zones) q.labels) zs (λ other among. other_ends other (those other (inr among)))))

    -- ---- unsigned delegations

    cut_case : (z : ParentFacts) → IsAmong z q.parents.items → (c : CutFacts) → IsAmong c z.cuts.items → (o : Option Remedied)
        → cut_least (levels_of true zones) z.labels c ≡ o → AllByRecursion (End zones SaidOf By) (cut_after (zone_kept (levels_of true zones) z.labels) z c.name o)
    cut_case z among c in_cuts None is = tt
    cut_case z among c in_cuts (Some m) is =
        let levels = levels_of true zones in
        let f = its.leads z among in
        after_zone zones SaidOf By z.labels (zone_kept levels z.labels) (ended (said.DsUnproved (record { zone = z.labels; name = c.name })) (with_unusable z.unusable.items m)) (zone_leads z.labels)
        (cut_tells (IsOwnBy zones SaidOf By z.labels) (IsRrsetBy zones SaidOf By z.labels) levels q.labels (own_names z.labels q.labels) z (its.parents z among) (fits_by zones SaidOf By z.labels f.0 f.1) c in_cuts m is)

    cut_ends : (z : ParentFacts) → IsAmong z q.parents.items → (c : CutFacts) → IsAmong c z.cuts.items → AllByRecursion (End zones SaidOf By) (cut_ways (levels_of true zones) z c)
    unfolding cut_ways
    cut_ends z among c in_cuts = all_if (End zones SaidOf By) (is_way (levels_of true zones) z.labels c)
        (cut_after (zone_kept (levels_of true zones) z.labels) z c.name (cut_least (levels_of true zones) z.labels c)) []
        (λ e. cut_case z among c in_cuts (cut_least (levels_of true zones) z.labels c) refl) (λ e. tt)

    parent_ends : (z : ParentFacts) → IsAmong z q.parents.items → AllByRecursion (End zones SaidOf By) (parent_ways (levels_of true zones) z)
    unfolding parent_ways
    parent_ends z among = all_flat (End zones SaidOf By) (cut_ways (levels_of true zones) z) z.cuts.items (λ c in_cuts. cut_ends z among c in_cuts)

    -- ---- the question

    question_ends : AllByRecursion (End zones SaidOf By) (question_ways (levels_of true zones) q)
    question_ends =
        let levels = levels_of true zones in
        all_append (End zones SaidOf By) (answer_or_denial levels q) (flat_map (parent_ways levels) q.parents.items)
        (all_if (End zones SaidOf By) (is_none q.goals.items) (denial_ways levels q.labels (is_below_dname q) q.speakers.items)
        (flat_map (goal_ways levels (zone_above levels) (is_below_dname q)) q.goals.items)
        (λ e. denials_end (is_below_dname q) q.speakers.items (λ z among. among))
        (λ e. all_flat (End zones SaidOf By) (goal_ways levels (zone_above levels) (is_below_dname q)) q.goals.items (λ g among. goal_ends g among)))
        (all_flat (End zones SaidOf By) (parent_ways levels) q.parents.items parent_ends)

    -- a line that is told: a reason of the untrusted zone stands beside it
    pub record EndsAmong (k : SignatureNumber) (lines : List Said) : Type 0 where
      pub c : ℕ
      pub by : By k c
      pub untrusted : IsUntrusted zones c
      pub d : ℕ
      pub within : d ≤ c
      pub t : Told
      pub there : IsAmong (said.Trust t) lines
      pub is : trust.is_reason t ≡ true
      pub said_of : SaidOf d t

    no_dname : (ds : List DnameFacts) (k : SignatureNumber) → IsAmong (said.Trust (told.Follows k)) (map dname_line ds) → ⊥
    unfolding dname_line
    no_dname [] k among = among
    no_dname (d ∷ ds) k among = ⊎_elim (λ (e : said.Trust (told.Follows k) ≡ said.Dname d). let never : ⊥ = cc e in never)
        (λ (e : IsAmong (said.Trust (told.Follows k)) (map dname_line ds)). no_dname ds k e) among

    lines_case : (o : Option Remedied) → ((m : Remedied) → o ≡ Some m → End zones SaidOf By m) → (k : SignatureNumber) → IsAmong (said.Trust (told.Follows k)) (all_lines q o)
        → EndsAmong k (all_lines q o)
    lines_case None each k among = absurd (no_dname q.dnames.items k among)
    lines_case (Some m) each k among =
        let dnames = map dname_line q.dnames.items in
        let lines = (m.chain ++ dnames) ++ m.own in
        let to : (t : Told) → In t m → IsAmong (said.Trust t) lines = to_all m in
        let found = each m refl k (⊎_elim
        (λ (h : IsAmong (said.Trust (told.Follows k)) (m.chain ++ dnames)). ⊎_elim
        (λ (a : IsAmong (said.Trust (told.Follows k)) m.chain). inl a)
        (λ (d : IsAmong (said.Trust (told.Follows k)) dnames). absurd (no_dname q.dnames.items k d))
        (among_parts (said.Trust (told.Follows k)) m.chain dnames h))
        (λ (h : IsAmong (said.Trust (told.Follows k)) m.own). inr h)
        (among_parts (said.Trust (told.Follows k)) (m.chain ++ dnames) m.own among)) in
        record {
          c = found.c;
          by = found.by;
          untrusted = found.untrusted;
          d = found.reason.c;
          within = found.reason.within;
          t = found.reason.t;
          there = to found.reason.t found.reason.there;
          is = found.reason.is;
          said_of = found.reason.said;
        }
      where
        to_all : (m : Remedied) (t : Told) → In t m → IsAmong (said.Trust t) ((m.chain ++ map dname_line q.dnames.items) ++ m.own)
        to_all m t (inl h) = among_left (said.Trust t) (m.chain ++ map dname_line q.dnames.items) m.own
            (among_left (said.Trust t) m.chain (map dname_line q.dnames.items) h)
        to_all m t (inr h) = among_right (said.Trust t) (m.chain ++ map dname_line q.dnames.items) m.own h

    pub lines_end : (k : SignatureNumber) → IsAmong (said.Trust (told.Follows k)) (all_lines q (question_remedy (levels_of true zones) q))
        → EndsAmong k (all_lines q (question_remedy (levels_of true zones) q))
    lines_end k among = lines_case (question_remedy (levels_of true zones) q) (λ m is. of_least (End zones SaidOf By) (question_ways (levels_of true zones) q) m question_ends is) k among
