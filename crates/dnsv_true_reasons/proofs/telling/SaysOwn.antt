-- What holds of each line that may be told of a question holds of what a zone is asked for.
use Rattle.std.proofs.Common.{if◌then◌else◌, ◌≡◌, ℕ, ◌<◌, ◌≤◌, Bool, true, false, List, [], ◌∷◌, Option, Some, None, map, flat_map, refl, subst, arith}
use Rattle.std.proofs.lemmas.Option.{same_Some}
use Rattle.std.specs.List.{AllByRecursion}
use Rattle.dnsv_lines.specs.declared.line.denial.Role.TheVariants as role
use Rattle.dnsv_lines.specs.declared.line.fault.denial.WhySource.{WhySource}
use Rattle.dnsv_lines.specs.declared.line.fault.denial.WhySource.TheVariants as why
use Rattle.dnsv_mending.specs.Level.{Leveled}
use Rattle.dnsv_mending.specs.Mend.{is_none}
use Rattle.dnsv_mending.specs.Ways.{IsAmong}
use Rattle.dnsv_mending.specs.Within.{within_ways}
use Rattle.dnsv_mending.specs.declared.facts.signature.RrsetFacts.{RrsetFacts}
use Rattle.dnsv_mending.specs.declared.facts.signature.SignatureFacts.{SignatureFacts}
use Rattle.dnsv_mending.specs.declared.price.Class.TheVariants as class
use Rattle.dnsv_mending.proofs.AllWays.{all_flat, none_some}
use Rattle.dnsv_remedies.specs.Answers.{closer_remedy}
use Rattle.dnsv_remedies.specs.Cuts.{cut_least, cut_remedy, cut_source_ways, opt_out_remedy, signed_remedy, source_remedy}
use Rattle.dnsv_remedies.specs.Cuts as cuts
use Rattle.dnsv_remedies.specs.Denials.{denial, lacking}
use Rattle.dnsv_remedies.specs.Parts.{part, part_of_one}
use Rattle.dnsv_remedies.specs.Remedy.{Remedied, both, ended, fault, gap, least, missing, nothing, or_gap, unusable_lines, with_unusable}
use Rattle.dnsv_remedies.specs.Sources.{at_remedy, case_remedy, closed_line, held_line, next_remedy, shown_remedy, source_ways, wildcard_remedy}
use Rattle.dnsv_remedies.specs.Sources as sources
use Rattle.dnsv_remedies.specs.declared.facts.answer.AnswerSignature.{AnswerSignature}
use Rattle.dnsv_remedies.specs.declared.facts.answer.CloserFacts.{CloserFacts}
use Rattle.dnsv_remedies.specs.declared.facts.cut.CutCase.{CutCase}
use Rattle.dnsv_remedies.specs.declared.facts.cut.CutCase.TheVariants as cut
use Rattle.dnsv_remedies.specs.declared.facts.cut.CutFacts.{CutFacts}
use Rattle.dnsv_remedies.specs.declared.facts.cut.CutSource.{CutSource}
use Rattle.dnsv_remedies.specs.declared.facts.cut.ParentFacts.{ParentFacts}
use Rattle.dnsv_remedies.specs.declared.facts.denial.ClosedFacts.{ClosedFacts}
use Rattle.dnsv_remedies.specs.declared.facts.denial.RecordsAt.{RecordsAt}
use Rattle.dnsv_remedies.specs.declared.facts.denial.RecordsAt.TheVariants as records
use Rattle.dnsv_remedies.specs.declared.facts.denial.SourceCase.{SourceCase}
use Rattle.dnsv_remedies.specs.declared.facts.denial.SourceCase.TheVariants as case
use Rattle.dnsv_remedies.specs.declared.facts.denial.SourceFacts.{SourceFacts}
use Rattle.dnsv_remedies.specs.declared.facts.denial.SpeakerFacts.{SpeakerFacts}
use Rattle.dnsv_remedies.specs.declared.facts.denial.WildcardFacts.{WildcardFacts}
use Rattle.dnsv_remedies.specs.declared.facts.denial.WildcardFacts.TheVariants as wildcard
use Rattle.dnsv_remedies.specs.declared.facts.name.AskedName.{AskedName}
use Rattle.dnsv_remedies.specs.declared.facts.name.AskedName.TheVariants as name
use Rattle.dnsv_remedies.specs.declared.facts.name.SourceNumber.{SourceNumber}
use Rattle.dnsv_remedies.specs.declared.said.Said.{Said}
use Rattle.dnsv_remedies.specs.declared.said.Said.TheVariants as said
use Rattle.dnsv_remedies.proofs.Told.{of_least, of_least_or_gap}
use Rattle.dnsv_true_reasons.proofs.telling.Says.{Says, all_of_map}
use Rattle.dnsv_true_reasons.proofs.telling.SaysParts.{IsTellable, SaysAt, SaysCase, SaysCloser, SaysCut, SaysNames, SaysParent, SaysRrsets, SaysSource, SaysSpeaker, SaysWildcard, Tells, TrustOf, tells_nothing, tells_missing, tells_fault, tells_both, tells_ended, all_unusable, tells_unusable, tells_ways, tells_part, tells_one}

itself : (n : ℕ) → n ≤ n
itself n = omega arith

module _ (Q : Said → Type 0) (Fit : RrsetFacts → Type 0) where
  -- ---- sources

  -- an RRset that is such says so within the zone
  abbrev pub FitsWithin : List Leveled → ℕ → Type 0
  FitsWithin levels zone = (r : RrsetFacts) → Fit r → AllByRecursion (Says (TrustOf Q)) (within_ways levels zone r)

  module _ (levels : List Leveled) (labels : ℕ) (n : SourceNumber) (source : SaysSource Q labels n) (fits : FitsWithin levels n.zone) where
    part_tells : (rrsets : List RrsetFacts) (lines : List Said) → SaysRrsets Fit rrsets → AllByRecursion Q lines → Tells Q (part levels n.zone rrsets lines)
    part_tells rrsets lines each all = tells_part Q levels n.zone rrsets lines (λ r among. fits r (each r among)) all

    held_each : (x : AskedName) (held : List WhySource) → IsTellable labels x → AllByRecursion Q (map (held_line n x) held)
    unfolding held_line
    held_each x held h = all_of_map Q (held_line n x) held (λ w among. source w x h)

    tells_at : (x : AskedName) (r : RecordsAt) → IsTellable labels x → SaysAt Fit r → Tells Q (at_remedy levels n x r)
    tells_at x (records.Denying rrsets) h each = part_tells rrsets.items [] each tt
    tells_at x (records.Holding held) h each =
        let lines = map (held_line n x) held.held.items in
        tells_both Q (part levels n.zone held.rrsets.items []) (missing class.Lacking lines)
        (part_tells held.rrsets.items [] each tt) (tells_missing Q class.Lacking lines (held_each x held.held.items h))

    tells_wildcard : (ce : ℕ) (w : WildcardFacts) → ce < labels → SaysWildcard Fit w → Tells Q (wildcard_remedy levels n ce w)
    tells_wildcard ce wildcard.OptedOut h each = tells_nothing Q
    tells_wildcard ce (wildcard.At r) h each = tells_at (name.Wildcard ce) r h each
    tells_wildcard ce (wildcard.Covered rrsets) h each =
        part_tells rrsets.items (said.Source (why.CoverMissing role.Wildcard) n (name.Wildcard ce) ∷ []) each
        (source (why.CoverMissing role.Wildcard) (name.Wildcard ce) h, tt)

    shown_case : (t : Bool) (rrsets : List RrsetFacts) → SaysRrsets Fit rrsets → Tells Q (if t then nothing else part levels n.zone rrsets [])
    shown_case true rrsets each = tells_nothing Q
    shown_case false rrsets each = part_tells rrsets [] each tt

    closed_case : (c : ClosedFacts) (t : Bool) → SaysNames Q labels → c.name ≤ labels
        → Q (if t then said.DnameHeld c.name c.number else said.Source (why.Delegation c.number) n (name.At c.name))
    closed_case c true names h = names.dname_held c.name c.number h
    closed_case c false names h = source (why.Delegation c.number) (name.At c.name) h

    pub tells_case : (c : SourceCase) → labels ≤ labels → SaysNames Q labels → SaysCase Fit labels c → Tells Q (case_remedy levels labels n c)
    tells_case (case.Closed c) all names of = tells_both Q (part_of_one levels n.zone c.rrset) (missing class.Missing (closed_line n c ∷ []))
        (tells_one Q levels n.zone c.rrset (fits c.rrset of.1)) (tells_missing Q class.Missing (closed_line n c ∷ []) (closed_case c c.is_dname names of.0, tt))
    tells_case (case.At r) all names of = tells_at (name.At labels) r all of
    tells_case case.Apex all names of =
        tells_missing Q class.Lacking (said.Source why.MatchMissing n (name.At labels) ∷ []) (source why.MatchMissing (name.At labels) all, tt)
    tells_case (case.NonTerminal rrsets) all names of = part_tells rrsets.items [] of tt
    tells_case case.NoEncloser all names of = tells_missing Q class.Lacking
        (said.Source why.EncloserMissing n (name.At labels) ∷ said.Source why.MatchMissing n (name.At labels) ∷ [])
        (source why.EncloserMissing (name.At labels) all, (source why.MatchMissing (name.At labels) all, tt))
    tells_case (case.Encloser e) all names of =
        let next = next_remedy levels labels n e in
        let wild = wildcard_remedy levels n e.name e.wildcard in
        tells_both Q (shown_remedy levels n e.shown.items) (both next wild) (shown_case (is_none e.shown.items) e.shown.items of.2)
        (tells_both Q next wild
        (part_tells e.covers.items
        (said.Source (why.CoverMissing role.NextCloser) n (name.At e.next) ∷ said.Source why.MatchMissing n (name.At labels) ∷ []) of.3
        (source (why.CoverMissing role.NextCloser) (name.At e.next) of.1, (source why.MatchMissing (name.At labels) all, tt)))
        (tells_wildcard e.name e.wildcard of.0 of.4))

    pub tells_cut : (c : ℕ) (x : CutCase) (m : Remedied) → c ≤ labels → SaysCut Fit x → cut_remedy levels n c x ≡ Some m → Tells Q m
    tells_cut c (cut.Delegation rrsets) m h of is = subst (Tells Q) (same_Some (part levels n.zone rrsets.items []) m is) (part_tells rrsets.items [] of tt)
    tells_cut c cut.NoCut m h of is = absurd (none_some m is)
    tells_cut c (cut.Signed s) m h of is =
        let lines = said.Source (why.TypeHeld s.number s.held) n (name.At c) ∷ [] in
        subst (Tells Q) (same_Some (signed_remedy levels n c s) m is) (tells_both Q (part_of_one levels n.zone s.rrset) (missing class.Lacking lines)
        (tells_one Q levels n.zone s.rrset (fits s.rrset of)) (tells_missing Q class.Lacking lines (source (why.TypeHeld s.number s.held) (name.At c) h, tt)))
    tells_cut c (cut.OptOut o) m h of is =
        let lines = said.Source why.EncloserMissing n (name.At c) ∷ [] in
        subst (Tells Q) (same_Some (opt_out_remedy levels n c o) m is)
        (tells_both Q (part levels n.zone o.shown.items lines) (part levels n.zone o.covers.items [])
        (part_tells o.shown.items lines of.0 (source why.EncloserMissing (name.At c) h, tt)) (part_tells o.covers.items [] of.1 tt))
    tells_cut c cut.Uncovered m h of is =
        let lines = said.Source (why.CoverMissing role.Cut) n (name.At c) ∷ [] in
        subst (Tells Q) (same_Some (missing class.Lacking lines) m is)
        (tells_missing Q class.Lacking lines (source (why.CoverMissing role.Cut) (name.At c) h, tt))
    tells_cut c cut.Unmatched m h of is =
        let lines = said.Source why.MatchMissing n (name.At c) ∷ [] in
        subst (Tells Q) (same_Some (missing class.Lacking lines) m is) (tells_missing Q class.Lacking lines (source why.MatchMissing (name.At c) h, tt))

  -- ---- closers

  closer_case : (levels : List Leveled) (s : SignatureFacts) (o : Option CloserFacts) → FitsWithin levels s.signer
      → ((c : CloserFacts) → o ≡ Some c → SaysCloser Q Fit s c) → Tells Q (closer_remedy levels s o)
  closer_case levels s None fits each = tells_nothing Q
  closer_case levels s (Some c) fits each =
      let says = each c refl in
      let found = part levels s.signer c.covers.items (unusable_lines c.unusable.items) in
      tells_ended Q (said.NoCloser s.number c.name) found says.itself
      (tells_part Q levels s.signer c.covers.items (unusable_lines c.unusable.items) (λ r among. fits r (says.covers r among)) (all_unusable Q c.unusable.items says.unusable))

  pub closer_tells : (levels : List Leveled) (s : AnswerSignature) → FitsWithin levels s.signature.signer
      → ((c : CloserFacts) → s.closer ≡ Some c → SaysCloser Q Fit s.signature c) → Tells Q (closer_remedy levels s.signature s.closer)
  closer_tells levels s fits each = closer_case levels s.signature s.closer fits each

  -- ---- denials

  module _ (levels : List Leveled) (labels : ℕ) (names : SaysNames Q labels) (z : SpeakerFacts) (says : SaysSpeaker Q Fit labels z) (fits : FitsWithin levels z.labels) where
    source_tells : (s : SourceFacts) → IsAmong s z.sources.items → AllByRecursion (Tells Q) (source_ways levels labels z.labels s)
    unfolding source_ways
    source_tells s among = (
      tells_case levels labels (sources.number_of z.labels s) (says.sources s among) fits s.case (itself labels) names (says.cases s among),
      tt,
    )

    lacking_tells : Tells Q (lacking levels labels z)
    lacking_tells =
        let ways = flat_map (source_ways levels labels z.labels) z.sources.items in
        tells_unusable Q z.unusable.items (or_gap (least ways)) says.unusable
        (of_least_or_gap (Tells Q) ways (tells_missing Q class.Lacking [] tt)
        (all_flat (Tells Q) (source_ways levels labels z.labels) z.sources.items source_tells))

    gap_or : (t : Bool) → Tells Q (if t then gap else lacking levels labels z)
    gap_or true = tells_missing Q class.Lacking [] tt
    gap_or false = lacking_tells

    denial_case : (is_dname t : Bool)
        → Tells Q (if t then ended (said.DenialUnproved z.labels) (if is_dname then gap else lacking levels labels z)
        else fault class.Missing (said.AnswerMissing (Some z.labels)))
    denial_case is_dname true = tells_ended Q (said.DenialUnproved z.labels) (if is_dname then gap else lacking levels labels z)
        (names.unproved z.labels says.within) (gap_or is_dname)
    denial_case is_dname false = tells_fault Q class.Missing (said.AnswerMissing (Some z.labels)) (names.missing_of z.labels says.within)

    pub denial_tells : (is_dname : Bool) → Tells Q (denial levels labels is_dname z)
    denial_tells is_dname = denial_case is_dname z.has_denials

  -- ---- unsigned delegations

  module _ (levels : List Leveled) (labels : ℕ) (names : SaysNames Q labels) (z : ParentFacts) (says : SaysParent Q Fit labels z) (fits : FitsWithin levels z.labels)
      (c : CutFacts) (among_c : IsAmong c z.cuts.items) where
    cut_source_tells : (s : CutSource) → IsAmong s c.sources.items → AllByRecursion (Tells Q) (cut_source_ways levels z.labels c.name s)
    unfolding cut_source_ways
    cut_source_tells s among = tells_ways Q (source_remedy levels z.labels c.name s)
        (λ m is. tells_cut levels labels (cuts.number_of z.labels s) (says.sources c s among_c among) fits c.name s.case m
        (says.names c among_c) (says.cases c s among_c among) is)

    least_case : (t : Bool) (m : Remedied)
        → (if t then Some gap else least (flat_map (cut_source_ways levels z.labels c.name) c.sources.items)) ≡ Some m → Tells Q m
    least_case true m is = subst (Tells Q) (same_Some gap m is) (tells_missing Q class.Lacking [] tt)
    least_case false m is = of_least (Tells Q) (flat_map (cut_source_ways levels z.labels c.name) c.sources.items) m
        (all_flat (Tells Q) (cut_source_ways levels z.labels c.name) c.sources.items cut_source_tells) is

    pub cut_tells : (m : Remedied) → cut_least levels z.labels c ≡ Some m
        → Tells Q (ended (said.DsUnproved (record { zone = z.labels; name = c.name })) (with_unusable z.unusable.items m))
    cut_tells m is = tells_ended Q (said.DsUnproved (record { zone = z.labels; name = c.name })) (with_unusable z.unusable.items m)
        (names.ds_unproved z.labels c.name says.within (says.names c among_c)) (tells_unusable Q z.unusable.items m says.unusable (least_case (is_none c.sources.items) m is))
