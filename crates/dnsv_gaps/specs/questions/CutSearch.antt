-- How names that may be unsigned delegations are looked for. No public clause cites this module.
use Rattle.std.specs.Prelude.{◌-◌, ◌≤◌, ◌<◌, ℕ, Bool, if◌then◌else◌, List, Contains, Option, Some, None, length}
use Rattle.dnsv_names.specs.Name.{rightmost}
use Rattle.dnsv_zones.specs.forms.Parts.{IsFirstToSay}
use Rattle.dnsv_zones.specs.zones.TypeNumbers.{ds, soa}
use Rattle.dnsv_canonical.specs.declared.number.RecordNumber.{RecordNumber}
use Rattle.dnsv_proof_forms.specs.records.Numbers.{number_at, numbers_of, record_count}
use Rattle.dnsv_proof_forms.specs.words.Asked.{asked_name, said_word}
use Rattle.dnsv_proof_forms.specs.words.ChainSaid.{chain_said}
use Rattle.dnsv_proof_forms.specs.declared.words.asked.AskedName.{AskedName}
use Rattle.dnsv_proof_forms.specs.declared.words.asked.AskedTypes.TheVariants as types
use Rattle.dnsv_proof_forms.specs.declared.words.asked.AskedWord.{AskedWord}
use Rattle.dnsv_proof_forms.specs.declared.words.asked.AskedWord.TheVariants as word
use Rattle.dnsv_remedies.specs.declared.facts.cut.CutCase.{CutCase}
use Rattle.dnsv_gaps.specs.Asking.{Asking, IsAsked, asking}
use Rattle.dnsv_proof_forms.specs.records.Numbers.{number_cmp}
use Rattle.dnsv_gaps.specs.Cases.{IsAt}
use Rattle.dnsv_gaps.specs.questions.Cuts.{HasOptOut, IsCutCase, IsNext, IsSeen, IsShown, lowest_cut}
use Rattle.dnsv_gaps.specs.SourceSearch.{AreHeldSources, chain_of, held_chain, said_in, zone_in}
use Rattle.dnsv_gaps.specs.Sources.{source_said}
use Rattle.dnsv_gaps.specs.declared.asked.AskedQuestion.{AskedQuestion}
use Rattle.dnsv_gaps.specs.declared.question.cuts.ParentZone.{ParentZone}
use Rattle.dnsv_gaps.specs.declared.sources.HeldSource.{HeldSource}
use Rattle.dnsv_gaps.specs.declared.sources.ZoneSource.{ZoneSource}

-- what is kept of a zone is its own
pub record IsParentZone (parent : ParentZone) : Type 0 where
  pub asked : IsAsked parent.question.now
  pub within : parent.labels ≤ length parent.question.now.name.now
  pub next : IsNext (asking parent.question.now) parent.labels parent.next
  pub sources : AreHeldSources parent.question.now parent.labels parent.sources.now

-- the case is the one that is so of the name with c labels, by what the source says
abbrev pub IsCaseOfCut : AskedQuestion → ZoneSource → ℕ → CutCase → Type 0
IsCaseOfCut question source c = IsCutCase (asking question).basis (said_in question source)
    (HasOptOut (asking question) (zone_in question source.labels) (chain_of source.records))
    (rightmost question.name.now (c - 1)) (rightmost question.name.now c)

-- a record of one of the sources says so of the name
pub record IsSaidByOne (question : AskedQuestion) (zone : ℕ) (asked : AskedName) (word : AskedWord) (sources : List HeldSource)
    (number : RecordNumber) : Type 0 where
  pub held : HeldSource
  pub among : Contains sources held
  pub says : said_word (source_said (asking question) (zone_in question zone) (held_chain held)) word
      (asked_name question.name.now asked) number

-- the first name below the zone that is seen as a delegation has so many labels, if there is one
abbrev pub IsFirstSeen : Asking → ℕ → Option ℕ → Option ℕ → Type 0
IsFirstSeen a zone next None = (c : ℕ) → zone < c → c ≤ lowest_cut a → ¬ IsSeen a (rightmost a.name zone) next c
IsFirstSeen a zone next (Some shown) = (zone < shown) × (shown ≤ lowest_cut a) × IsShown a zone next shown

-- the record at the place is at the name with c labels, and has the lowest number of those of the source that are
pub record IsLowestPlace (question : AskedQuestion) (source : ZoneSource) (c place : ℕ) : Type 0 where
  pub within : place < record_count source.records
  pub at : said_word (chain_said (zone_in question source.labels) source.records) (word.Types types.Any) (rightmost question.name.now c) place
  pub lowest : IsFirstToSay number_cmp (IsAt (said_in question source) (rightmost question.name.now c)) (number_at (numbers_of source.records) place)

-- DS, where it is there; else SOA
abbrev pub held_instead : (ℕ → Bool) → ℕ
held_instead has = if has ds then ds else soa
