-- Which records of a question's source say a word.
use Rattle.std.proofs.Common.{◌≡◌, ◌↔◌, ◌<◌, ℕ, List, map, sym, subst, arith}
use Rattle.std.specs.List.{AllByRecursion}
use Rattle.std.specs.List.Sorted.{IsStrictlySortedBy}
use Rattle.std.specs.Prelude.{Contains}
use Rattle.dnsv_names.specs.Name.{Labels}
use Rattle.dnsv_canonical.proofs.OrderLemmas.{each_member, each_of}
use Rattle.dnsv_canonical.specs.declared.number.RecordNumber.{RecordNumber}
use Rattle.std.proofs.lemmas.List.Elements.{Contains-get_or}
use Rattle.dnsv_proof_forms.proofs.lemmas.words.IndexLemmas.{SayAlike, SaysAlike}
use Rattle.dnsv_proof_forms.specs.records.Numbers.{number_at, numbers_of, record_count}
use Rattle.dnsv_proof_forms.specs.words.Asked.{asked_name, said_word}
use Rattle.dnsv_proof_forms.specs.words.ChainSaid.{chain_said}
use Rattle.dnsv_proof_forms.specs.records.Numbers.{number_cmp}
use Rattle.dnsv_proof_forms.specs.words.SaidAt.{AreAllPlaces}
use Rattle.dnsv_proof_forms.specs.declared.words.asked.AskedName.{AskedName}
use Rattle.dnsv_proof_forms.specs.declared.words.asked.AskedWord.{AskedWord}
use Rattle.dnsv_gaps.proofs.RisingLemmas.{mapped_from}
use Rattle.dnsv_gaps.proofs.SourceLemmas.{alike, count_is, in_evidence, in_order, sayings_members, sayings_rising, some_said, word_alike}
use Rattle.dnsv_gaps.specs.Asking.{asking}
use Rattle.dnsv_gaps.specs.Parts.{IsInEvidence}
use Rattle.dnsv_gaps.specs.SourceSearch.{AreSaying, IsSourceIn, Says, said_in, zone_in}
use Rattle.dnsv_gaps.specs.declared.asked.AskedQuestion.{AskedQuestion}
use Rattle.dnsv_gaps.specs.declared.sources.ZoneSource.{ZoneSource}

module _ (question : AskedQuestion) (source : ZoneSource) (is : IsSourceIn question source) where
  abbrev pub zone : Labels
  zone = zone_in question source.labels

  abbrev pub numbers : List RecordNumber
  numbers = numbers_of source.records

  pub rising : IsStrictlySortedBy number_cmp numbers
  rising = in_order (asking question) zone source.records is.its

  pub all_alike : SayAlike numbers (chain_said zone source.records) (said_in question source)
  all_alike = alike (asking question) zone source.records is.its

  pub its_evidence : (place : ℕ) → place < record_count source.records
      → IsInEvidence question.facts.now.rrsets (number_at numbers place)
  its_evidence place within =
      let count = count_is source.records in
      each_of (IsInEvidence question.facts.now.rrsets) numbers (number_at numbers place) (in_evidence (asking question) zone source.records is.its)
      (Contains-get_or numbers place (record { rrset = 0; place = 0 }) (omega (arith, count, within)))

  module _ (asked : AskedName) (told : AskedWord) where
    abbrev pub By : ℕ → Type 0
    By = said_word (chain_said zone source.records) told (asked_name question.name.now asked)

    pub says_alike : SaysAlike numbers By (Says question source asked told)
    says_alike = word_alike numbers (chain_said zone source.records) (said_in question source) all_alike told (asked_name question.name.now asked)

    pub saying : (places : List ℕ) → AreAllPlaces By places → (found : List RecordNumber) → found ≡ map (number_at numbers) places
        → AreSaying question source asked told found
    saying places all found are = subst (AreSaying question source asked told) (sym are) (record {
      rising = sayings_rising numbers rising By (Says question source asked told) says_alike places all;
      members = sayings_members numbers rising By (Says question source asked told) says_alike places all;
    })

    pub has_one : (places : List ℕ) → AreAllPlaces By places
        → ((place : ℕ) × Contains places place) ↔ ((n : RecordNumber) × Says question source asked told n)
    has_one places all = some_said numbers rising By (Says question source asked told) says_alike places all

    pub all_in_evidence : (places : List ℕ) → ((place : ℕ) → Contains places place → place < record_count source.records)
        → (found : List RecordNumber) → found ≡ map (number_at numbers) places
        → AllByRecursion (IsInEvidence question.facts.now.rrsets) found
    all_in_evidence places within found are =
        subst (AllByRecursion (IsInEvidence question.facts.now.rrsets)) (sym are)
        (each_member (IsInEvidence question.facts.now.rrsets) (map (number_at numbers) places) (λ n there.
        let of = mapped_from (number_at numbers) places n there in
        subst (IsInEvidence question.facts.now.rrsets) of.2 (its_evidence of.0 (within of.0 of.1))))
