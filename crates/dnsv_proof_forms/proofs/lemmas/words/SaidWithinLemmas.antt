-- Where records say a word is a place of theirs.
use Rattle.std.proofs.Common.{◌⊎◌, ℕ, ◌<◌, ⊎_elim}
use Rattle.dnsv_names.specs.Name.{Labels}
use Rattle.dnsv_proof_forms.specs.records.Numbers.{record_count}
use Rattle.dnsv_proof_forms.specs.words.Asked.{said_types, said_word}
use Rattle.dnsv_proof_forms.specs.words.ChainSaid.{chain_said}
use Rattle.dnsv_proof_forms.specs.declared.records.chain_records.ChainRecords.{ChainRecords}
use Rattle.dnsv_proof_forms.specs.declared.words.asked.AskedWord.{AskedWord}
use Rattle.dnsv_proof_forms.specs.declared.words.asked.AskedWord.TheVariants as word
use Rattle.dnsv_proof_forms.proofs.lemmas.forms.BoundLemmas.{chain_bound}

pub said_within : (apex : Labels) (records : ChainRecords) (asked : AskedWord) (name : Labels) (place : ℕ)
    → said_word (chain_said apex records) asked name place → place < record_count records
said_within apex records word.Encloser name place said = (chain_bound apex records).encloser name place said
said_within apex records word.Absent name place said = (chain_bound apex records).absent name place said
said_within apex records word.EmptyNonTerminal name place said = (chain_bound apex records).empty_non_terminal name place said
said_within apex records word.OptedOut name place said = (chain_bound apex records).opted_out name place said
said_within apex records word.Covered name place said = ⊎_elim
    (λ (absent : (chain_said apex records).Absent name place). (chain_bound apex records).absent name place absent)
    (λ (opted : (chain_said apex records).OptedOut name place). (chain_bound apex records).opted_out name place opted) said
said_within apex records word.RuledOut name place said = ⊎_elim
    (λ (absent : (chain_said apex records).Absent name place). (chain_bound apex records).absent name place absent)
    (λ (rest : (chain_said apex records).OptedOut name place ⊎ (chain_said apex records).EmptyNonTerminal name place). ⊎_elim
    (λ (opted : (chain_said apex records).OptedOut name place). (chain_bound apex records).opted_out name place opted)
    (λ (empty : (chain_said apex records).EmptyNonTerminal name place). (chain_bound apex records).empty_non_terminal name place empty) rest) said
said_within apex records (word.Types types) name place said = (chain_bound apex records).types_at name (said_types types) place said
