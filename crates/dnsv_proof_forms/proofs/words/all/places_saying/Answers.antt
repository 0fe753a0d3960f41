use Rattle.std.proofs.Common.{[], sym, subst}
use Rattle.dnsv_zones.specs.forms.Said.{nsec_records_say, nsec3_records_say}
use Rattle.dnsv_proof_forms.specs.records.AskedHash.{hash_of}
use Rattle.dnsv_proof_forms.specs.records.Record.{read_entry, read_nsec3}
use Rattle.dnsv_proof_forms.specs.words.Asked.{asked_name, said_word}
use Rattle.dnsv_proof_forms.specs.words.ChainSaid.{chain_said, HasHashes}
use Rattle.dnsv_proof_forms.specs.words.SaidAt.{AreAllPlaces, IsSaidAt}
use Rattle.dnsv_proof_forms.proofs.lemmas.words.SaidWithinLemmas.{said_within}
use Rattle.dnsv_proof_forms.proofs.words.all.places_saying.Goals as goal

pub returns-in_ok-nsec_places-in-Nsec-clause-all : goal.returns-in_ok-nsec_places-in-Nsec-clause-all
returns-in_ok-nsec_places-in-Nsec-clause-all c = λ apex.
    subst (λ records. AreAllPlaces (said_word (chain_said apex records) c.args.word (asked_name c.args.name.now c.args.asked)) c.in_ok-nsec_places-in-Nsec.field-0.items) (sym c.in-Nsec.is)
    (subst (λ name. AreAllPlaces (said_word (nsec_records_say apex (λ Says. IsSaidAt (λ entry. Says (read_entry entry)) c.in-Nsec.entries.now)) c.args.word name) c.in_ok-nsec_places-in-Nsec.field-0.items)
    c.of.ensures (c.in_ok-nsec_places-in-Nsec.ensures apex))

pub returns-in_ok-nsec_places-in-Nsec-clause-within : goal.returns-in_ok-nsec_places-in-Nsec-clause-within
returns-in_ok-nsec_places-in-Nsec-clause-within c = λ place among.
    said_within [] c.args.records.now c.args.word (asked_name c.args.name.now c.args.asked) place (((returns-in_ok-nsec_places-in-Nsec-clause-all c []).members place).0 among)

pub returns-in_ok-nsec3_places-in-Nsec3-clause-all : goal.returns-in_ok-nsec3_places-in-Nsec3-clause-all
returns-in_ok-nsec3_places-in-Nsec3-clause-all c = λ apex.
    let hashes = subst (HasHashes c.args.name.now) c.in-Nsec3.is c.requires.hashes in
    subst (λ records. AreAllPlaces (said_word (chain_said apex records) c.args.word (asked_name c.args.name.now c.args.asked)) c.in_ok-nsec3_places-in-Nsec3.field-0.items) (sym c.in-Nsec3.is)
    (subst (λ name. AreAllPlaces (said_word (nsec3_records_say (hash_of c.in-Nsec3.hashed.now) (λ Says. IsSaidAt (λ entry. Says (read_nsec3 entry)) c.in-Nsec3.hashed.now.entries.now)) c.args.word
    (asked_name name c.args.asked)) c.in_ok-nsec3_places-in-Nsec3.field-0.items) hashes.0 c.in_ok-nsec3_places-in-Nsec3.ensures)

pub returns-in_ok-nsec3_places-in-Nsec3-clause-within : goal.returns-in_ok-nsec3_places-in-Nsec3-clause-within
returns-in_ok-nsec3_places-in-Nsec3-clause-within c = λ place among.
    said_within [] c.args.records.now c.args.word (asked_name c.args.name.now c.args.asked) place (((returns-in_ok-nsec3_places-in-Nsec3-clause-all c []).members place).0 among)
