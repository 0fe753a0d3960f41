use Rattle.std.proofs.Common.{sym, subst}
use Rattle.dnsv_zones.specs.forms.Said.{nsec3_records_say}
use Rattle.dnsv_proof_forms.specs.records.AskedHash.{hash_of}
use Rattle.dnsv_proof_forms.specs.records.Record.{read_nsec3}
use Rattle.dnsv_proof_forms.specs.words.Asked.{asked_name, said_word}
use Rattle.dnsv_proof_forms.specs.words.SaidAt.{AreAllPlaces, IsSaidAt}
use Rattle.dnsv_proof_forms.proofs.lemmas.words.AllPlacesLemmas.{nowhere}
use Rattle.dnsv_proof_forms.proofs.lemmas.words.AllSaidLemmas.{covered_all, opted_out_all, ruled_out_all}
use Rattle.dnsv_proof_forms.proofs.words.all.nsec3_places.Goals as goal

pub returns-in_ok-all_matches-in-Encloser : goal.returns-in_ok-all_matches-in-Encloser
returns-in_ok-all_matches-in-Encloser c =
    subst (λ word. AreAllPlaces (said_word (nsec3_records_say (hash_of c.args.hashed.now) (λ Says. IsSaidAt (λ entry. Says (read_nsec3 entry)) c.args.hashed.now.entries.now)) word
    (asked_name c.args.hashed.now.name.now c.args.asked)) c.in_ok-all_matches-in-Encloser.field-0.items)
    (sym c.in-Encloser.is) c.in_ok-all_matches-in-Encloser.ensures

pub returns-in_ok-all_covers_with-in-Absent : goal.returns-in_ok-all_covers_with-in-Absent
returns-in_ok-all_covers_with-in-Absent c =
    subst (λ word. AreAllPlaces (said_word (nsec3_records_say (hash_of c.args.hashed.now) (λ Says. IsSaidAt (λ entry. Says (read_nsec3 entry)) c.args.hashed.now.entries.now)) word
    (asked_name c.args.hashed.now.name.now c.args.asked)) c.in_ok-all_covers_with-in-Absent.field-0.items)
    (sym c.in-Absent.is) c.in_ok-all_covers_with-in-Absent.ensures

pub returns-in_ok-all_covers_with-in-OptedOut : goal.returns-in_ok-all_covers_with-in-OptedOut
returns-in_ok-all_covers_with-in-OptedOut c =
    subst (λ word. AreAllPlaces (said_word (nsec3_records_say (hash_of c.args.hashed.now) (λ Says. IsSaidAt (λ entry. Says (read_nsec3 entry)) c.args.hashed.now.entries.now)) word
    (asked_name c.args.hashed.now.name.now c.args.asked)) c.in_ok-all_covers_with-in-OptedOut.field-0.items)
    (sym c.in-OptedOut.is) (opted_out_all (hash_of c.args.hashed.now) (asked_name c.args.hashed.now.name.now c.args.asked) c.args.hashed.now.entries.now c.in_ok-all_covers_with-in-OptedOut.field-0.items c.in_ok-all_covers_with-in-OptedOut.ensures)

pub returns-in_ok-all_covers-in-Covered : goal.returns-in_ok-all_covers-in-Covered
returns-in_ok-all_covers-in-Covered c =
    subst (λ word. AreAllPlaces (said_word (nsec3_records_say (hash_of c.args.hashed.now) (λ Says. IsSaidAt (λ entry. Says (read_nsec3 entry)) c.args.hashed.now.entries.now)) word
    (asked_name c.args.hashed.now.name.now c.args.asked)) c.in_ok-all_covers-in-Covered.field-0.items)
    (sym c.in-Covered.is) (covered_all (hash_of c.args.hashed.now) (asked_name c.args.hashed.now.name.now c.args.asked) c.args.hashed.now.entries.now c.in_ok-all_covers-in-Covered.field-0.items c.in_ok-all_covers-in-Covered.ensures)

pub returns-in_ok-all_covers-in-RuledOut : goal.returns-in_ok-all_covers-in-RuledOut
returns-in_ok-all_covers-in-RuledOut c =
    subst (λ word. AreAllPlaces (said_word (nsec3_records_say (hash_of c.args.hashed.now) (λ Says. IsSaidAt (λ entry. Says (read_nsec3 entry)) c.args.hashed.now.entries.now)) word
    (asked_name c.args.hashed.now.name.now c.args.asked)) c.in_ok-all_covers-in-RuledOut.field-0.items)
    (sym c.in-RuledOut.is) (ruled_out_all (hash_of c.args.hashed.now) (asked_name c.args.hashed.now.name.now c.args.asked) c.args.hashed.now.entries.now c.in_ok-all_covers-in-RuledOut.field-0.items c.in_ok-all_covers-in-RuledOut.ensures)

pub returns-in_ok-all_matches-in-Types : goal.returns-in_ok-all_matches-in-Types
returns-in_ok-all_matches-in-Types c =
    subst (λ word. AreAllPlaces (said_word (nsec3_records_say (hash_of c.args.hashed.now) (λ Says. IsSaidAt (λ entry. Says (read_nsec3 entry)) c.args.hashed.now.entries.now)) word
    (asked_name c.args.hashed.now.name.now c.args.asked)) c.in_ok-all_matches-in-Types.field-0.items)
    (sym c.in-Types.is) c.in_ok-all_matches-in-Types.ensures

pub returns-in-EmptyNonTerminal : goal.returns-in-EmptyNonTerminal
returns-in-EmptyNonTerminal c =
    subst (λ word. AreAllPlaces (said_word (nsec3_records_say (hash_of c.args.hashed.now) (λ Says. IsSaidAt (λ entry. Says (read_nsec3 entry)) c.args.hashed.now.entries.now)) word
    (asked_name c.args.hashed.now.name.now c.args.asked)) c.new.result.items)
    (sym c.in-EmptyNonTerminal.is) (rw c.new.ensures.items (nowhere (λ place. ⊥) (λ place none. none)))
