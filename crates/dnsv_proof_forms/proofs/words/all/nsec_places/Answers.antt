use Rattle.std.proofs.Common.{sym, subst}
use Rattle.dnsv_zones.specs.forms.Nsec.{IsAbsentBy, IsEmptyNonTerminalBy}
use Rattle.dnsv_zones.specs.forms.Said.{nsec_records_say}
use Rattle.dnsv_proof_forms.specs.records.Record.{read_entry}
use Rattle.dnsv_proof_forms.specs.words.Asked.{said_word}
use Rattle.dnsv_proof_forms.specs.words.SaidAt.{AreAllPlaces, IsSaidAt}
use Rattle.dnsv_proof_forms.proofs.lemmas.words.AllPlacesLemmas.{nowhere}
use Rattle.dnsv_proof_forms.proofs.lemmas.words.AllSaidLemmas.{either_said, or_never}
use Rattle.dnsv_proof_forms.proofs.words.all.nsec_places.Goals as goal

pub returns-in_ok-all_to_say-in-Encloser : goal.returns-in_ok-all_to_say-in-Encloser
returns-in_ok-all_to_say-in-Encloser c = λ apex.
    subst (λ word. AreAllPlaces (said_word (nsec_records_say apex (λ Says. IsSaidAt (λ entry. Says (read_entry entry)) c.args.entries.now)) word c.args.name.now) c.in_ok-all_to_say-in-Encloser.field-0.items)
    (sym c.in-Encloser.is) c.in_ok-all_to_say-in-Encloser.ensures

pub returns-in_ok-all_to_say-in-Absent : goal.returns-in_ok-all_to_say-in-Absent
returns-in_ok-all_to_say-in-Absent c = λ apex.
    subst (λ word. AreAllPlaces (said_word (nsec_records_say apex (λ Says. IsSaidAt (λ entry. Says (read_entry entry)) c.args.entries.now)) word c.args.name.now) c.in_ok-all_to_say-in-Absent.field-0.items)
    (sym c.in-Absent.is) c.in_ok-all_to_say-in-Absent.ensures

pub returns-in_ok-all_to_say-in-EmptyNonTerminal : goal.returns-in_ok-all_to_say-in-EmptyNonTerminal
returns-in_ok-all_to_say-in-EmptyNonTerminal c = λ apex.
    subst (λ word. AreAllPlaces (said_word (nsec_records_say apex (λ Says. IsSaidAt (λ entry. Says (read_entry entry)) c.args.entries.now)) word c.args.name.now) c.in_ok-all_to_say-in-EmptyNonTerminal.field-0.items)
    (sym c.in-EmptyNonTerminal.is) c.in_ok-all_to_say-in-EmptyNonTerminal.ensures

pub returns-in_ok-all_to_say-in-Covered : goal.returns-in_ok-all_to_say-in-Covered
returns-in_ok-all_to_say-in-Covered c = λ apex.
    subst (λ word. AreAllPlaces (said_word (nsec_records_say apex (λ Says. IsSaidAt (λ entry. Says (read_entry entry)) c.args.entries.now)) word c.args.name.now) c.in_ok-all_to_say-in-Covered.field-0.items)
    (sym c.in-Covered.is) (or_never (IsSaidAt (λ entry. IsAbsentBy (read_entry entry) c.args.name.now) c.args.entries.now) c.in_ok-all_to_say-in-Covered.field-0.items c.in_ok-all_to_say-in-Covered.ensures)

pub returns-in_ok-all_to_say-in-RuledOut : goal.returns-in_ok-all_to_say-in-RuledOut
returns-in_ok-all_to_say-in-RuledOut c = λ apex.
    subst (λ word. AreAllPlaces (said_word (nsec_records_say apex (λ Says. IsSaidAt (λ entry. Says (read_entry entry)) c.args.entries.now)) word c.args.name.now) c.in_ok-all_to_say-in-RuledOut.field-0.items)
    (sym c.in-RuledOut.is) (either_said (λ entry. IsAbsentBy (read_entry entry) c.args.name.now) (λ entry. IsEmptyNonTerminalBy (read_entry entry) c.args.name.now) c.args.entries.now c.in_ok-all_to_say-in-RuledOut.field-0.items c.in_ok-all_to_say-in-RuledOut.ensures)

pub returns-in_ok-all_to_say-in-Types : goal.returns-in_ok-all_to_say-in-Types
returns-in_ok-all_to_say-in-Types c = λ apex.
    subst (λ word. AreAllPlaces (said_word (nsec_records_say apex (λ Says. IsSaidAt (λ entry. Says (read_entry entry)) c.args.entries.now)) word c.args.name.now) c.in_ok-all_to_say-in-Types.field-0.items)
    (sym c.in-Types.is) c.in_ok-all_to_say-in-Types.ensures

pub returns-in-OptedOut : goal.returns-in-OptedOut
returns-in-OptedOut c = λ apex.
    subst (λ word. AreAllPlaces (said_word (nsec_records_say apex (λ Says. IsSaidAt (λ entry. Says (read_entry entry)) c.args.entries.now)) word c.args.name.now) c.new.result.items)
    (sym c.in-OptedOut.is) (rw c.new.ensures.items (nowhere (λ place. ⊥) (λ place none. none)))
