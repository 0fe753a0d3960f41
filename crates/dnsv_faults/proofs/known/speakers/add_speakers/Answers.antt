use Rattle.std.proofs.Common.{sym, ◌∙◌}
use Rattle.std.proofs.lemmas.Bool.{false≢true}
use Rattle.dnsv_faults.proofs.lemmas.KnownLemmas.{no_speakers, speakers_added}
use Rattle.dnsv_faults.proofs.known.speakers.add_speakers.Goals as goal

pub returns-then-not-may_speak : goal.returns-then-not-may_speak
returns-then-not-may_speak c =
    no_speakers c.args.name.now c.args.rtype.0 c.args.rrset.now c.args.numbers.now.items
    (λ may. false≢true (sym c.if-not-may_speak.true ∙ c.may_speak.ensures.1 may))

pub returns : goal.returns
returns c =
    speakers_added c.args.name.now c.args.rtype.0 c.args.rrset.now c.is_from_above-from_above.result _ _
    (c.may_speak.ensures.0 c.if-not-may_speak.false) c.is_from_above-from_above.ensures c.in_ok-add_signers.ensures
