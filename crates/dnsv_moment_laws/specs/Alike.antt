-- Verifiers that answer alike what is asked at a moment.
use Rattle.std.specs.Prelude.{◌≡◌}
use Rattle.dnsv_verifier.specs.Admissible.{IsAsked}
use Rattle.dnsv_verifier.specs.declared.answer.Answer.{Answer}
use Rattle.dnsv_verifier.specs.declared.entry.Entry.{Entry}
use Rattle.dnsv_chain.specs.Basis.{Basis}

-- the other says what the verifier of the basis says, of each entry that is asked at its moment
abbrev pub AreAnsweredAlike : Basis → (Entry → Answer) → Type 0
AreAnsweredAlike basis other =
    (entry : Entry) → IsAsked basis.moment basis.rrsets entry → basis.meaning entry ≡ other entry
