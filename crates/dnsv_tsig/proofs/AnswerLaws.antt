-- Octets have at most one answer.
use Rattle.std.proofs.Common.{◌≡◌, ℕ, List, [], ◌∷◌, ◌++◌, Option, Result, Err, refl, sym, ap, subst, ◌∙◌}
use Rattle.dnsv_names.specs.Name.{Labels}
use Rattle.dnsv_message.specs.declared.errors.DecodeError.{DecodeError}
use Rattle.dnsv_message.specs.declared.record.Record.{Record}
use Rattle.dnsv_message.specs.Message.{Contents, records_of}
use Rattle.dnsv_message.specs.Grammar.{MessageOf, FaultOf}
use Rattle.dnsv_message.specs.Tail.{TailAt}
use Rattle.dnsv_tsig.specs.declared.error.TsigError.{TsigError}
use Rattle.dnsv_tsig.specs.Errors.{unreadable_as}
use Rattle.dnsv_tsig.specs.Key.{SharedKey, key_named}
use Rattle.dnsv_tsig.specs.Opened.{OpenedMessage}
use Rattle.dnsv_tsig.specs.Tsig.{TsigFields, IsTsig}
use Rattle.dnsv_tsig.specs.Answer.{LacksTsig, IsSigned, answer_by, MessageAnswer, unsigned, misformed, signed, tsig_answer_of, unreadable, readable}
use Rattle.dnsv_tsig.proofs.TsigLemmas.{one_tsig, same_ends, lacks-back}

-- a message has one signature
pub record SameSigned (owner owner' : Labels) (tsig tsig' : TsigFields) : Type 0 where
  pub owners : owner ≡ owner'
  pub tsigs : tsig ≡ tsig'

one_signed : (message : Contents) (owner owner' : Labels) (tsig tsig' : TsigFields) → IsSigned message owner tsig → IsSigned message owner' tsig' → SameSigned owner owner' tsig tsig'
one_signed message owner owner' tsig tsig' p q =
    let ends = same_ends p.others q.others p.last q.last (sym p.ends ∙ q.ends) in
    let Says : Record → Type 0 = λ each. IsTsig each.rdata tsig in
    record {
      owners = p.owned ∙ ap (λ each. each.name) ends.1 ∙ sym q.owned;
      tsigs = one_tsig (subst Says ends.1 p.signs.rdata) q.signs.rdata;
    }

-- a signed message has a TSIG record
signed_has : (message : Contents) (owner : Labels) (tsig : TsigFields) → LacksTsig (records_of message) → IsSigned message owner tsig → ⊥
signed_has message owner tsig lacks is =
    let Lacks : List Record → Type 0 = λ records. LacksTsig records in
    let additional = subst Lacks is.ends (lacks-back (message.answer ++ message.authority) message.additional lacks) in
    (lacks-back is.others (is.last ∷ []) additional).0 is.signs.rtype

module _ (octets : List ℕ) (keys : List SharedKey) (now : ℕ) (request : Option (List ℕ)) where
  message_answer : (message : Contents) (a b : Result OpenedMessage TsigError)
      → ((p q : ℕ) → TailAt octets message p → TailAt octets message q → p ≡ q)
      → MessageAnswer octets message keys now request a → MessageAnswer octets message keys now request b → a ≡ b
  message_answer message a b one_place (unsigned x) (unsigned y) = refl
  message_answer message a b one_place (unsigned x) (misformed y z) = absurd (y x)
  message_answer message a b one_place (unsigned x) (signed is tail) = absurd (signed_has message _ _ x is)
  message_answer message a b one_place (misformed y z) (unsigned x) = absurd (y x)
  message_answer message a b one_place (misformed y z) (misformed v w) = refl
  message_answer message a b one_place (misformed y z) (signed is tail) = absurd (z _ _ is)
  message_answer message a b one_place (signed is tail) (unsigned x) = absurd (signed_has message _ _ x is)
  message_answer message a b one_place (signed is tail) (misformed y z) = absurd (z _ _ is)
  message_answer message a b one_place (signed {owner = owner} {tsig = tsig} {place = place} is tail) (signed {owner = owner'} {tsig = tsig'} {place = place'} is' tail') =
      let same = one_signed message owner owner' tsig tsig' is is' in
      let places = one_place place place' tail tail' in
      λ i. answer_by (key_named (same.owners i) keys) now request octets (places i) (same.owners i) (same.tsigs i)

  pub one_answer_of : (a b : Result OpenedMessage TsigError)
      → ((m n : Contents) → MessageOf octets m → MessageOf octets n → m ≡ n)
      → ((e f : DecodeError) → FaultOf octets e → FaultOf octets f → e ≡ f)
      → ((m : Contents) (e : DecodeError) → MessageOf octets m → FaultOf octets e → ⊥)
      → ((m : Contents) (p q : ℕ) → TailAt octets m p → TailAt octets m q → p ≡ q)
      → tsig_answer_of octets keys now request a → tsig_answer_of octets keys now request b → a ≡ b
  one_answer_of a b one_message one_fault apart one_place (unreadable {fault = e} x) (unreadable {fault = f} y) =
      ap (λ fault. Err (unreadable_as fault)) (one_fault e f x y)
  one_answer_of a b one_message one_fault apart one_place (unreadable x) (readable at y) = absurd (apart _ _ at x)
  one_answer_of a b one_message one_fault apart one_place (readable at x) (unreadable y) = absurd (apart _ _ at y)
  one_answer_of a b one_message one_fault apart one_place (readable {message = m} at x) (readable {message = n} at' y) =
      let Answers : Contents → Type 0 = λ message. MessageAnswer octets message keys now request a in
      message_answer n a b (one_place n) (subst Answers (one_message m n at at') x) y
