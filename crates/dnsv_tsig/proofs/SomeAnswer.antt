-- Octets have an answer.
use Rattle.std.proofs.Common.{◌≡◌, ◌⊎◌, inl, inr, ⊎_elim, ℕ, ◌<◌, ◌≤◌, List, [], ◌∷◌, ◌++◌, Option, Some, None, Result, Err, length, refl, sym, ap, subst, ◌∙◌, arith, length-append}
use Rattle.std.proofs.lemmas.Bool.{cases_lt}
use Rattle.dnsv_names.specs.Name.{Labels}
use Rattle.dnsv_message.specs.declared.errors.DecodeError.{DecodeError}
use Rattle.dnsv_message.specs.declared.record.Record.{Record}
use Rattle.dnsv_message.specs.Message.{Contents, records_of}
use Rattle.dnsv_message.specs.Grammar.{MessageOf, FaultOf}
use Rattle.dnsv_message.specs.Tail.{IsTailOf}
use Rattle.dnsv_tsig.specs.declared.error.TsigError.{TsigError}
use Rattle.dnsv_tsig.specs.declared.error.TsigError.TheVariants.{NoTsig, Form}
use Rattle.dnsv_tsig.specs.Errors.{unreadable_as}
use Rattle.dnsv_tsig.specs.Key.{SharedKey, key_named}
use Rattle.dnsv_tsig.specs.Opened.{OpenedMessage}
use Rattle.dnsv_tsig.specs.Tsig.{TsigFields, IsTsig}
use Rattle.dnsv_tsig.specs.Answer.{LacksTsig, Signs, IsSigned, answer_by, MessageAnswer, unsigned, misformed, signed, tsig_answer_of, unreadable, readable}
use Rattle.dnsv_tsig.proofs.Decisions.{same_or, tsig_or}
use Rattle.dnsv_tsig.proofs.TsigLemmas.{one_tsig, same_ends}

lacks_or : (records : List Record) → LacksTsig records ⊎ (LacksTsig records → ⊥)
lacks_or [] = inl tt
lacks_or (first ∷ records) = ⊎_elim
    (λ (is : first.rtype.0 ≡ 250). inr (λ lacks. lacks.0 is))
    (λ (other : first.rtype.0 ≡ 250 → ⊥). ⊎_elim
    (λ (rest : LacksTsig records). inl (other, rest))
    (λ (has : LacksTsig records → ⊥). inr (λ lacks. has lacks.1))
    (lacks_or records))
    (same_or first.rtype.0 250)

last_or : {X : Type 0} (xs : List X) → (xs ≡ []) ⊎ ((others : List X) × (last : X) × (xs ≡ others ++ last ∷ []))
last_or [] = inl refl
last_or {X} (x ∷ xs) = ⊎_elim
    (λ (none : xs ≡ []). inr ([], x, ap (λ ys. x ∷ ys) none))
    (λ (some : (others : List X) × (last : X) × (xs ≡ others ++ last ∷ [])). inr (x ∷ some.0, some.1, ap (λ ys. x ∷ ys) some.2))
    (last_or xs)

abbrev Signing : Record → Type 0
Signing resource = (tsig : TsigFields) × Signs resource tsig

abbrev NotSigning : Record → Type 0
NotSigning resource = (tsig : TsigFields) → Signs resource tsig → ⊥

-- a record of the right type, class and TTL signs or doesn't by its RDATA
rdata_signs_or : (resource : Record) → resource.rtype.0 ≡ 250 → resource.class.0 ≡ 255 → resource.ttl.0 ≡ 0 → Signing resource ⊎ NotSigning resource
rdata_signs_or resource rtype class ttl = ⊎_elim
    (λ (found : (tsig : TsigFields) × IsTsig resource.rdata tsig). ⊎_elim
    (λ (short : length found.0.mac < 16). inr (λ tsig is.
    omega (arith, short, is.at_least, ap (λ each. length each.mac) (one_tsig found.1 is.rdata))))
    (λ (at_least : 16 ≤ length found.0.mac). ⊎_elim
    (λ (long : 32 < length found.0.mac). inr (λ tsig is.
    omega (arith, long, is.at_most, ap (λ each. length each.mac) (one_tsig found.1 is.rdata))))
    (λ (at_most : length found.0.mac ≤ 32).
    inl (found.0, record { rtype = rtype; class = class; ttl = ttl; rdata = found.1; at_least = at_least; at_most = at_most }))
    (cases_lt 32 (length found.0.mac)))
    (cases_lt (length found.0.mac) 16))
    (λ (none : (tsig : TsigFields) → IsTsig resource.rdata tsig → ⊥). inr (λ tsig is. none tsig is.rdata))
    (tsig_or resource.rdata)

signs_or : (resource : Record) → Signing resource ⊎ NotSigning resource
signs_or resource = ⊎_elim
    (λ (rtype : resource.rtype.0 ≡ 250). ⊎_elim
    (λ (class : resource.class.0 ≡ 255). ⊎_elim
    (λ (ttl : resource.ttl.0 ≡ 0). rdata_signs_or resource rtype class ttl)
    (λ (wrong : resource.ttl.0 ≡ 0 → ⊥). inr (λ tsig is. wrong is.ttl))
    (same_or resource.ttl.0 0))
    (λ (wrong : resource.class.0 ≡ 255 → ⊥). inr (λ tsig is. wrong is.class))
    (same_or resource.class.0 255))
    (λ (wrong : resource.rtype.0 ≡ 250 → ⊥). inr (λ tsig is. wrong is.rtype))
    (same_or resource.rtype.0 250)

module _ (message : Contents) where
  abbrev Signed : Type 0
  Signed = (owner : Labels) × (tsig : TsigFields) × IsSigned message owner tsig

  abbrev NotSigned : Type 0
  NotSigned = (owner : Labels) (tsig : TsigFields) → IsSigned message owner tsig → ⊥

  -- a message is signed or isn't by its last record
  last_signs_or : (others : List Record) (last : Record) → message.additional ≡ others ++ last ∷ [] → Signed ⊎ NotSigned
  last_signs_or others last ends = ⊎_elim
      (λ (only : LacksTsig (message.answer ++ message.authority ++ others)). ⊎_elim
      (λ (signs : Signing last).
      inl (last.name, signs.0, record { others = others; last = last; ends = ends; only = only; owned = refl; signs = signs.1 }))
      (λ (none : NotSigning last). inr (λ owner tsig is.
      let same = same_ends is.others others is.last last (sym is.ends ∙ ends) in
      let Says : Record → Type 0 = λ each. Signs each tsig in
      none tsig (subst Says same.1 is.signs)))
      (signs_or last))
      (λ (more : LacksTsig (message.answer ++ message.authority ++ others) → ⊥). inr (λ owner tsig is.
      let same = same_ends is.others others is.last last (sym is.ends ∙ ends) in
      let Only : List Record → Type 0 = λ each. LacksTsig (message.answer ++ message.authority ++ each) in
      more (subst Only same.0 is.only)))
      (lacks_or (message.answer ++ message.authority ++ others))

  signed_or : Signed ⊎ NotSigned
  signed_or = ⊎_elim
      (λ (none : message.additional ≡ []). inr (λ owner tsig is.
      omega (arith, ap length none, ap length is.ends, length-append is.others (is.last ∷ []))))
      (λ (some : (others : List Record) × (last : Record) × (message.additional ≡ others ++ last ∷ [])).
      last_signs_or some.0 some.1 some.2)
      (last_or message.additional)

module _ (octets : List ℕ) (keys : List SharedKey) (now : ℕ) (request : Option (List ℕ)) where
  abbrev Answered : Contents → Type 0
  Answered message = (answer : Result OpenedMessage TsigError) × MessageAnswer octets message keys now request answer

  -- a signed message has records, and so a last one
  signed_answer : (message : Contents) (owner : Labels) (tsig : TsigFields) → (LacksTsig (records_of message) → ⊥) → IsSigned message owner tsig
      → (tail : Option ℕ) → IsTailOf octets message tail → Answered message
  signed_answer message owner tsig has is None none =
      let Lacks : List Record → Type 0 = λ records. LacksTsig records in
      absurd (has (subst Lacks (sym none) tt))
  signed_answer message owner tsig has is (Some place) at =
      (answer_by (key_named owner keys) now request octets place owner tsig, signed is at)

  message_answered : (message : Contents) → (tail : Option ℕ) → IsTailOf octets message tail → Answered message
  message_answered message tail at = ⊎_elim
      (λ (lacks : LacksTsig (records_of message)). (Err NoTsig, unsigned lacks))
      (λ (has : LacksTsig (records_of message) → ⊥). ⊎_elim
      (λ (is : (owner : Labels) × (tsig : TsigFields) × IsSigned message owner tsig). signed_answer message is.0 is.1 has is.2 tail at)
      (λ (wrong : (owner : Labels) (tsig : TsigFields) → IsSigned message owner tsig → ⊥). (Err Form, misformed has wrong))
      (signed_or message))
      (lacks_or (records_of message))

  pub some_answer : ((message : Contents) × MessageOf octets message) ⊎ ((error : DecodeError) × FaultOf octets error)
      → ((message : Contents) → MessageOf octets message → (tail : Option ℕ) × IsTailOf octets message tail)
      → (answer : Result OpenedMessage TsigError) × tsig_answer_of octets keys now request answer
  some_answer (inl read) some_tail =
      let tail = some_tail read.0 read.1 in
      let answered = message_answered read.0 tail.0 tail.1 in
      (answered.0, readable read.1 answered.1)
  some_answer (inr wrong) some_tail = (Err (unreadable_as wrong.0), unreadable wrong.1)
