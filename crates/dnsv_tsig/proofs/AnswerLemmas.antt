-- What is answered to signed octets, test by test.
use Rattle.std.proofs.Common.{◌≡◌, ◌⊎◌, ℕ, ◌+◌, ◌<◌, List, [], ◌∷◌, true, false, Option, Some, None, Result, Err, inl, inr, refl, ap, ◌∙◌, suc, zero, take, get_or, length, arith, nat_eq, ◌&&◌, add-one}
use Rattle.std.specs.Result.{IsOk}
use Rattle.std.specs.Str.{bytes_eq}
use Rattle.dnsv_names.specs.Name.{Labels, same_name}
use Rattle.dnsv_message.specs.declared.errors.DecodeError.{DecodeError}
use Rattle.dnsv_message.specs.declared.errors.DecodeError.TheVariants as decode
use Rattle.dnsv_message.specs.Message.{Contents, records_of}
use Rattle.dnsv_message.specs.Grammar.{FaultOf, MessageOf}
use Rattle.dnsv_message.specs.Tail.{TailAt}
use Rattle.dnsv_tsig.specs.declared.error.TsigError.{TsigError}
use Rattle.dnsv_tsig.specs.declared.error.TsigError.TheVariants.{OutOfMemory, NoTsig, Form}
use Rattle.dnsv_tsig.specs.Errors.{unreadable_as}
use Rattle.dnsv_tsig.specs.Key.{SharedKey, key_named}
use Rattle.dnsv_tsig.specs.Mac.{tsig_mac_of}
use Rattle.dnsv_tsig.specs.Opened.{OpenedMessage}
use Rattle.dnsv_tsig.specs.Tsig.{TsigFields}
use Rattle.dnsv_tsig.specs.Answer.{answer_by, failed_test, hmac_sha256_name, tsig_answer_of, unreadable, readable, unsigned, misformed, signed, LacksTsig, IsSigned}

-- octets are compared one after another
same_at : (a b : List ℕ) (i : ℕ) → i < length a → i < length b
    → bytes_eq (take i a) (take i b) && nat_eq (get_or a i 0) (get_or b i 0) ≡ bytes_eq (take (suc i) a) (take (suc i) b)
same_at [] b i in_a in_b = absurd (omega (arith, in_a))
same_at (x ∷ a) [] i in_a in_b = absurd (omega (arith, in_b))
same_at (x ∷ a) (y ∷ b) zero in_a in_b =
    elim (nat_eq x y) as (λ first. first ≡ first && true) [ true ↦ refl | false ↦ refl ]
same_at (x ∷ a) (y ∷ b) (suc i) in_a in_b =
    let rest = same_at a b i (omega arith) (omega arith) in
    elim (nat_eq x y) as (λ first. (first && bytes_eq (take i a) (take i b)) && nat_eq (get_or a i 0) (get_or b i 0) ≡ first && bytes_eq (take (suc i) a) (take (suc i) b))
    [ true ↦ rest | false ↦ refl ]

pub same_more : (a b : List ℕ) (i : ℕ) → i < length a → i < length b
    → bytes_eq (take i a) (take i b) && nat_eq (get_or a i 0) (get_or b i 0) ≡ bytes_eq (take (i + 1) a) (take (i + 1) b)
same_more a b i in_a in_b = rw add-one (same_at a b i in_a in_b)

module _ (now : ℕ) (request : Option (List ℕ)) (octets : List ℕ) (place : ℕ) (owner : Labels) (tsig : TsigFields) where
  -- so a message that passes all tests is accepted
  pub accepted : (found : Option SharedKey) (key : SharedKey) (right : List ℕ) → found ≡ Some key → same_name tsig.algorithm hmac_sha256_name ≡ true
      → right ≡ tsig_mac_of key.secret request octets place owner tsig → failed_test tsig right now ≡ None
      → IsOk (answer_by found now request octets place owner tsig)
  accepted found key right some known mac failed = rw (some, known, ← mac, failed) refl

-- a fault is told, unless it is want of memory
pub told_fault : (octets : List ℕ) (keys : List SharedKey) (now : ℕ) (request : Option (List ℕ)) (fault : DecodeError) (told : TsigError)
    → told ≡ unreadable_as fault → (fault ≡ decode.OutOfMemory) ⊎ FaultOf octets fault
    → (◌≡◌ {A = Result OpenedMessage TsigError} (Err told) (Err OutOfMemory)) ⊎ tsig_answer_of octets keys now request (Err told)
told_fault octets keys now request fault told same (inl out) = inl (ap Err (same ∙ ap unreadable_as out))
told_fault octets keys now request fault told same (inr is) = inr (rw same (unreadable is))

-- a message without a TSIG record, or with one that isn't formed as it has to be
pub told_lacking : (octets : List ℕ) (message : Contents) (keys : List SharedKey) (now : ℕ) (request : Option (List ℕ)) (told : TsigError)
    → MessageOf octets message
    → ((told ≡ NoTsig) × LacksTsig (records_of message)) ⊎ ((told ≡ Form) × (LacksTsig (records_of message) → ⊥) × ((owner : Labels) (tsig : TsigFields) → IsSigned message owner tsig → ⊥))
    → tsig_answer_of octets keys now request (Err told)
told_lacking octets message keys now request told at (inl lacking) = rw lacking.0 (readable at (unsigned lacking.1))
told_lacking octets message keys now request told at (inr wrong) = rw wrong.0 (readable at (misformed wrong.1 wrong.2))

-- a message that is signed is answered by its signature
pub told_signed : (octets : List ℕ) (message : Contents) (keys : List SharedKey) (now : ℕ) (request : Option (List ℕ)) (owner : Labels) (tsig : TsigFields) (place : ℕ) (result : Result OpenedMessage TsigError)
    → MessageOf octets message → IsSigned message owner tsig → TailAt octets message place
    → ((result ≡ Err OutOfMemory) × IsOk (answer_by (key_named owner keys) now request octets place owner tsig)) ⊎ (result ≡ answer_by (key_named owner keys) now request octets place owner tsig)
    → (result ≡ Err OutOfMemory) ⊎ tsig_answer_of octets keys now request result
told_signed octets message keys now request owner tsig place result at is tail (inl out) = inl out.0
told_signed octets message keys now request owner tsig place result at is tail (inr same) = inr (rw same (readable at (signed is tail)))
