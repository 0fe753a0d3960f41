-- A frame holds one message, or none for one reason.
use Rattle.std.proofs.Common.{◌≡◌, ◌<◌, ◌-◌, ℕ, zero, suc, List, [], ◌∷◌, ◌++◌, drop, Bool, true, false, if◌then◌else◌, Option, Some, None, Result, Ok, Err, inl, inr, refl, sym, ap, subst, ◌∙◌, arith}
use Rattle.std.specs.Int.{w16, to_be_bytes}
use Rattle.dnsv_names.specs.Name.{Labels, same_name}
use Rattle.dnsv_names.specs.Octets.{AreOctets, number_at}
use Rattle.dnsv_message.specs.declared.errors.DecodeError.{DecodeError}
use Rattle.dnsv_message.specs.declared.errors.DecodeError.TheVariants as decode
use Rattle.dnsv_message.specs.Grammar.{MessageOf, part_of}
use Rattle.dnsv_message.specs.Message.{Contents}
use Rattle.dnsv_records.specs.OctetLaws.{recursion-take}
use Rattle.dnsv_tsig.specs.declared.error.TsigError.{TsigError}
use Rattle.dnsv_tsig.specs.declared.error.TsigError.TheVariants as tsig
use Rattle.dnsv_tsig.specs.Answer.{answer_by, answer_under, failed_test, hmac_sha256_name, tsig_answer_of, MessageAnswer, unreadable, readable, unsigned, misformed, signed}
use Rattle.dnsv_tsig.specs.Key.{SharedKey, key_named}
use Rattle.dnsv_tsig.specs.Mac.{stripped, tsig_mac_of}
use Rattle.dnsv_tsig.specs.Opened.{OpenedMessage}
use Rattle.dnsv_tsig.specs.Tsig.{TsigFields}
use Rattle.dnsv_files.specs.declared.opening.Opening.{Opening}
use Rattle.dnsv_files.specs.declared.opening.Opening.TheVariants.{Plain, Signed}
use Rattle.dnsv_files.specs.declared.status.Refusal.{Refusal}
use Rattle.dnsv_files.specs.Opening.{HoldsNoMessage, IsInFrame, IsUnreadable, request_mac}
use Rattle.dnsv_program_laws.specs.Layers.{LayerLaws}
use Rattle.dnsv_files.specs.Status.{TellsMessageError, TellsTsigError}

-- ---- what a frame opens to

-- what passes the tests is the message without its signature
under : (test : Option TsigError) (message : List ℕ) (key : Labels) (opened : OpenedMessage) → answer_under test message key ≡ Ok opened → opened.message ≡ message
under (Some error) message key opened same = cc
under None message key opened same =
    let whole : record { message = message; key = key } ≡ opened = cc in ap (λ (each : OpenedMessage). each.message) (sym whole)

under_known : (known : Bool) (test : Option TsigError) (message : List ℕ) (key : Labels) (opened : OpenedMessage)
    → (if known then answer_under test message key else Err tsig.BadKey) ≡ Ok opened → opened.message ≡ message
under_known true test message key opened same = under test message key opened same
under_known false test message key opened same = cc

under_key : (found : Option SharedKey) (now : ℕ) (request : Option (List ℕ)) (octets : List ℕ) (place : ℕ) (owner : Labels) (fields : TsigFields) (opened : OpenedMessage)
    → answer_by found now request octets place owner fields ≡ Ok opened → opened.message ≡ stripped octets place fields.original_id
under_key None now request octets place owner fields opened same = cc
under_key (Some key) now request octets place owner fields opened same =
    under_known (same_name fields.algorithm hmac_sha256_name)
    (failed_test fields (tsig_mac_of key.secret request octets place owner fields) now)
    (stripped octets place fields.original_id) key.name opened same

each-drop : (n : ℕ) (octets : List ℕ) → AreOctets octets → AreOctets (drop n octets)
each-drop zero octets are = are
each-drop (suc n) [] are = tt
each-drop (suc n) (octet ∷ octets) are = each-drop n octets are.1

each-append : (a b : List ℕ) → AreOctets a → AreOctets b → AreOctets (a ++ b)
each-append [] b x y = y
each-append (octet ∷ a) b x y = (x.0, each-append a b x.1 y)

part_octets : (octets : List ℕ) (place size : ℕ) → AreOctets octets → AreOctets (part_of octets place size)
part_octets octets place size are = recursion-take (λ octet. octet < 256) size (drop place octets) (each-drop place octets are)

two_octets : (number : ℕ) → AreOctets (to_be_bytes w16 number)
two_octets number = (omega arith, (omega arith, tt))

stripped_octets : (octets : List ℕ) (place id : ℕ) → AreOctets octets → AreOctets (stripped octets place id)
stripped_octets octets place id are =
    let count = to_be_bytes w16 (number_at octets 10 2 - 1) in
    let first = each-append (to_be_bytes w16 id) (part_of octets 2 8) (two_octets id) (part_octets octets 2 8 are) in
    let second = each-append (to_be_bytes w16 id ++ part_of octets 2 8) count first (two_octets (number_at octets 10 2 - 1)) in
    each-append ((to_be_bytes w16 id ++ part_of octets 2 8) ++ count) (part_of octets 12 (place - 12)) second (part_octets octets 12 (place - 12) are)

module _ (octets : List ℕ) (keys : List SharedKey) (now : ℕ) (request : Option (List ℕ)) (are : AreOctets octets) where
  opened_message : (message : Contents) (answer : Result OpenedMessage TsigError) (opened : OpenedMessage)
      → MessageAnswer octets message keys now request answer → answer ≡ Ok opened → AreOctets opened.message
  opened_message message answer opened (unsigned x) same = cc
  opened_message message answer opened (misformed x y) same = cc
  opened_message message answer opened (signed {owner = owner} {tsig = fields} {place = place} is tail) same =
      subst (λ (octets : List ℕ). AreOctets octets)
      (sym (under_key (key_named owner keys) now request octets place owner fields opened same))
      (stripped_octets octets place fields.original_id are)

  -- octets open to octets
  opened_octets : (answer : Result OpenedMessage TsigError) (opened : OpenedMessage) → tsig_answer_of octets keys now request answer
      → answer ≡ Ok opened → AreOctets opened.message
  opened_octets answer opened (unreadable x) same = cc
  opened_octets answer opened (readable {message = message} at x) same = opened_message message answer opened x same

-- ---- what is told

told_once : (error : DecodeError) (a b : Refusal) (m n : Option ℕ) → TellsMessageError error a m → TellsMessageError error b n → (a ≡ b) × (m ≡ n)
told_once decode.OutOfMemory a b m n x y = absurd x
told_once error a b m n x y = (x.0 ∙ sym y.0, x.1 ∙ sym y.1)

tsig_told_once : (error : TsigError) (a b : Refusal) (m n : Option ℕ) → TellsTsigError error a m → TellsTsigError error b n → (a ≡ b) × (m ≡ n)
tsig_told_once tsig.OutOfMemory a b m n x y = absurd x
tsig_told_once (tsig.Unreadable error) a b m n x y = told_once error a b m n x y
tsig_told_once error a b m n x y = (x.0 ∙ sym y.0, x.1 ∙ sym y.1)

-- ---- what a frame holds

module _ (laws : LayerLaws) where
  readable_stands : (octets : List ℕ) → AreOctets octets → (message : Contents) (why : Refusal) (n : Option ℕ) → MessageOf octets message → IsUnreadable octets why n → ⊥
  readable_stands octets are message why n at bad = laws.messages.no_fault_of_a_message octets are message bad.0 at bad.1

  unreadable_once : (octets : List ℕ) → AreOctets octets → (a b : Refusal) (m n : Option ℕ) → IsUnreadable octets a m → IsUnreadable octets b n → (a ≡ b) × (m ≡ n)
  unreadable_once octets are a b m n x y =
      told_once x.0 a b m n x.2 (subst (λ (error : DecodeError). TellsMessageError error b n) (laws.messages.one_fault octets are y.0 x.0 y.1 x.1) y.2)

  module _ (frame : List ℕ) (are : AreOctets frame) (keys : List SharedKey) (now : ℕ) (request : Option (List ℕ)) where
    one_opened : (a b : OpenedMessage) → tsig_answer_of frame keys now request (Ok a) → tsig_answer_of frame keys now request (Ok b) → a ≡ b
    one_opened a b x y = let same = laws.tsig.one_answer frame are keys now request (Ok a) (Ok b) x y in cc

    one_unopened : (e f : TsigError) → tsig_answer_of frame keys now request (Err e) → tsig_answer_of frame keys now request (Err f) → e ≡ f
    one_unopened e f x y = let same = laws.tsig.one_answer frame are keys now request (Err e) (Err f) x y in cc

    opens_or_not : (a : OpenedMessage) (e : TsigError) → tsig_answer_of frame keys now request (Ok a) → tsig_answer_of frame keys now request (Err e) → ⊥
    opens_or_not a e x y = let same = laws.tsig.one_answer frame are keys now request (Ok a) (Err e) x y in cc

    octets_inside : (a : OpenedMessage) → tsig_answer_of frame keys now request (Ok a) → AreOctets a.message
    octets_inside a x = opened_octets frame keys now request are (Ok a) a x refl

  module _ (number : ℕ) (frame : List ℕ) (are : AreOctets frame) where
    pub one_in_frame : (opening : Opening) (m n : Contents) → IsInFrame opening number frame m → IsInFrame opening number frame n → m ≡ n
    one_in_frame Plain m n x y = laws.messages.one_message frame are m n x y
    one_in_frame (Signed keys now macs) m n x y =
        let request = request_mac macs number in
        let same : x.0 ≡ y.0 = one_opened frame are keys now request x.0 y.0 x.1 y.1 in
        laws.messages.one_message y.0.message (octets_inside frame are keys now request y.0 y.1) m n
        (subst (λ (opened : OpenedMessage). MessageOf opened.message m) same x.2) y.2

    -- a frame that holds a message doesn't hold none
    pub in_frame_stands : (opening : Opening) (m : Contents) (why : Refusal) (n : Option ℕ) → IsInFrame opening number frame m → HoldsNoMessage opening number frame why n → ⊥
    in_frame_stands Plain m why n x bad = readable_stands frame are m why n x bad
    in_frame_stands (Signed keys now macs) m why n x (inl closed) = opens_or_not frame are keys now (request_mac macs number) x.0 closed.0 x.1 closed.1
    in_frame_stands (Signed keys now macs) m why n x (inr bad) =
        let request = request_mac macs number in
        let same : x.0 ≡ bad.0 = one_opened frame are keys now request x.0 bad.0 x.1 bad.1 in
        readable_stands bad.0.message (octets_inside frame are keys now request bad.0 bad.1) m why n
        (subst (λ (opened : OpenedMessage). MessageOf opened.message m) same x.2) bad.2

    pub no_message_once : (opening : Opening) (a b : Refusal) (m n : Option ℕ) → HoldsNoMessage opening number frame a m → HoldsNoMessage opening number frame b n → (a ≡ b) × (m ≡ n)
    no_message_once Plain a b m n x y = unreadable_once frame are a b m n x y
    no_message_once (Signed keys now macs) a b m n (inl x) (inl y) =
        let same : x.0 ≡ y.0 = one_unopened frame are keys now (request_mac macs number) x.0 y.0 x.1 y.1 in
        tsig_told_once y.0 a b m n (subst (λ (error : TsigError). TellsTsigError error a m) same x.2) y.2
    no_message_once (Signed keys now macs) a b m n (inl x) (inr y) = absurd (opens_or_not frame are keys now (request_mac macs number) y.0 x.0 y.1 x.1)
    no_message_once (Signed keys now macs) a b m n (inr x) (inl y) = absurd (opens_or_not frame are keys now (request_mac macs number) x.0 y.0 x.1 y.1)
    no_message_once (Signed keys now macs) a b m n (inr x) (inr y) =
        let request = request_mac macs number in
        let same : x.0 ≡ y.0 = one_opened frame are keys now request x.0 y.0 x.1 y.1 in
        unreadable_once y.0.message (octets_inside frame are keys now request y.0 y.1) a b m n
        (subst (λ (opened : OpenedMessage). IsUnreadable opened.message a m) same x.2) y.2
