-- Frames of a stream: a stream has one reading, and what comes after a rest is read with it.
pub mod CaptureLemmas
pub mod FileLemmas
pub mod FramerLemmas
use Rattle.std.proofs.Common.{◌≡◌, ℕ, zero, suc, ◌+◌, ◌-◌, ◌*◌, ◌/◌, ◌%◌, ◌<◌, ◌≤◌, List, [], ◌∷◌, ◌++◌, length, get_or, take, drop, refl, zero-add, ⊎_elim, sym, ap, ◌∙◌, arith, append_assoc, length-append, Option, Some, None}
use Rattle.std.proofs.Math.Nat.{suc-add}
use Rattle.std.proofs.lemmas.List.{append-nil, length-drop, length-take-le, take_rest, take-append-drop}
use Rattle.std.proofs.lemmas.Bool.{cases_lt}
use Rattle.std.proofs.lemmas.Grind.{flat_map-append}
use Rattle.std.specs.List.{AllByRecursion, flat_map}
use Rattle.dnsv_message.specs.Streams.Frames.{frame, IsFramed, BeginsNoFrame, Frames, IsZero}
use Rattle.dnsv_message.specs.Streams.Framer.{Gains, GainsFirst}
use Rattle.dnsv_message.specs.Streams.OpenFrame.{octets_of}

-- a number is known by its two octets
pub same_number : (m n : ℕ) → m / 256 ≡ n / 256 → m % 256 ≡ n % 256 → m ≡ n
same_number m n high low = omega arith

-- equal streams whose fronts have one length have one front and one rest
pub same_front : (a b x y : List ℕ) → length a ≡ length b → a ++ x ≡ b ++ y → (a ≡ b) × (x ≡ y)
same_front [] [] x y size same = (refl, same)
same_front [] (o ∷ b) x y size same = absurd (omega (arith, size))
same_front (o ∷ a) [] x y size same = absurd (omega (arith, size))
same_front (o ∷ a) (p ∷ b) x y size same =
    let first : o ≡ p = cc in
    let rest : a ++ x ≡ b ++ y = cc in
    let size' : length a ≡ length b = omega (arith, size) in
    let found = same_front a b x y size' rest in
    (ap (λ n. n ∷ a) first ∙ ap (λ xs. p ∷ xs) found.0, found.1)

-- two frames that begin one stream are one
pub same_frame : (a b x y : List ℕ) → frame a ++ x ≡ frame b ++ y → (a ≡ b) × (x ≡ y)
same_frame a b x y same =
    let high : length a / 256 ≡ length b / 256 = cc in
    let low : length a % 256 ≡ length b % 256 = cc in
    let rest : a ++ x ≡ b ++ y = cc in
    same_front a b x y (same_number (length a) (length b) high low) rest

-- a stream has one reading
pub one_framing : (stream : List ℕ) (a b : List (List ℕ)) (r s : List ℕ) → Frames stream a r → Frames stream b s → (a ≡ b) × (r ≡ s)
one_framing stream [] [] r s x y = (refl, sym x.whole ∙ y.whole)
one_framing stream [] (m ∷ b) r s x y =
    absurd (x.no_more m (flat_map frame b ++ s) y.each.0 (sym x.whole ∙ y.whole ∙ append_assoc (frame m) (flat_map frame b) s))
one_framing stream (m ∷ a) [] r s x y =
    absurd (y.no_more m (flat_map frame a ++ r) x.each.0 (sym y.whole ∙ x.whole ∙ append_assoc (frame m) (flat_map frame a) r))
one_framing stream (m ∷ a) (n ∷ b) r s x y =
    let first = same_frame m n (flat_map frame a ++ r) (flat_map frame b ++ s)
    (sym (append_assoc (frame m) (flat_map frame a) r) ∙ sym x.whole ∙ y.whole ∙ append_assoc (frame n) (flat_map frame b) s) in
    let rest = one_framing (flat_map frame b ++ s) a b r s
    (record { whole = sym first.1; each = x.each.1; no_more = x.no_more })
    (record { whole = refl; each = y.each.1; no_more = y.no_more }) in
    (ap (λ message. message ∷ a) first.0 ∙ ap (λ messages. n ∷ messages) rest.0, rest.1)

each_append : (a b : List (List ℕ)) → AllByRecursion IsFramed a → AllByRecursion IsFramed b → AllByRecursion IsFramed (a ++ b)
each_append [] b x y = y
each_append (message ∷ a) b x y = (x.0, each_append a b x.1 y)

-- what comes behind a rest is read with it
pub Frames-append : (stream more : List ℕ) (a b : List (List ℕ)) (rest end : List ℕ) → Frames stream a rest → Frames (rest ++ more) b end → Frames (stream ++ more) (a ++ b) end
Frames-append stream more a b rest end x y = record {
  whole = ap (λ xs. xs ++ more) x.whole ∙ append_assoc (flat_map frame a) rest more ∙ ap (λ xs. flat_map frame a ++ xs) y.whole
      ∙ sym (append_assoc (flat_map frame a) (flat_map frame b) end) ∙ ap (λ xs. xs ++ end) (sym (flat_map-append frame a b));
  each = each_append a b x.each y.each;
  no_more = y.no_more;
}

-- a whole frame and nothing behind it
pub Frames-one : (message : List ℕ) → IsFramed message → Frames (frame message) (message ∷ []) []
Frames-one message framed = record {
  whole = sym (append-nil (frame message ++ []) ∙ append-nil (frame message));
  each = (framed, tt);
  no_more = λ other more other_framed same. absurd (cc same);
}

-- where a frame that is begun is short of octets, no whole frame begins
pub open_frame : (high : Option ℕ) (announced : ℕ) (message : List ℕ) → (0 < announced → length message < announced) → BeginsNoFrame (octets_of high announced message)
open_frame None zero message short = λ other more framed same. absurd (cc same)
open_frame (Some first) zero message short = λ other more framed same. absurd (cc same)
open_frame high (suc n) message short = λ other more framed same.
    let first : suc n / 256 ≡ length other / 256 = cc in
    let second : suc n % 256 ≡ length other % 256 = cc in
    let rest : message ≡ other ++ more = cc in
    omega (arith, short (omega arith), same_number (suc n) (length other) first second, ap length rest, length-append other more)

-- a frame takes more octets and stays open
pub Gains-none : (messages : List (List ℕ)) (stream rest : List ℕ) → stream ≡ rest → BeginsNoFrame rest → Gains messages messages stream rest
Gains-none messages stream rest same no_more = record {
  messages = [];
  gained = sym (append-nil messages);
  frames = record { whole = same; each = tt; no_more = no_more };
}

-- a stream goes on behind what it gave
pub Gains-append : (old mid new : List (List ℕ)) (stream more rest end : List ℕ) → Gains old mid stream rest → Gains mid new (rest ++ more) end → Gains old new (stream ++ more) end
Gains-append old mid new stream more rest end x y = record {
  messages = x.messages ++ y.messages;
  gained = y.gained ∙ ap (λ xs. xs ++ y.messages) x.gained ∙ append_assoc old x.messages y.messages;
  frames = Frames-append stream more x.messages y.messages rest end x.frames y.frames;
}

-- both octets of the length have come where two octets have
pub announced_from_two : (high : Option ℕ) (announced : ℕ) (message octets : List ℕ) → octets_of high announced message ≡ octets → 2 ≤ length octets → 0 < announced
announced_from_two None zero message octets same two = omega (arith, ap length same)
announced_from_two (Some first) zero message octets same two = omega (arith, ap length same)
announced_from_two high (suc n) message octets same two = omega arith

-- octets behind the length are the message's
pub octets_grow : (high : Option ℕ) (announced : ℕ) (message piece : List ℕ) → 0 < announced → octets_of high announced message ++ piece ≡ octets_of high announced (message ++ piece)
octets_grow high zero message piece positive = absurd (omega arith)
octets_grow None (suc n) message piece positive = refl
octets_grow (Some first) (suc n) message piece positive = refl

-- a message takes a piece and lacks more
pub message_open : (out : List (List ℕ)) (high : Option ℕ) (announced : ℕ) (message piece octets grown : List ℕ)
    → octets_of high announced message ≡ octets → 2 ≤ length octets → grown ≡ message ++ piece → length grown < announced
    → Gains out out (octets ++ piece) (octets_of high announced grown)
message_open out high announced message piece octets grown same two grows short =
    Gains-none out (octets ++ piece) (octets_of high announced grown)
    (ap (λ xs. xs ++ piece) (sym same) ∙ octets_grow high announced message piece (announced_from_two high announced message octets same two)
    ∙ ap (octets_of high announced) (sym grows))
    (open_frame high announced grown (λ _. short))

pub zero_begins_no_frame : (more : List ℕ) → BeginsNoFrame (0 ∷ (0 ∷ more))
zero_begins_no_frame more = λ message rest framed same.
    let high : 0 ≡ length message / 256 = cc in
    let low : 0 ≡ length message % 256 = cc in
    omega (arith, framed.not_empty)

-- the length 0 has come
pub zero_length : (out : List (List ℕ)) (octets piece : List ℕ) → 0 < length piece → octets ++ get_or piece 0 0 ∷ [] ≡ 0 ∷ (0 ∷ [])
    → (rest : List ℕ) × IsZero rest × Gains out out (octets ++ piece) rest
zero_length out octets [] some zero_octets = absurd (omega arith)
zero_length out octets (octet ∷ more) some zero_octets =
    let same : octets ++ (octet ∷ more) ≡ 0 ∷ (0 ∷ more) = sym (append_assoc octets (octet ∷ []) more) ∙ ap (λ xs. xs ++ more) zero_octets in
    (0 ∷ (0 ∷ more), (more, refl), Gains-none out (octets ++ (octet ∷ more)) (0 ∷ (0 ∷ more)) same (zero_begins_no_frame more))

pub take_nil : (n : ℕ) → take {A = ℕ} n [] ≡ []
take_nil zero = refl
take_nil (suc n) = refl

-- a piece is read on behind its place
pub piece_goes_on : (place n : ℕ) (piece : List ℕ) → take place piece ++ take n (drop place piece) ≡ take (place + n) piece
piece_goes_on zero n piece = rw zero-add refl
piece_goes_on (suc place) n [] = rw (take_nil n, suc-add) refl
piece_goes_on (suc place) n (octet ∷ piece) = rw suc-add (ap (λ xs. octet ∷ xs) (piece_goes_on place n piece))

-- a piece is read to its next place, and to its end
pub Gains-next : (old mid new : List (List ℕ)) (before piece held end : List ℕ) (place n : ℕ)
    → Gains old mid (before ++ take place piece) held → Gains mid new (held ++ take n (take (length piece - place) (drop place piece))) end
    → Gains old new (before ++ take (place + n) piece) end
Gains-next old mid new before piece held end place n x y =
    let z = Gains-append old mid new (before ++ take place piece) (take n (drop place piece)) held end x (rw take_rest at y) in
    rw (← piece_goes_on place n piece, ← append_assoc before (take place piece) (take n (drop place piece))) z

pub Gains-last : (old mid new : List (List ℕ)) (before piece held end : List ℕ) (place : ℕ)
    → Gains old mid (before ++ take place piece) held → Gains mid new (held ++ take (length piece - place) (drop place piece)) end
    → Gains old new (before ++ piece) end
Gains-last old mid new before piece held end place x y =
    let z = Gains-append old mid new (before ++ take place piece) (drop place piece) held end x (rw take_rest at y) in
    let whole : (before ++ take place piece) ++ drop place piece ≡ before ++ piece =
    append_assoc before (take place piece) (drop place piece) ∙ ap (λ xs. before ++ xs) (take-append-drop place piece) in
    rw (← whole) z

-- a piece is given up on its way: what was added is the first of the stream's messages
pub Gains-given_up : (old mid new : List (List ℕ)) (before piece held : List ℕ) (place : ℕ)
    → Gains old mid (before ++ take place piece) held → new ≡ mid → GainsFirst old new (before ++ piece)
Gains-given_up old mid new before piece held place x same =
    let whole : (before ++ take place piece) ++ drop place piece ≡ before ++ piece =
    append_assoc before (take place piece) (drop place piece) ∙ ap (λ xs. before ++ xs) (take-append-drop place piece) in
    record {
      messages = x.messages;
      gained = same ∙ x.gained;
      begins = record {
        more = held ++ drop place piece;
        whole = sym whole ∙ ap (λ xs. xs ++ drop place piece) x.frames.whole ∙ append_assoc (flat_map frame x.messages) held (drop place piece);
        each = x.frames.each;
      };
    }

-- a reading of the stream
pub record Reading (stream : List ℕ) : Type 0 where
  pub messages : List (List ℕ)
  pub rest : List ℕ
  pub frames : Frames stream messages rest

nothing_to_read : (stream : List ℕ) → BeginsNoFrame stream → Reading stream
nothing_to_read stream no_more = record { messages = []; rest = stream; frames = record { whole = refl; each = tt; no_more = no_more } }

-- two octets of a length, and fewer octets than it says
short_of_octets : (high low : ℕ) (body : List ℕ) → low < 256 → length body < high * 256 + low → BeginsNoFrame (high ∷ (low ∷ body))
short_of_octets high low body small short = λ message more framed same.
    let first : high ≡ length message / 256 = cc in
    let second : low ≡ length message % 256 = cc in
    let rest : body ≡ message ++ more = cc in
    omega (arith, ap length rest, length-append message more)

zero_to_read : (high low : ℕ) (body : List ℕ) → high * 256 + low ≡ 0 → BeginsNoFrame (high ∷ (low ∷ body))
zero_to_read high low body none = λ message more framed same.
    let first : high ≡ length message / 256 = cc in
    let second : low ≡ length message % 256 = cc in
    omega (arith, framed.not_empty)

-- a whole frame, and what is read behind it
frame_to_read : (high low : ℕ) (body : List ℕ) → high < 256 → low < 256 → 0 < high * 256 + low → high * 256 + low ≤ length body
    → Reading (drop (high * 256 + low) body) → Reading (high ∷ (low ∷ body))
frame_to_read high low body high_fits low_fits some whole x =
    let message = take (high * 256 + low) body in
    let size : length message ≡ high * 256 + low = length-take-le (high * 256 + low) body whole in
    let first : length message / 256 ≡ high = omega arith in
    let second : length message % 256 ≡ low = omega arith in
    let one = Frames-one message (record { not_empty = omega arith; at_most_65535 = omega arith }) in
    let all = Frames-append (frame message) (drop (high * 256 + low) body) (message ∷ []) x.messages [] x.rest one x.frames in
    let same : frame message ++ drop (high * 256 + low) body ≡ high ∷ (low ∷ body) =
    ap (λ n. n ∷ (length message % 256 ∷ (message ++ drop (high * 256 + low) body))) first
    ∙ ap (λ n. high ∷ (n ∷ (message ++ drop (high * 256 + low) body))) second
    ∙ ap (λ xs. high ∷ (low ∷ xs)) (take-append-drop (high * 256 + low) body) in
    record { messages = message ∷ x.messages; rest = x.rest; frames = rw same at all }

octets_drop : (n : ℕ) (octets : List ℕ) → AllByRecursion (λ octet. octet < 256) octets → AllByRecursion (λ octet. octet < 256) (drop n octets)
octets_drop zero octets each = each
octets_drop (suc n) [] each = tt
octets_drop (suc n) (octet ∷ octets) each = octets_drop n octets each.1

reading_within : (n : ℕ) (stream : List ℕ) → length stream ≤ n → AllByRecursion (λ octet. octet < 256) stream → Reading stream
reading_within n [] within each = nothing_to_read [] (λ message more framed same. absurd (cc same))
reading_within n (high ∷ []) within each = nothing_to_read (high ∷ []) (λ message more framed same. absurd (cc same))
reading_within zero (high ∷ (low ∷ body)) within each = absurd (omega arith)
reading_within (suc n) (high ∷ (low ∷ body)) within each =
    ⊎_elim
    (λ (short : length body < high * 256 + low). nothing_to_read (high ∷ (low ∷ body)) (short_of_octets high low body each.1.0 short))
    (λ (whole : high * 256 + low ≤ length body).
    ⊎_elim
    (λ (some : 0 < high * 256 + low). frame_to_read high low body each.0 each.1.0 some whole
    (reading_within n (drop (high * 256 + low) body) (rw length-drop (omega arith)) (octets_drop (high * 256 + low) body each.1.1)))
    (λ (none : high * 256 + low ≤ 0). nothing_to_read (high ∷ (low ∷ body)) (zero_to_read high low body (omega arith)))
    (cases_lt 0 (high * 256 + low)))
    (cases_lt (length body) (high * 256 + low))

-- every stream of octets has a reading
pub some_reading : (stream : List ℕ) → AllByRecursion (λ octet. octet < 256) stream → (messages : List (List ℕ)) × (rest : List ℕ) × Frames stream messages rest
some_reading stream each = let x = reading_within (length stream) stream (omega arith) each in (x.messages, x.rest, x.frames)
