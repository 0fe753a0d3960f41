-- What has been read of a stream so far, and what it says of the stream as a whole.
use Rattle.std.proofs.Common.{◌≡◌, ◌⊎◌, inl, inr, ⊎_elim, subst, flat_map, ℕ, zero, suc, ◌+◌, ◌-◌, ◌<◌, ◌≤◌, List, [], ◌∷◌, ◌++◌, length, take, drop, refl, sym, ap, ◌∙◌, zero-add, arith, append_assoc, length-append, Option, Some, None, IfSome}
use Rattle.std.proofs.Math.Nat.{sub-zero}
use Rattle.std.proofs.lemmas.List.{append-nil, take_all, take_at, take-take, length-take-le, take-append-drop}
use Rattle.std.proofs.lemmas.Bool.{cases_lt}
use Rattle.std.specs.List.{AllByRecursion}
use Rattle.std.proofs.KnownBytes.{Consumes-nil, Consumes-trans, Consumes-whole, Keeps-refl}
use Rattle.std.specs.Io.KnownBytes.{Consumes, IsAtEnd, Keeps}
use Rattle.dnsv_message.specs.declared.TheConstants.{FILE_LIMIT}
use Rattle.dnsv_names.specs.Octets.{AreOctets}
use Rattle.dnsv_message.specs.Streams.Frames.{frame, Frames, IsZero, HasZeroLength, HasNoFault, IsTooLong, EndsTorn, IsCapture, StopsAtFault}
use Rattle.dnsv_message.specs.Streams.Framer.{Gains}
use Rattle.dnsv_message.proofs.FrameLemmas.FileLemmas.{stops_before, stops_behind}
use Rattle.dnsv_message.proofs.FrameLemmas.{Frames-append, one_framing, some_reading, zero_begins_no_frame}
use Rattle.dnsv_message.proofs.FitLemmas.{each-front, each-behind}

-- the reader gave octets that are these messages and the rest, and so many may still come
pub record HasRead (old now : Option (List ℕ)) (messages : List (List ℕ)) (rest : List ℕ) (left : ℕ) : Type 0 where
  pub octets : List ℕ
  pub consumed : Consumes old now octets
  pub frames : Frames octets messages rest
  pub size : length octets + left ≡ FILE_LIMIT

-- nothing has been read
pub HasRead-start : (old : Option (List ℕ)) (messages : List (List ℕ)) (rest : List ℕ) (left : ℕ) → messages ≡ [] → rest ≡ [] → left ≡ FILE_LIMIT → HasRead old old messages rest left
HasRead-start old messages rest left none nothing all = record {
  octets = [];
  consumed = Consumes-nil old;
  frames = rw (none, nothing) (record { whole = refl; each = tt; no_more = λ message more framed same. absurd (cc same) });
  size = rw all (zero-add FILE_LIMIT);
}

-- a front that is shorter than what is taken is taken whole
pub take_over : (n : ℕ) (front back : List ℕ) → length front ≤ n → take n (front ++ back) ≡ front ++ take (n - length front) back
take_over n [] back within = rw sub-zero refl
take_over zero (octet ∷ front) back within = absurd (omega arith)
take_over (suc n) (octet ∷ front) back within =
    let rest : suc n - suc (length front) ≡ n - length front = omega arith in
    rw rest (ap (λ xs. octet ∷ xs) (take_over n front back (omega arith)))

Frames-gained : (stream more : List ℕ) (old new : List (List ℕ)) (rest end : List ℕ) → Frames stream old rest → Gains old new (rest ++ more) end → Frames (stream ++ more) new end
Frames-gained stream more old new rest end x y =
    let joined = Frames-append stream more old y.messages rest end x y.frames in rw y.gained joined

-- a piece came
pub HasRead-more : (old now next : Option (List ℕ)) (messages new : List (List ℕ)) (rest end buf : List ℕ) (left count n : ℕ)
    → HasRead old now messages rest left → Consumes now next (take count buf) → count ≤ n → n ≤ count → count ≤ length buf → n ≤ left
    → Gains messages new (rest ++ take n buf) end → HasRead old next new end (left - n)
HasRead-more old now next messages new rest end buf left count n x consumes least most short within gains =
    let same : n ≡ count = omega arith in
    let size : length (take n buf) ≡ n = length-take-le n buf (omega arith) in
    record {
      octets = x.octets ++ take n buf;
      consumed = Consumes-trans old now next x.octets (take n buf) x.consumed (rw same consumes);
      frames = Frames-gained x.octets (take n buf) messages new rest end x.frames gains;
      size = rw length-append (omega (arith, x.size, size));
    }

-- the stream has ended, so that it is what was read
pub HasRead-end : (old now next : Option (List ℕ)) (messages : List (List ℕ)) (rest buf : List ℕ) (left count : ℕ) (P : List ℕ → Type 0)
    → HasRead old now messages rest left → Consumes now next (take count buf) → count ≡ 0 → IsAtEnd next
    → ((octets : List ℕ) → length octets ≤ FILE_LIMIT → Frames octets messages rest → P octets) → IfSome old P
HasRead-end old now next messages rest buf left count P x consumes none ended known =
    let all : Consumes old next x.octets = rw append-nil at (Consumes-trans old now next x.octets [] x.consumed (rw none at consumes)) in
    Consumes-whole old next x.octets P all ended (known x.octets (omega (arith, x.size)) x.frames)

-- a length 0 stays one, whatever follows
pub zero_goes_on : (stream more : List ℕ) (messages : List (List ℕ)) (rest : List ℕ) → Frames stream messages rest → IsZero rest
    → Frames (stream ++ more) messages (rest ++ more) × IsZero (rest ++ more)
zero_goes_on stream more messages rest x zero_rest =
    let still : rest ++ more ≡ 0 ∷ (0 ∷ (zero_rest.0 ++ more)) = ap (λ xs. xs ++ more) zero_rest.1 in (
      record { whole = ap (λ xs. xs ++ more) x.whole ∙ append_assoc _ rest more; each = x.each; no_more = rw still (zero_begins_no_frame (zero_rest.0 ++ more)) },
      (zero_rest.0 ++ more, still),
    )

-- the stream is what was read, what is taken of a piece, and more
split_at : (xs octets piece ys : List ℕ) (n : ℕ) → xs ≡ octets ++ piece ++ ys → xs ≡ (octets ++ take n piece) ++ (drop n piece ++ ys)
split_at xs octets piece ys n same =
    same ∙ ap (λ p. octets ++ p ++ ys) (sym (take-append-drop n piece)) ∙ ap (λ p. p ++ ys) (sym (append_assoc octets (take n piece) (drop n piece)))
    ∙ append_assoc (octets ++ take n piece) (drop n piece) ys

-- a length 0 came within the limit
pub zero_came : (limit : ℕ) (xs octets piece ys : List ℕ) (n : ℕ) (messages : List (List ℕ)) (rest : List ℕ)
    → xs ≡ octets ++ piece ++ ys → n ≤ length piece → length octets + n ≤ limit → Frames (octets ++ take n piece) messages rest → IsZero rest
    → (messages : List (List ℕ)) × (rest : List ℕ) × Frames (take limit xs) messages rest × IsZero rest
zero_came limit xs octets piece ys n messages rest same short within x zero_rest =
    let front = octets ++ take n piece in
    let size : length front ≡ length octets + n = rw (length-append, length-take-le) refl in
    let more = take (limit - length front) (drop n piece ++ ys) in
    let taken : take limit xs ≡ front ++ more = ap (take limit) (split_at xs octets piece ys n same) ∙ take_over limit front (drop n piece ++ ys) (omega (arith, size)) in
    let still = zero_goes_on front more messages rest x zero_rest in
    (messages, rest ++ more, rw taken still.0, still.1)

-- an octet past the limit came, and no length 0 before
pub too_long_came : (limit : ℕ) (xs octets piece ys : List ℕ) (n : ℕ) (messages : List (List ℕ)) (rest : List ℕ)
    → xs ≡ octets ++ piece ++ ys → n < length piece → length octets + n ≡ limit → Frames (octets ++ take n piece) messages rest → ¬ IsZero rest
    → (limit < length xs) × ((others : List (List ℕ)) (other : List ℕ) → Frames (take limit xs) others other → ¬ IsZero other)
too_long_came limit xs octets piece ys n messages rest same short within x not_zero =
    let front = octets ++ take n piece in
    let fits : n ≤ length piece = omega arith in
    let size : length front ≡ length octets + n = rw (length-append, length-take-le) refl in
    let taken : take limit xs ≡ front = ap (take limit) (split_at xs octets piece ys n same) ∙ take_at front (drop n piece ++ ys) limit (size ∙ within) in (
      omega (arith, ap length same, length-append (octets ++ piece) ys, length-append octets piece),
      λ others other y. λ zero_rest. not_zero (let e = (one_framing front others messages other rest (rw taken at y) x).1 in rw e at zero_rest),
    )

-- what holds of every stream that begins with what was read holds of the whole, where that is known
HasRead-known : (old now next : Option (List ℕ)) (messages : List (List ℕ)) (rest : List ℕ) (left : ℕ) (piece : List ℕ) (P : List ℕ → Type 0)
    → (x : HasRead old now messages rest left) → Consumes now next piece → ((xs ys : List ℕ) → xs ≡ x.octets ++ piece ++ ys → P xs) → IfSome old P
HasRead-known None now next messages rest left piece P x consumes known = tt
HasRead-known (Some xs) now None messages rest left piece P x consumes known = absurd (Consumes-trans (Some xs) now None x.octets piece x.consumed consumes)
HasRead-known (Some xs) now (Some ys) messages rest left piece P x consumes known = known xs ys (Consumes-trans (Some xs) now (Some ys) x.octets piece x.consumed consumes)

-- what a piece with a length 0, or with an octet past the limit, says of the stream as a whole
pub HasRead-zero : (old now next : Option (List ℕ)) (messages new : List (List ℕ)) (rest end buf : List ℕ) (left count n : ℕ)
    → HasRead old now messages rest left → Consumes now next (take count buf) → n ≤ count → count ≤ length buf → n ≤ left
    → Gains messages new (rest ++ take n buf) end → IsZero end → IfSome old HasZeroLength
HasRead-zero old now next messages new rest end buf left count n x consumes most short within gains zero_rest =
    HasRead-known old now next messages rest left (take count buf) HasZeroLength x consumes
    (λ xs ys same.
    let size : length (take count buf) ≡ count = length-take-le count buf short in
    let y : Frames (x.octets ++ take n (take count buf)) new end =
    rw (take-take n count buf most) (Frames-gained x.octets (take n buf) messages new rest end x.frames gains) in
    zero_came FILE_LIMIT xs x.octets (take count buf) ys n new end same (omega arith) (omega (arith, x.size)) y zero_rest)

pub HasRead-too_long : (old now next : Option (List ℕ)) (messages new : List (List ℕ)) (rest end buf : List ℕ) (left count n : ℕ)
    → HasRead old now messages rest left → Consumes now next (take count buf) → n < count → count ≤ length buf → n ≡ left
    → Gains messages new (rest ++ take n buf) end → ¬ IsZero end → IfSome old IsTooLong
HasRead-too_long old now next messages new rest end buf left count n x consumes most short within gains not_zero =
    HasRead-known old now next messages rest left (take count buf) IsTooLong x consumes
    (λ xs ys same.
    let size : length (take count buf) ≡ count = length-take-le count buf short in
    let fewer : n ≤ count = omega arith in
    let y : Frames (x.octets ++ take n (take count buf)) new end =
    rw (take-take n count buf fewer) (Frames-gained x.octets (take n buf) messages new rest end x.frames gains) in
    let found = too_long_came FILE_LIMIT xs x.octets (take count buf) ys n new end same (omega arith) (omega (arith, x.size)) y not_zero in
    (found.0, λ has_zero. found.1 has_zero.0 has_zero.1 has_zero.2 has_zero.3))

-- a file within the limit is read as a whole
within_limit : (limit : ℕ) (file : List ℕ) (messages : List (List ℕ)) (rest : List ℕ) → length file ≤ limit → Frames (take limit file) messages rest → Frames file messages rest
within_limit limit file messages rest within x = rw take_all at x

-- a file has one answer
pub zero_and_other : (file : List ℕ) (messages : List (List ℕ)) (rest : List ℕ) → length file ≤ FILE_LIMIT → Frames file messages rest → ¬ IsZero rest → ¬ HasZeroLength file
zero_and_other file messages rest within x not_zero = λ came.
    let same = one_framing file came.0 messages came.1 rest (within_limit FILE_LIMIT file came.0 came.1 within came.2) x in
    not_zero (rw same.1 at came.3)

pub nothing_not_zero : ¬ IsZero []
nothing_not_zero = λ came. absurd (cc came.1)

pub messages_alone : (file : List ℕ) (messages : List (List ℕ)) → IsCapture file messages → (¬ HasZeroLength file) × (¬ EndsTorn file) × (¬ IsTooLong file)
messages_alone file messages x = (
  zero_and_other file messages [] x.within x.frames nothing_not_zero,
  λ torn. torn.1.3 (one_framing file torn.1.0 messages torn.1.1 [] torn.1.2 x.frames).1,
  λ too_long. omega (arith, x.within, too_long.0),
)

pub zero_length_alone : (file : List ℕ) → HasZeroLength file → (¬ EndsTorn file) × (¬ IsTooLong file)
zero_length_alone file came =
    (λ torn. zero_and_other file torn.1.0 torn.1.1 torn.0 torn.1.2 torn.1.4 came, λ too_long. too_long.1 came)

-- what was read before the last piece has no fault
no_fault_read : (old now : Option (List ℕ)) (messages : List (List ℕ)) (rest : List ℕ) (left : ℕ) → (x : HasRead old now messages rest left) → ¬ IsZero rest → HasNoFault x.octets
no_fault_read old now messages rest left x not_zero =
    let within : length x.octets ≤ FILE_LIMIT = omega (arith, x.size) in
    (within, zero_and_other x.octets messages rest within x.frames not_zero)

pub HasRead-stops_before : (more : ℕ) (old now next : Option (List ℕ)) (messages : List (List ℕ)) (rest : List ℕ) (left : ℕ)
    → HasRead old now messages rest left → ¬ IsZero rest → Keeps now next → StopsAtFault HasNoFault more old next
HasRead-stops_before more old now next messages rest left x not_zero kept =
    stops_before HasNoFault more old now next x.octets (no_fault_read old now messages rest left x not_zero) x.consumed kept

pub HasRead-stops_behind : (more : ℕ) (old now next : Option (List ℕ)) (messages : List (List ℕ)) (rest buf : List ℕ) (left count : ℕ)
    → HasRead old now messages rest left → ¬ IsZero rest → Consumes now next (take count buf) → count ≤ length buf → length buf ≤ more → StopsAtFault HasNoFault more old next
HasRead-stops_behind more old now next messages rest buf left count x not_zero consumes short small =
    stops_behind HasNoFault more old now next x.octets buf count (no_fault_read old now messages rest left x not_zero) x.consumed consumes short small

-- nothing was read
pub unread_frames_stop : (more : ℕ) (old : Option (List ℕ)) → StopsAtFault HasNoFault more old old
unread_frames_stop more old = HasRead-stops_before more old old old [] [] FILE_LIMIT (HasRead-start old [] [] FILE_LIMIT refl refl refl) nothing_not_zero (Keeps-refl old)

pub torn_frame_alone : (file : List ℕ) → EndsTorn file → ¬ IsTooLong file
torn_frame_alone file torn = λ too_long. omega (arith, torn.0, too_long.0)

-- ---- every file has an answer

zero_or_not : (rest : List ℕ) → IsZero rest ⊎ (¬ IsZero rest)
zero_or_not [] = inr (λ came. absurd (cc came.1))
zero_or_not (x ∷ []) = inr (λ came. absurd (cc came.1))
zero_or_not (zero ∷ (zero ∷ rest)) = inl (rest, refl)
zero_or_not (zero ∷ (suc y ∷ rest)) = inr (λ came. let same : suc y ≡ 0 = cc came.1 in absurd (omega (arith, same)))
zero_or_not (suc x ∷ (y ∷ rest)) = inr (λ came. let same : suc x ≡ 0 = cc came.1 in absurd (omega (arith, same)))

whole_answer : (file : List ℕ) (messages : List (List ℕ)) (rest : List ℕ) → length file ≤ FILE_LIMIT → Frames file messages rest → ¬ IsZero rest → ((messages : List (List ℕ)) × IsCapture file messages) ⊎ EndsTorn file
whole_answer file messages [] within frames not_zero = inl (messages, record { within = within; frames = frames })
whole_answer file messages (octet ∷ rest) within frames not_zero =
    inr (within, (messages, octet ∷ rest, frames, (λ none. absurd (cc none)), not_zero))

pub some_answer : (file : List ℕ) → AllByRecursion (λ octet. octet < 256) file → ((messages : List (List ℕ)) × IsCapture file messages) ⊎ (HasZeroLength file ⊎ (EndsTorn file ⊎ IsTooLong file))
some_answer file are =
    let read = some_reading (take FILE_LIMIT file) (recursion-take FILE_LIMIT file are) in
    ⊎_elim
    (λ (zero_rest : IsZero read.1). inr (inl (read.0, read.1, read.2, zero_rest)))
    (λ (not_zero : ¬ IsZero read.1). ⊎_elim
    (λ (long : FILE_LIMIT < length file). inr (inr (inr (
      long,
      λ came. not_zero (let same = (one_framing (take FILE_LIMIT file) came.0 read.0 came.1 read.1 came.2 read.2).1 in rw same at came.3),
    ))))
    (λ (within : length file ≤ FILE_LIMIT). ⊎_elim
    (λ (capture : (messages : List (List ℕ)) × IsCapture file messages). inl capture)
    (λ (torn : EndsTorn file). inr (inr (inl torn)))
    (whole_answer file read.0 read.1 within (within_limit FILE_LIMIT file read.0 read.1 within read.2) not_zero))
    (cases_lt FILE_LIMIT (length file)))
    (zero_or_not read.1) where
      recursion-take : (n : ℕ) (xs : List ℕ) → AllByRecursion (λ octet. octet < 256) xs → AllByRecursion (λ octet. octet < 256) (take n xs)
      recursion-take zero xs are = tt
      recursion-take (suc n) [] are = tt
      recursion-take (suc n) (x ∷ xs) are = (are.0, recursion-take n xs are.1)

-- ---- the messages of a file are octets

frames_octets : (messages : List (List ℕ)) → AreOctets (flat_map frame messages) → AllByRecursion AreOctets messages
frames_octets [] are = tt
frames_octets (message ∷ messages) are =
    let IsOctet : ℕ → Type 0 = λ octet. octet < 256 in (
      (each-front IsOctet (frame message) (flat_map frame messages) are).1.1,
      frames_octets messages (each-behind IsOctet (frame message) (flat_map frame messages) are),
    )

pub capture_octets : (file : List ℕ) (messages : List (List ℕ)) → AreOctets file → IsCapture file messages → AllByRecursion AreOctets messages
capture_octets file messages are capture =
    frames_octets messages (subst AreOctets (capture.frames.whole ∙ append-nil (flat_map frame messages)) are)
