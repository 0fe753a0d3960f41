-- What a framer keeps between pieces, and that the cutting of a stream doesn't matter.
use Rattle.std.proofs.Common.{◌≡◌, ◌≢◌, ℕ, List, [], ◌∷◌, ◌++◌, refl, sym, ap, subst, ◌∙◌, inl, inr, append_assoc, Option, Some, None}
use Rattle.std.proofs.lemmas.List.{append-nil}
use Rattle.std.specs.List.{flat_map}
use Rattle.dnsv_message.specs.declared.errors.ReadError.{ReadError}
use Rattle.dnsv_message.specs.declared.errors.ReadError.TheVariants.{Read, ZeroLength, TornFrame}
use Rattle.dnsv_message.specs.Streams.Frames.{frame, BeginsNoFrame, BeginsWith, Frames, IsZero}
use Rattle.dnsv_message.specs.Streams.Framer.{Framing, Gains, IsEndError, IsPieceError, KeepsRest, Feeds, FeedsAll}
use Rattle.dnsv_message.specs.Streams.OpenFrame.{rest_of}
use Rattle.dnsv_message.proofs.FrameLemmas.{Gains-append, Gains-none, one_framing, same_frame, zero_begins_no_frame}
use Rattle.dnsv_message.proofs.FrameLemmas.CaptureLemmas.{zero_goes_on}

length_zero : IsZero (0 ∷ (0 ∷ []))
length_zero = ([], refl)

nothing_not_zero : ¬ IsZero []
nothing_not_zero = λ came. absurd (cc came.1)

kept_open : (left kept : List ℕ) → KeepsRest left kept → ¬ IsZero kept → (kept ≡ left) × ¬ IsZero left
kept_open left kept (inl x) not_zero = (x.1, x.0)
kept_open left kept (inr x) not_zero = absurd (not_zero (rw x.1 length_zero))

kept_zero : (left kept : List ℕ) → KeepsRest left kept → IsZero kept → IsZero left
kept_zero left kept (inl x) zero_kept = rw x.1 at zero_kept
kept_zero left kept (inr x) zero_kept = x.0

-- what a piece added, seen from what is kept
pub Gains-open : (rest piece : List ℕ) (old new : List (List ℕ)) (kept : List ℕ) → Feeds rest piece old new kept → ¬ IsZero kept → Gains old new (rest ++ piece) kept
Gains-open rest piece old new kept x not_zero = rw (kept_open x.left kept x.keeps not_zero).0 x.gains

pub Gains-zero : (rest piece : List ℕ) (old new : List (List ℕ)) (kept : List ℕ) → Feeds rest piece old new kept → IsZero kept
    → (left : List ℕ) × IsZero left × Gains old new (rest ++ piece) left
Gains-zero rest piece old new kept x zero_kept = (x.left, kept_zero x.left kept x.keeps zero_kept, x.gains)

-- what is kept of a rest is one thing
kept_once : (left a b : List ℕ) → KeepsRest left a → KeepsRest left b → a ≡ b
kept_once left a b (inl x) (inl y) = x.1 ∙ sym y.1
kept_once left a b (inl x) (inr y) = absurd (x.0 y.0)
kept_once left a b (inr x) (inl y) = absurd (y.0 x.0)
kept_once left a b (inr x) (inr y) = x.1 ∙ sym y.1

-- what is added to no messages is added to others
pub Feeds-onto : (rest piece : List ℕ) (old new : List (List ℕ)) (kept : List ℕ) (others : List (List ℕ)) → old ≡ [] → Feeds rest piece old new kept
    → (all : List (List ℕ)) × Feeds rest piece others all kept
Feeds-onto rest piece old new kept others none feeds = (
  others ++ feeds.gains.messages,
  record { left = feeds.left; gains = record { messages = feeds.gains.messages; gained = refl; frames = feeds.gains.frames }; keeps = feeds.keeps },
)

-- a piece has one outcome
pub one_feeding : (rest piece : List ℕ) (old a b : List (List ℕ)) (r s : List ℕ) → Feeds rest piece old a r → Feeds rest piece old b s → (a ≡ b) × (r ≡ s)
one_feeding rest piece old a b r s x y =
    let same = one_framing (rest ++ piece) x.gains.messages y.gains.messages x.left y.left x.gains.frames y.gains.frames in (
      x.gains.gained ∙ ap (λ messages. old ++ messages) same.0 ∙ sym y.gains.gained,
      kept_once y.left r s (rw same.1 at x.keeps) y.keeps,
    )

-- nothing comes behind a length 0
nothing_behind_zero : (piece : List ℕ) (old new : List (List ℕ)) (left : List ℕ) → Gains old new (0 ∷ (0 ∷ piece)) left → (new ≡ old) × IsZero left
nothing_behind_zero piece old new left x =
    let same = one_framing (0 ∷ (0 ∷ piece)) x.messages [] left (0 ∷ (0 ∷ piece)) x.frames
    (record { whole = refl; each = tt; no_more = zero_begins_no_frame piece }) in
    (x.gained ∙ ap (λ messages. old ++ messages) same.0 ∙ append-nil old, (piece, same.1))

feed_on : (rest a b : List ℕ) (old mid new : List (List ℕ)) (left between end kept : List ℕ) → Gains old mid (rest ++ a) left → KeepsRest left between
    → Gains mid new (between ++ b) end → KeepsRest end kept → Feeds rest (a ++ b) old new kept
feed_on rest a b old mid new left between end kept x (inl goes_on) y keeps =
    let joined = Gains-append old mid new (rest ++ a) b left end x (rw goes_on.1 at y) in
    record { left = end; gains = rw append_assoc at joined; keeps = keeps }
feed_on rest a b old mid new left between end kept x (inr ended) y keeps =
    let behind = nothing_behind_zero b mid new end (rw ended.1 at y) in
    let still = zero_goes_on (rest ++ a) b x.messages left x.frames ended.0 in
    let same : (rest ++ a) ++ b ≡ rest ++ (a ++ b) = append_assoc rest a b in
    record {
      left = left ++ b;
      gains = record { messages = x.messages; gained = behind.0 ∙ x.gained; frames = rw same at still.0 };
      keeps = inr (still.1, kept_once end kept (0 ∷ (0 ∷ [])) keeps (inr (behind.1, refl)));
    }

-- two pieces are one
pub Feeds-append : (rest a b : List ℕ) (old mid new : List (List ℕ)) (between kept : List ℕ) → Feeds rest a old mid between → Feeds between b mid new kept → Feeds rest (a ++ b) old new kept
Feeds-append rest a b old mid new between kept x y = feed_on rest a b old mid new x.left between y.left kept x.gains x.keeps y.gains y.keeps

-- what a framer can keep: no whole frame, and nothing behind a length 0
record IsKept (rest : List ℕ) : Type 0 where
  pub no_more : BeginsNoFrame rest
  pub keeps : KeepsRest rest rest

kept_of : (left kept : List ℕ) → BeginsNoFrame left → KeepsRest left kept → IsKept kept
kept_of left kept no_more (inl x) = rw x.1 (record { no_more = no_more; keeps = inl (x.0, refl) })
kept_of left kept no_more (inr x) = rw x.1 (record { no_more = zero_begins_no_frame []; keeps = inr (length_zero, refl) })

feeds_all : (pieces : List (List ℕ)) (rest : List ℕ) (old new : List (List ℕ)) (kept : List ℕ) → IsKept rest → FeedsAll rest pieces old new kept
    → Feeds rest (flat_map (λ piece. piece) pieces) old new kept
feeds_all [] rest old new kept is_kept x =
    rw (x.0, x.1) (record { left = rest; gains = Gains-none old (rest ++ []) rest (append-nil rest) is_kept.no_more; keeps = is_kept.keeps })
feeds_all (piece ∷ pieces) rest old new kept is_kept x =
    Feeds-append rest piece (flat_map (λ piece. piece) pieces) old x.0 new x.1 kept x.2
    (feeds_all pieces x.1 x.0 new kept (kept_of x.2.left x.1 x.2.gains.frames.no_more x.2.keeps) x.3)

-- the pieces of a stream are the stream
pub whole_stream : (pieces : List (List ℕ)) (old new : List (List ℕ)) (kept : List ℕ) → FeedsAll [] pieces old new kept → Feeds [] (flat_map (λ piece. piece) pieces) old new kept
whole_stream pieces old new kept =
    feeds_all pieces [] old new kept (record { no_more = λ message more framed same. absurd (cc same); keeps = inl (nothing_not_zero, refl) })

-- the frames that a stream begins with are the first of its reading
pub first_messages : (stream : List ℕ) (messages all : List (List ℕ)) (rest : List ℕ) → BeginsWith stream messages → Frames stream all rest
    → (others : List (List ℕ)) × (all ≡ messages ++ others)
first_messages stream [] all rest x y = (all, refl)
first_messages stream (m ∷ messages) [] rest x y =
    absurd (y.no_more m (flat_map frame messages ++ x.more) x.each.0 (sym y.whole ∙ x.whole ∙ append_assoc (frame m) (flat_map frame messages) x.more))
first_messages stream (m ∷ messages) (n ∷ all) rest x y =
    let first = same_frame m n (flat_map frame messages ++ x.more) (flat_map frame all ++ rest)
    (sym (append_assoc (frame m) (flat_map frame messages) x.more) ∙ sym x.whole ∙ y.whole ∙ append_assoc (frame n) (flat_map frame all) rest) in
    let found = first_messages (flat_map frame all ++ rest) messages all rest
    (record { more = x.more; whole = sym first.1; each = x.each.1 })
    (record { whole = refl; each = y.each.1; no_more = y.no_more }) in
    (found.0, ap (λ message. message ∷ all) (sym first.0) ∙ ap (λ others. m ∷ others) found.1)

-- a framer that met a length 0 adds nothing
pub Feeds-failed : (rest piece : List ℕ) (failed : Option ReadError) (frame : List ℕ) (old : List (List ℕ)) → rest_of failed frame ≡ rest → failed ≡ Some ZeroLength
    → Feeds rest piece old old rest
Feeds-failed rest piece failed frame old same is_zero =
    let zero_rest : rest ≡ 0 ∷ (0 ∷ []) = sym same ∙ ap (λ why. rest_of why frame) is_zero in
    let front : rest ++ piece ≡ 0 ∷ (0 ∷ piece) = ap (λ xs. xs ++ piece) zero_rest in
    record {
      left = 0 ∷ (0 ∷ piece);
      gains = Gains-none old (rest ++ piece) (0 ∷ (0 ∷ piece)) front (zero_begins_no_frame piece);
      keeps = inr ((piece, refl), zero_rest);
    }

-- a piece is at fault for itself, and not for its reader
pub piece_not_read : (error : ReadError) → IsPieceError error → error ≡ Read → ⊥
piece_not_read error is same = subst IsPieceError same is

-- where a framer that hasn't failed may not end, a beginning of a frame is left
pub torn_end : (framing : Framing) (error : ReadError) → framing.fault ≡ None → IsEndError framing error → (error ≡ TornFrame) × (framing.rest ≢ []) × ¬ IsZero framing.rest
torn_end framing error sound (inl failed) = absurd (let same = sym sound ∙ failed in cc)
torn_end framing error sound (inr torn) = (torn.1, torn.2, torn.3)
