-- The messages of a capture, one by one.
use Rattle.std.proofs.Common.{◌≡◌, ◌<◌, ◌+◌, ◌++◌, ◌∙◌, ℕ, zero, suc, List, [], ◌∷◌, ap, flat_map, length, get_or, map, sym, take, arith}
use Rattle.std.proofs.lemmas.List.{flat_map_more, map-append, take_more}
use Rattle.std.specs.Borrow.{Bor}
use Rattle.std.specs.List.{AllByRecursion}
use Rattle.dnsv_message.specs.Streams.Frames.{IsFramed, frame, octets_at_each}

pub framed_at : (messages : List (Bor (List ℕ))) (i : ℕ) (d : Bor (List ℕ)) → i < length messages → AllByRecursion IsFramed (octets_at_each messages)
    → IsFramed (get_or messages i d).now
framed_at [] i d within each = absurd (omega (arith, within))
framed_at (message ∷ messages) zero d within each = each.0
framed_at (message ∷ messages) (suc i) d within each = framed_at messages i d (omega (arith, within)) each.1

-- the frames of one message more
pub frames_more : (messages : List (Bor (List ℕ))) (i : ℕ) (d : Bor (List ℕ)) → i < length messages
    → flat_map frame (map (λ (message : Bor (List ℕ)). message.now) (take i messages)) ++ frame (get_or messages i d).now
    ≡ flat_map frame (map (λ (message : Bor (List ℕ)). message.now) (take (i + 1) messages))
frames_more messages i d within =
    flat_map_more frame [] (map (λ (message : Bor (List ℕ)). message.now) (take i messages)) (get_or messages i d).now
    ∙ ap (λ (octets : List (List ℕ)). flat_map frame octets)
    (sym (map-append (λ (message : Bor (List ℕ)). message.now) (take i messages) (get_or messages i d ∷ [])))
    ∙ ap (λ (some : List (Bor (List ℕ))). flat_map frame (map (λ (message : Bor (List ℕ)). message.now) some)) (sym (take_more messages i d within))
