-- What the octets that were read say of a file.
use Rattle.std.proofs.Common.{◌≡◌, ℕ, ◌+◌, ◌-◌, ◌<◌, ◌≤◌, min, List, [], ◌++◌, length, take, sym, ap, refl, ◌∙◌, arith, length-append, Option, Some, None, Ok, Err, IfSome}
use Rattle.std.proofs.lemmas.List.{append-nil, length-take-le}
use Rattle.std.proofs.KnownBytes.{Consumes-nil, Consumes-trans, Consumes-kept, Keeps-refl}
use Rattle.std.specs.Io.KnownBytes.{Consumes, IsAtEnd, Keeps}
use Rattle.dnsv_message.specs.Streams.Frames.{StopsAtFault, stops}
use Rattle.dnsv_message.specs.Streams.{ReadsStream}
use Rattle.dnsv_message.specs.declared.errors.ReadError.{ReadError}
use Rattle.dnsv_message.specs.declared.errors.ReadError.TheVariants.{Read}

pub nothing_read : (old : Option (List ℕ)) (octets : List ℕ) → octets ≡ [] → Consumes old old octets
nothing_read old octets none = rw none (Consumes-nil old)

pub nothing_within : (octets : List ℕ) (limit : ℕ) → octets ≡ [] → length octets ≤ limit
nothing_within octets limit none = rw none (omega arith)

-- a piece came
pub piece_read : (old now next : Option (List ℕ)) (octets piece grown : List ℕ) → Consumes old now octets → Consumes now next piece → grown ≡ octets ++ piece → Consumes old next grown
piece_read old now next octets piece grown x y grows = rw grows (Consumes-trans old now next octets piece x y)

pub piece_within : (octets piece grown : List ℕ) (count limit : ℕ) → count ≤ length piece → length octets ≤ limit → count ≤ limit - length octets
    → grown ≡ octets ++ take count piece → length grown ≤ limit
piece_within octets piece grown count limit short within most grows =
    let size : length (take count piece) ≡ count = length-take-le count piece short in
    omega (arith, size, ap length grows, length-append octets (take count piece))

-- the file has more octets than were read and came
more_than : (limit count : ℕ) (octets piece file more : List ℕ) → count ≤ length piece → length octets ≤ limit → limit - length octets < count
    → file ≡ (octets ++ take count piece) ++ more → limit < length file
more_than limit count octets piece file more short within most same =
    let size : length (take count piece) ≡ count = length-take-le count piece short in
    omega (arith, size, ap length same, length-append (octets ++ take count piece) more, length-append octets (take count piece))

from_known : (old next : Option (List ℕ)) (octets : List ℕ) (P : List ℕ → Type 0) → Consumes old next octets → ((file more : List ℕ) → file ≡ octets ++ more → P file) → IfSome old P
from_known None next octets P x known = tt
from_known (Some file) None octets P x known = absurd x
from_known (Some file) (Some more) octets P x known = known file more x

pub file_too_long : (old now next : Option (List ℕ)) (octets piece : List ℕ) (count limit : ℕ) → Consumes old now octets → Consumes now next (take count piece)
    → count ≤ length piece → length octets ≤ limit → limit - length octets < count → IfSome old (λ file. limit < length file)
file_too_long old now next octets piece count limit x y short within most =
    from_known old next (octets ++ take count piece) (λ file. limit < length file) (Consumes-trans old now next octets (take count piece) x y)
    (λ file more same. more_than limit count octets piece file more short within most same)

end_known : (old next : Option (List ℕ)) (octets : List ℕ) → Consumes old next octets → IsAtEnd next → IfSome old (λ file. octets ≡ file)
end_known None next octets x ended = tt
end_known (Some file) None octets x ended = absurd x
end_known (Some file) (Some more) octets x ended = let same : octets ++ more ≡ octets = ap (λ xs. octets ++ xs) ended ∙ append-nil octets in sym (x ∙ same)

-- the file ended, so that it is what was read
pub file_read : (old now next : Option (List ℕ)) (octets piece : List ℕ) (count : ℕ) → Consumes old now octets → Consumes now next (take count piece) → count ≡ 0 → IsAtEnd next
    → IfSome old (λ file. octets ≡ file)
file_read old now next octets piece count x y none ended =
    let all : Consumes old next octets = rw append-nil at (Consumes-trans old now next octets [] x (rw none at y)) in
    end_known old next octets all ended

-- what has no fault was read, and nothing since
pub stops_before : (IsFine : List ℕ → Type 0) (more : ℕ) (old now next : Option (List ℕ)) (before : List ℕ) → IsFine before → Consumes old now before → Keeps now next
    → StopsAtFault IsFine more old next
stops_before IsFine more old now next before fine x kept =
    stops before [] fine (omega arith) (rw append-nil (Consumes-kept old now next before x kept))

-- what has no fault was read, and one piece since
pub stops_behind : (IsFine : List ℕ → Type 0) (more : ℕ) (old now next : Option (List ℕ)) (before buf : List ℕ) (count : ℕ) → IsFine before → Consumes old now before
    → Consumes now next (take count buf) → count ≤ length buf → length buf ≤ more → StopsAtFault IsFine more old next
stops_behind IsFine more old now next before buf count fine x y short small =
    let size : length (take count buf) ≡ count = length-take-le count buf short in
    stops before (take count buf) fine (omega (arith, size)) (Consumes-trans old now next before (take count buf) x y)

-- nothing was read
pub unread_octets_stop : (limit more : ℕ) (old : Option (List ℕ)) → StopsAtFault (λ octets. length octets ≤ limit) more old old
unread_octets_stop limit more old = stops_before (λ octets. length octets ≤ limit) more old old old [] (omega arith) (Consumes-nil old) (Keeps-refl old)

-- what stops at once stops within a piece
stops_within : (IsFine : List ℕ → Type 0) (more : ℕ) (old new : Option (List ℕ)) → StopsAtFault IsFine 0 old new → StopsAtFault IsFine more old new
stops_within IsFine more old new (stops before piece fine small x) = stops before piece fine (omega (arith, small)) x

-- a failure is counted
failed_once : (before now after : ℕ) → now ≡ before → after ≡ min (now + 1) 18446744073709551615 → before < 18446744073709551615 → before < after
failed_once before now after same grew not_full = omega arith

none_counted : (before after : ℕ) → after ≡ before → before < after → ⊥
none_counted before after same more = omega arith

module _ {T : Type 0} (IsFine : List ℕ → Type 0) {old new : Option (List ℕ)} {before after : ℕ} where
  -- the stream ended
  pub ReadsStream-ended : (x : T) → after ≡ before → IsAtEnd new → StopsAtFault IsFine 4096 old new → ReadsStream IsFine old new before after (Ok x)
  ReadsStream-ended x same ended stopped = record {
    end = ended;
    stops = stopped;
    stops_failed = λ is. absurd (cc);
    read = λ is. absurd (cc);
    failed = λ more. absurd (none_counted before after same more);
  }

  -- no read failed, and something else did
  pub ReadsStream-fault : (error : ReadError) → (error ≡ Read → ⊥) → after ≡ before → StopsAtFault IsFine 4096 old new
      → ReadsStream {T = T} IsFine old new before after (Err error)
  ReadsStream-fault error other same stopped = record {
    end = tt;
    stops = stopped;
    stops_failed = λ is. absurd (other cc);
    read = λ is. absurd (other cc);
    failed = λ more. absurd (none_counted before after same more);
  }

  -- a read failed
  pub ReadsStream-failed : (now : ℕ) → now ≡ before → after ≡ min (now + 1) 18446744073709551615 → StopsAtFault IsFine 0 old new
      → ReadsStream {T = T} IsFine old new before after (Err Read)
  ReadsStream-failed now same grew stopped = record {
    end = tt;
    stops = stops_within IsFine 4096 old new stopped;
    stops_failed = λ is. stopped;
    read = λ is not_full. failed_once before now after same grew not_full;
    failed = λ more. refl;
  }
