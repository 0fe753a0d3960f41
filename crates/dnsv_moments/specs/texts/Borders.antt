-- Border lines: the signatures that end or begin where one stretch is over and the next begins.
use Rattle.std.specs.Prelude.{ℕ, ◌-◌, Bool, nat_lt, not, ◌&&◌, List, ◌++◌, map}
use Rattle.std.specs.List.{filter}
use Rattle.dnsv_records.specs.Rrsig.Time.{seconds_on}
use Rattle.dnsv_moments.specs.declared.texts.borders.Border.{Border}
use Rattle.dnsv_moments.specs.declared.dated.DatedSignature.{DatedSignature}
use Rattle.dnsv_moments.specs.declared.texts.borders.Edge.TheVariants.{Begins, Ends}
use Rattle.dnsv_timeline.specs.declared.times.Times.{Times}

-- whether the moment is less than 2^31 seconds behind the inception, and the expiration as few behind it (RFC 4034 3.1.5)
abbrev pub is_valid_at : Times → ℕ → Bool
is_valid_at times moment =
    nat_lt (seconds_on times.inception.0 moment) 2147483648 && nat_lt (seconds_on moment times.expiration.0) 2147483648

-- the signatures that aren't valid at the moment, in their order
abbrev pub not_valid_at : ℕ → List DatedSignature → List DatedSignature
not_valid_at moment signatures = filter (λ signature. not (is_valid_at signature.times moment)) signatures

-- a signature that was valid up to the moment before the stretch begins
abbrev pub ends_before : ℕ → DatedSignature → Border
ends_before from signature = record { edge = Ends; moment = from - 1; signature = signature }

-- a signature that is valid from the moment on at which the stretch begins
abbrev pub begins_at : ℕ → DatedSignature → Border
begins_at from signature = record { edge = Begins; moment = from; signature = signature }

-- First the signatures of the derivation before that aren't valid at the first moment of the stretch, then those of its
-- own derivation that weren't valid one second before.
abbrev pub borders_of : List DatedSignature → List DatedSignature → ℕ → List Border
borders_of before by from =
    map (ends_before from) (not_valid_at from before) ++ map (begins_at from) (not_valid_at (from - 1) by)
