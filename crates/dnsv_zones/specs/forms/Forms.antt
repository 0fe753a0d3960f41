-- The forms of a proof of denial (RFC 4035 5.4, RFC 5155 8). One table serves NSEC and NSEC3, which differ in how
-- their records say the words of it.
use Rattle.std.specs.Prelude.{◌⊎◌, ◌+◌, ◌<◌, ℕ, length}
use Rattle.dnsv_names.specs.Name.{Labels, IsAtOrBelow, rightmost}
use Rattle.dnsv_names.specs.Order.{IsBelow}
use Rattle.dnsv_names.specs.Tree.{wildcard_of}
use Rattle.dnsv_zones.specs.zones.Types.{Denies, IsUnsignedDelegation}

-- What records say of a name: that it is a node above the question, that it is no node, that it is an empty
-- non-terminal, and that its types are such.
pub record Words : Type 1 where
  pub Encloser : Labels → Type 0
  pub Absent : Labels → Type 0
  pub EmptyNonTerminal : Labels → Type 0
  pub TypesAt : Labels → ((ℕ → Type 0) → Type 0) → Type 0

-- the name's so many rightmost labels are a proper ancestor of it, at or below the apex
pub record IsAbove (apex name : Labels) (labels : ℕ) : Type 0 where
  pub proper : labels < length name
  pub within : IsAtOrBelow (rightmost name labels) apex

-- there is a closest encloser, and the next closer name isn't there (RFC 5155 8.3)
pub record EndsAt (words : Words) (apex name : Labels) (labels : ℕ) : Type 0 where
  pub above : IsAbove apex name labels
  pub encloser : words.Encloser (rightmost name labels)
  pub next_closer : words.Absent (rightmost name (labels + 1))

-- there is no such name: nor is there a wildcard at the closest encloser (RFC 4035 5.4, RFC 5155 8.4)
pub record NoNameForm (words : Words) (apex name : Labels) : Type 0 where
  pub labels : ℕ
  pub ends : EndsAt words apex name labels
  pub wildcard : words.Absent (wildcard_of (rightmost name labels))

-- the name is there, without the type (RFC 4035 5.4, RFC 5155 8.5, 8.6)
pub record NoDataForm (words : Words) (apex name : Labels) (t : ℕ) : Type 0 where
  pub within : IsAtOrBelow name apex
  pub types : words.TypesAt name (λ has. Denies has t)

-- the name is an empty non-terminal
pub record EmptyForm (words : Words) (apex name : Labels) : Type 0 where
  pub within : IsAtOrBelow name apex
  pub empty_non_terminal : words.EmptyNonTerminal name

-- the wildcard at the closest encloser is there, without the type (RFC 4035 3.1.3.4, RFC 5155 8.7)
pub record NoWildcardDataForm (words : Words) (apex name : Labels) (t : ℕ) : Type 0 where
  pub labels : ℕ
  pub ends : EndsAt words apex name labels
  pub types : words.TypesAt (wildcard_of (rightmost name labels)) (λ has. Denies has t)

-- the wildcard at the closest encloser is an empty non-terminal
pub record EmptyWildcardForm (words : Words) (apex name : Labels) : Type 0 where
  pub labels : ℕ
  pub ends : EndsAt words apex name labels
  pub empty_non_terminal : words.EmptyNonTerminal (wildcard_of (rightmost name labels))

-- there is no data: any of these forms
abbrev pub NoDataForms : Words → Labels → Labels → ℕ → Type 0
NoDataForms words apex name t =
    NoDataForm words apex name t ⊎ EmptyForm words apex name ⊎ NoWildcardDataForm words apex name t
    ⊎ EmptyWildcardForm words apex name

-- an answer from the wildcard below the name's so many labels has no closer name against it
-- (RFC 4035 5.3.4, RFC 5155 8.8)
pub record NoCloserForm (words : Words) (apex name : Labels) (labels : ℕ) : Type 0 where
  pub above : IsAbove apex name labels
  pub next_closer : words.Absent (rightmost name (labels + 1))

-- the name is at or below a delegation without DS (RFC 4035 5.2, RFC 5155 8.9, RFC 6840 4.4)
pub record UnsignedCutForm (words : Words) (apex name cut : Labels) : Type 0 where
  pub at_or_above : IsAtOrBelow name cut
  pub below_apex : IsBelow cut apex
  pub types : words.TypesAt cut IsUnsignedDelegation

-- ---- Opt-Out

-- An unsigned delegation may lie at or below the next closer name, or at the wildcard beside it: the next closer name is
-- covered, and it or the wildcard by a record with the Opt-Out flag (RFC 5155 8.6, 9.2). Records say which name is a
-- closest encloser, which is covered, and which with the flag. Where the type DS is asked, this is no proof that there is
-- none: the name may be unsigned, and the question ends as Insecure.
pub record OptOut (Encloser Covered OptedOut : Labels → Type 0) (apex name : Labels) (labels : ℕ) : Type 0 where
  pub above : IsAbove apex name labels
  pub encloser : Encloser (rightmost name labels)
  pub next_closer : Covered (rightmost name (labels + 1))
  pub opted_out : OptedOut (rightmost name (labels + 1)) ⊎ OptedOut (wildcard_of (rightmost name labels))

-- An unsigned delegation may stand against an answer from the wildcard below the name's so many labels: a record with
-- the Opt-Out flag covers the next closer name (RFC 5155 8.8).
pub record OptedOutNextCloser (OptedOut : Labels → Type 0) (apex name : Labels) (labels : ℕ) : Type 0 where
  pub above : IsAbove apex name labels
  pub opted_out : OptedOut (rightmost name (labels + 1))
