-- Which records say what of names. Records are known by an index: a number, or a place in a list.
use Rattle.std.specs.Prelude.{◌⊎◌, ℕ}
use Rattle.dnsv_names.specs.Name.{Labels}
use Rattle.dnsv_zones.specs.forms.Forms.{Words}

-- The record with the index says that the name is a node above the question, which some names are without a record;
-- that it is no node; that it is an empty non-terminal; that its types are such; and, with the Opt-Out flag, that its
-- hash is covered.
pub record RecordWords (Index : Type 0) : Type 1 where
  pub NeedsNone : Labels → Type 0
  pub Encloser : Labels → Index → Type 0
  pub Absent : Labels → Index → Type 0
  pub EmptyNonTerminal : Labels → Index → Type 0
  pub TypesAt : Labels → ((ℕ → Type 0) → Type 0) → Index → Type 0
  pub OptedOut : Labels → Index → Type 0

-- what is said by some record
abbrev pub words : {Index : Type 0} → RecordWords Index → Words
words {Index} said = record {
  Encloser = λ name. said.NeedsNone name ⊎ ((index : Index) × said.Encloser name index);
  Absent = λ name. (index : Index) × said.Absent name index;
  EmptyNonTerminal = λ name. (index : Index) × said.EmptyNonTerminal name index;
  TypesAt = λ name Says. (index : Index) × said.TypesAt name Says index;
}
