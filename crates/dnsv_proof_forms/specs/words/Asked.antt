-- What a proof asks of records: of which name, and what of its types.
use Rattle.std.specs.Prelude.{⊤, ◌⊎◌, ℕ, ◌<◌, ◌≤◌, length}
use Rattle.dnsv_names.specs.Name.{Labels, rightmost}
use Rattle.dnsv_names.specs.Tree.{wildcard_of}
use Rattle.dnsv_zones.specs.forms.RecordWords.{RecordWords}
use Rattle.dnsv_zones.specs.zones.Types.{IsClosed, IsDelegation, Denies, IsUnsignedDelegation}
use Rattle.dnsv_proof_forms.specs.declared.words.asked.AskedName.{AskedName}
use Rattle.dnsv_proof_forms.specs.declared.words.asked.AskedName.TheVariants.{Above, Wildcard}
use Rattle.dnsv_proof_forms.specs.declared.words.asked.AskedTypes.{AskedTypes}
use Rattle.dnsv_proof_forms.specs.declared.words.asked.AskedTypes.TheVariants.{Any, Closed, Delegation, Open, Without, UnsignedDelegation}
use Rattle.dnsv_proof_forms.specs.declared.words.asked.AskedWord.{AskedWord}
use Rattle.dnsv_proof_forms.specs.declared.words.asked.AskedWord.TheVariants as word

-- the question's so many rightmost labels, or the wildcard right below them
abbrev pub asked_name : Labels → AskedName → Labels
asked_name name (Above labels) = rightmost name labels
asked_name name (Wildcard labels) = wildcard_of (rightmost name labels)

-- the question has so many labels, and more for a wildcard
abbrev pub IsWithin : Labels → AskedName → Type 0
IsWithin name (Above labels) = labels ≤ length name
IsWithin name (Wildcard labels) = labels < length name

-- the types are as asked for
abbrev pub said_types : AskedTypes → (ℕ → Type 0) → Type 0
said_types Any has = ⊤
said_types Closed has = IsClosed has
said_types Delegation has = IsDelegation has
said_types Open has = ¬ IsClosed has
said_types (Without rtype) has = Denies has rtype.0
said_types UnsignedDelegation has = IsUnsignedDelegation has

-- the record with the index says so of the name
abbrev pub said_word : {Index : Type 0} → RecordWords Index → AskedWord → Labels → Index → Type 0
said_word {Index} said word.Encloser name index = said.Encloser name index
said_word {Index} said word.Absent name index = said.Absent name index
said_word {Index} said word.EmptyNonTerminal name index = said.EmptyNonTerminal name index
said_word {Index} said word.OptedOut name index = said.OptedOut name index
said_word {Index} said word.Covered name index = said.Absent name index ⊎ said.OptedOut name index
said_word {Index} said word.RuledOut name index =
    said.Absent name index ⊎ said.OptedOut name index ⊎ said.EmptyNonTerminal name index
said_word {Index} said (word.Types types) name index = said.TypesAt name (said_types types) index
