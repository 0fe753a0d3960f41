-- Files of the MACs of requests, a line at a time.
use Rattle.std.proofs.Common.{◌≡◌, ◌⊎◌, ◌<◌, ◌≤◌, ℕ, List, [], ◌∷◌, ◌++◌, Option, Some, None, Result, Ok, Err, codes, refl, sym, ap, subst, inl, inr, ⊎_elim, append-nil, ◌∙◌, arith, length}
use Rattle.hex.specs.Hex.{decode_of, decode_sized}
use Rattle.hex.specs.declared.error.FromHexError.{FromHexError}
use Rattle.hex.proofs.HexLemmas.{decode_sized-ok, decode_sized-twice}
use Rattle.dnsv_names.specs.Lines.{HasLines, NumberedLine}
use Rattle.dnsv_names.specs.Lines.LineLaws.{HasLines-only}
use Rattle.dnsv_message.specs.Streams.Frames.{file_limit}
use Rattle.dnsv_records.specs.DecisionLaws.{Or, at_most_or, number_or}
use Rattle.dnsv_files.specs.declared.status.Fault.{Fault}
use Rattle.dnsv_files.specs.declared.status.Fault.TheVariants as fault
use Rattle.dnsv_files.specs.declared.status.InputFile.TheVariants.{Macs}
use Rattle.dnsv_files.specs.declared.status.Place.{Place}
use Rattle.dnsv_files.specs.declared.status.Refusal.{Refusal}
use Rattle.dnsv_files.specs.declared.status.Refusal.TheVariants as refusal
use Rattle.dnsv_files.specs.Files.{octets_or_none}
use Rattle.dnsv_files.specs.Opening.Macs.{AreMacsRefused, BeginsWithMac, HasMacs, IsFaultOfMacs, IsFirstRefused, IsMacLine, IsMacRefused, MayHaveMacs, SayMacs}
use Rattle.dnsv_files.specs.Told.{IsRefusalOf, TellsRefusals}
use Rattle.dnsv_files.proofs.FileLemmas.Text.{no_text_fault, one_at_line, one_text_fault}

-- the first of the lines says a MAC, or that there was none
abbrev SaysFirst : List NumberedLine → Type 0
SaysFirst [] = ⊥
SaysFirst (line ∷ lines) = (mac : Option (List ℕ)) × IsMacLine line.octets mac

-- what the lines that are left say, behind the MACs so far, is what all lines say
pub record GoesOn (all : List NumberedLine) (macs : List (Option (List ℕ))) (left : List NumberedLine) : Type 0 where
  pub gives : (more : List (Option (List ℕ))) → SayMacs left more → SayMacs all (macs ++ more)
  pub refused : (why : Refusal) (place : Place) → IsFirstRefused left why place → IsFirstRefused all why place
  pub begun : (left ≡ all) ⊎ SaysFirst all

-- after the last
pub GoesOn-end : {all : List NumberedLine} {macs : List (Option (List ℕ))} → GoesOn all macs [] → SayMacs all macs
GoesOn-end {all} {macs} so_far = subst (λ each. SayMacs all each) (append-nil macs) (so_far.gives [] tt)

-- ---- a line

-- 64 hex digits
pub of_digits : (line mac : List ℕ) → decode_sized line 32 ≡ Ok mac → IsMacLine line (Some mac)
of_digits line mac is =
    let size : length line ≡ 64 = decode_sized-ok line 32 mac is in
    (size, sym (decode_sized-twice line 32 size) ∙ is)

-- neither 64 hex digits nor `-`
pub of_neither : (line : List ℕ) (error : FromHexError) → (line ≡ codes "-" → ⊥) → decode_sized line 32 ≡ Err error
    → (mac : Option (List ℕ)) → IsMacLine line mac → ⊥
of_neither line error other failed None is = other is
of_neither line error other failed (Some mac) is =
    let digits : decode_sized line 32 ≡ Ok mac = decode_sized-twice line 32 is.0 ∙ is.1 in cc

-- ---- a text is one list of MACs, or has one fault

not_both : (line : List ℕ) → line ≡ codes "-" → length line ≡ 64 → ⊥
not_both line is size =
    let one : length line ≡ length (codes "-") = ap (λ (text : List ℕ). length text) is in omega arith

one_mac : (line : List ℕ) (a b : Option (List ℕ)) → IsMacLine line a → IsMacLine line b → a ≡ b
one_mac line None None x y = refl
one_mac line None (Some b) x y = absurd (not_both line x y.0)
one_mac line (Some a) None x y = absurd (not_both line y x.0)
one_mac line (Some a) (Some b) x y = let first : decode_of line ≡ Ok a = x.1 in let second : decode_of line ≡ Ok b = y.1 in cc

one_list : (lines : List NumberedLine) (a b : List (Option (List ℕ))) → SayMacs lines a → SayMacs lines b → a ≡ b
one_list [] [] [] x y = refl
one_list [] [] (n ∷ b) x y = absurd y
one_list [] (m ∷ a) b x y = absurd x
one_list (line ∷ lines) [] b x y = absurd x
one_list (line ∷ lines) (m ∷ a) [] x y = absurd y
one_list (line ∷ lines) (m ∷ a) (n ∷ b) x y =
    ap (λ mac. mac ∷ a) (one_mac line.octets m n x.0 y.0) ∙ ap (λ macs. n ∷ macs) (one_list lines a b x.1 y.1)

list_stands : (lines : List NumberedLine) (macs : List (Option (List ℕ))) (why : Refusal) (place : Place) → SayMacs lines macs → IsFirstRefused lines why place → ⊥
list_stands [] macs why place say refused = refused
list_stands (line ∷ lines) [] why place say refused = say
list_stands (line ∷ lines) (mac ∷ macs) why place say (inl refused) = refused.0 mac say.0
list_stands (line ∷ lines) (mac ∷ macs) why place say (inr later) = list_stands lines macs why place say.1 later.2

one_refusal : (lines : List NumberedLine) (a b : Refusal) (p q : Place) → IsFirstRefused lines a p → IsFirstRefused lines b q → fault.Refused a p ≡ fault.Refused b q
one_refusal [] a b p q x y = absurd x
one_refusal (line ∷ lines) a b p q (inl x) (inl y) = one_at_line line.number refusal.MacSyntax a b p q x.1 x.2 y.1 y.2
one_refusal (line ∷ lines) a b p q (inl x) (inr y) = absurd (x.0 y.0 y.1)
one_refusal (line ∷ lines) a b p q (inr x) (inl y) = absurd (y.0 x.0 x.1)
one_refusal (line ∷ lines) a b p q (inr x) (inr y) = one_refusal lines a b p q x.2 y.2

pub one_list_of_macs : (text : List ℕ) (a b : List (Option (List ℕ))) → HasMacs text a → HasMacs text b → a ≡ b
one_list_of_macs text a b x y =
    one_list x.lines a b x.say (subst (λ lines. SayMacs lines b) (HasLines-only text y.lines x.lines y.has x.has) y.say)

pub no_macs_fault : (text : List ℕ) (macs : List (Option (List ℕ))) (told : Fault) → HasMacs text macs → IsFaultOfMacs text told → ⊥
no_macs_fault text macs told x =
    no_text_fault Macs AreMacsRefused text x.within
    (λ why place bad. list_stands x.lines macs why place x.say
    (subst (λ lines. IsFirstRefused lines why place) (HasLines-only text bad.0 x.lines bad.1 x.has) bad.2)) told

one_macs_refusal : (text : List ℕ) (a b : Refusal) (p q : Place) → AreMacsRefused text a p → AreMacsRefused text b q → fault.Refused a p ≡ fault.Refused b q
one_macs_refusal text a b p q x y =
    one_refusal x.0 a b p q x.2 (subst (λ lines. IsFirstRefused lines b q) (HasLines-only text y.0 x.0 y.1 x.1) y.2)

pub one_macs_fault : (text : List ℕ) (a b : Fault) → IsFaultOfMacs text a → IsFaultOfMacs text b → a ≡ b
one_macs_fault text = one_text_fault Macs AreMacsRefused text (one_macs_refusal text)

-- ---- what is refused is told

module _ {T : Type 0} (text : List ℕ) (all : List NumberedLine) (has : HasLines text all) where
  -- a line that is refused
  pub line_told : {macs : List (Option (List ℕ))} (line : NumberedLine) (left : List NumberedLine) (told : Fault)
      → GoesOn all macs (line ∷ left) → IsRefusalOf (IsMacRefused line) told → TellsRefusals {T = T} (AreMacsRefused text) (BeginsWithMac text) (Err told)
  line_told line left (fault.Refused a p) so_far is why place bad =
      inl (ap (λ (f : Fault). Err f) (one_macs_refusal text a why p place (all, has, so_far.refused a p (inl is)) bad))
  line_told line left told so_far is why place bad = absurd is

  -- nothing is refused
  pub none_told : (macs : List (Option (List ℕ))) (x : T) → SayMacs all macs → TellsRefusals {T = T} (AreMacsRefused text) (BeginsWithMac text) (Ok x)
  none_told macs x say why place bad =
      absurd (list_stands all macs why place say (subst (λ lines. IsFirstRefused lines why place) (HasLines-only text bad.0 all bad.1 has) bad.2))

-- a file that may be given has one list of MACs
pub same_macs : (file : Option (List ℕ)) (a b : Option (List (Option (List ℕ)))) → MayHaveMacs file a → MayHaveMacs file b → a ≡ b
same_macs None a b x y = x ∙ sym y
same_macs (Some text) None b x y = absurd x
same_macs (Some text) (Some a) None x y = absurd y
same_macs (Some text) (Some a) (Some b) x y = ap (λ macs. Some macs) (one_list_of_macs text a b x y)

-- no text has no MACs
no_macs : HasMacs [] []
no_macs = record {
  within = omega arith;
  lines = [];
  has = record { lines = []; all = record { ended = []; behind = []; each = tt; last = tt; octets = refl; all = refl }; numbered = refl };
  say = tt;
}

-- a file that has MACs, or isn't given, has no fault
pub no_fault_of_macs : (file : Option (List ℕ)) (macs : Option (List (Option (List ℕ)))) (told : Fault) → MayHaveMacs file macs → IsFaultOfMacs (octets_or_none file) told → ⊥
no_fault_of_macs None macs told has bad = no_macs_fault [] [] told no_macs bad
no_fault_of_macs (Some text) None told has bad = has
no_fault_of_macs (Some text) (Some macs) told has bad = no_macs_fault text macs told has bad

-- ---- each text is one or the other

is_dash : (line : List ℕ) → Or (line ≡ codes "-")
is_dash [] = inr (λ same. cc)
is_dash (x ∷ []) = ⊎_elim (λ (same : x ≡ 45). inl (ap (λ each. each ∷ []) same)) (λ (other : x ≡ 45 → ⊥). inr (λ same. let first : x ≡ 45 = cc in other first)) (number_or x 45)
is_dash (x ∷ y ∷ line) = inr (λ same. cc)

by_digits : (line : List ℕ) (digits : Result (List ℕ) FromHexError) → decode_sized line 32 ≡ digits → Or (line ≡ codes "-") → Or ((mac : Option (List ℕ)) × IsMacLine line mac)
by_digits line digits same (inl dash) = inl (None, dash)
by_digits line (Ok mac) same (inr other) = inl (Some mac, of_digits line mac same)
by_digits line (Err error) same (inr other) = inr (λ is. of_neither line error other same is.0 is.1)

by_line : (line : NumberedLine) (lines : List NumberedLine)
    → Or ((mac : Option (List ℕ)) × IsMacLine line.octets mac)
    → ((macs : List (Option (List ℕ))) × SayMacs lines macs) ⊎ ((why : Refusal) × (place : Place) × IsFirstRefused lines why place)
    → ((macs : List (Option (List ℕ))) × SayMacs (line ∷ lines) macs) ⊎ ((why : Refusal) × (place : Place) × IsFirstRefused (line ∷ lines) why place)
by_line line lines (inr none) rest =
    inr (refusal.MacSyntax, record { message = None; «record» = None; line = Some line.number }, inl ((λ mac is. none (mac, is)), refl, (refl, refl, refl)))
by_line line lines (inl mac) (inl rest) = inl (mac.0 ∷ rest.0, (mac.1, rest.1))
by_line line lines (inl mac) (inr refused) = inr (refused.0, refused.1, inr (mac.0, mac.1, refused.2))

lines_answer : (lines : List NumberedLine) → ((macs : List (Option (List ℕ))) × SayMacs lines macs) ⊎ ((why : Refusal) × (place : Place) × IsFirstRefused lines why place)
lines_answer [] = inl ([], tt)
lines_answer (line ∷ lines) =
    by_line line lines (by_digits line.octets (decode_sized line.octets 32) refl (is_dash line.octets)) (lines_answer lines)

within_answer : (text : List ℕ) (lines : List NumberedLine) → HasLines text lines → length text ≤ file_limit
    → ((macs : List (Option (List ℕ))) × SayMacs lines macs) ⊎ ((why : Refusal) × (place : Place) × IsFirstRefused lines why place)
    → ((macs : List (Option (List ℕ))) × HasMacs text macs) ⊎ ((told : Fault) × IsFaultOfMacs text told)
within_answer text lines has within (inl said) = inl (said.0, record { within = within; lines = lines; has = has; say = said.1 })
within_answer text lines has within (inr bad) = inr (fault.Refused bad.0 bad.1, (within, (lines, has, bad.2)))

past : (size limit : ℕ) → (size ≤ limit → ⊥) → limit < size
past size limit not = omega (arith, not)

pub macs_or_fault : (text : List ℕ) (lines : List NumberedLine) → HasLines text lines
    → ((macs : List (Option (List ℕ))) × HasMacs text macs) ⊎ ((told : Fault) × IsFaultOfMacs text told)
macs_or_fault text lines has =
    ⊎_elim (λ (within : length text ≤ file_limit). within_answer text lines has within (lines_answer lines))
    (λ (long : length text ≤ file_limit → ⊥). inr (fault.TooLong Macs, (refl, past (length text) file_limit long)))
    (at_most_or (length text) file_limit)

-- a line that is refused wants no memory
pub no_memory_wanted : {T : Type 0} {Begins : Type 0} (IsRefused : Refusal → Place → Type 0) (told : Fault) → IsRefusalOf IsRefused told
    → Path (Result T Fault) (Err told) (Err fault.OutOfMemory) → Begins
no_memory_wanted IsRefused told is out = let same : told ≡ fault.OutOfMemory = cc in absurd (subst (IsRefusalOf IsRefused) same is)
