-- What is refused in one way has one fault.
use Rattle.std.proofs.Common.{◌≡◌, ◌⊎◌, ◌<◌, ◌≤◌, ◌∷◌, [], ℕ, List, Option, None, Result, Ok, Err, inl, inr, ⊎_elim, refl, sym, ap, subst, ◌∙◌, arith, length}
use Rattle.dnsv_names.specs.Lines.{kept_from}
use Rattle.dnsv_names.specs.Lines.LineFile.{BeginsWithValue}
use Rattle.dnsv_names.specs.Lines.LineLaws.{HasLines-only, HasLines-read}
use Rattle.dnsv_names.specs.Lines.LineReading.{lines_in}
use Rattle.dnsv_message.specs.declared.streams.counted.Counted.{Counted}
use Rattle.dnsv_files.specs.declared.status.Fault.{Fault}
use Rattle.dnsv_files.specs.declared.status.Fault.TheVariants as fault
use Rattle.dnsv_files.specs.declared.status.InputFile.{InputFile}
use Rattle.dnsv_files.specs.declared.status.Place.{Place}
use Rattle.dnsv_files.specs.declared.status.Refusal.{Refusal}
use Rattle.dnsv_message.specs.Streams.Frames.{file_limit}
use Rattle.dnsv_files.specs.Files.{IsToldBy}
use Rattle.dnsv_files.specs.Files.Faults.{IsTextFault}
use Rattle.dnsv_files.specs.Files.Statements.{IsAtLine}
use Rattle.dnsv_files.specs.Told.{TellsRefusals}

-- a reader that isn't there tells no octets
pub none_told : {R : Type 0} (remaining : R → Option (List ℕ)) (reader : Option (Counted R)) → reader ≡ None → IsToldBy remaining reader None
none_told {R} remaining reader none = subst (λ (each : Option (Counted R)). IsToldBy remaining each None) (sym none) refl

-- and these begin with no line
pub no_line_of_nothing : {Value : Type 0} (Says : List ℕ → Value → Type 0) → BeginsWithValue Says [] → ⊥
no_line_of_nothing Says begins =
    let same = HasLines-only [] (begins.line ∷ begins.behind) (kept_from 1 (lines_in [])) begins.has (HasLines-read []) in cc

pub too_many : (size limit : ℕ) → size ≤ limit → limit < size → ⊥
too_many size limit within past = omega (arith, within, past)

one_place : (number : ℕ) (p q : Place) → IsAtLine number p → IsAtLine number q → p ≡ q
one_place number p q x y = λ i. record { message = (x.0 ∙ sym y.0) i; «record» = (x.1 ∙ sym y.1) i; line = (x.2 ∙ sym y.2) i }

-- a refusal of a line is one
pub one_at_line : (number : ℕ) (why a b : Refusal) (p q : Place) → a ≡ why → IsAtLine number p → b ≡ why → IsAtLine number q
    → fault.Refused a p ≡ fault.Refused b q
one_at_line number why a b p q x at y also = λ i. fault.Refused ((x ∙ sym y) i) (one_place number p q at also i)

-- what has one error is refused once, where each error is told once
pub told_by_one : {Error : Type 0} (Is : Error → Type 0) (Tells : Error → Refusal → Place → Type 0)
    → ((a b : Error) → Is a → Is b → a ≡ b)
    → ((error : Error) (a b : Refusal) (p q : Place) → Tells error a p → Tells error b q → fault.Refused a p ≡ fault.Refused b q)
    → (a b : Refusal) (p q : Place) → (error : Error) × Is error × Tells error a p → (error : Error) × Is error × Tells error b q
    → fault.Refused a p ≡ fault.Refused b q
told_by_one {Error} Is Tells one told a b p q x y =
    told y.0 a b p q (subst (λ (error : Error). Tells error a p) (one x.0 y.0 x.1 y.1) x.2) y.2

-- what has one error is told as that, or memory was refused before it
pub every_told : {T U Error : Type 0} (Is : Error → Type 0) (Tells : Error → Refusal → Place → Type 0) (Begins : Type 0) (memory error : Error) (found : Fault)
    → ((why : Refusal) (place : Place) → Tells error why place → found ≡ fault.Refused why place)
    → (error ≡ memory → found ≡ fault.OutOfMemory)
    → ((first : Error) → Is first → Path (Result U Error) (Err error) (Err first) ⊎ (Path (Result U Error) (Err error) (Err memory) × Begins))
    → TellsRefusals {T = T} (λ why place. (first : Error) × Is first × Tells first why place) Begins (Err found)
every_told {T} {U} {Error} Is Tells Begins memory error found refused wanting every why place bad =
    ⊎_elim (λ (same : Path (Result U Error) (Err error) (Err bad.0)).
    let is : error ≡ bad.0 = cc in
    inl (ap (λ (f : Fault). Err f) (refused why place (subst (λ (e : Error). Tells e why place) (sym is) bad.2))))
    (λ (out : Path (Result U Error) (Err error) (Err memory) × Begins).
    let one : Path (Result U Error) (Err error) (Err memory) = out.0 in
    let is : error ≡ memory = cc in
    inr (ap (λ (f : Fault). Err f) (wanting is), out.1)) (every bad.0 bad.1)

-- what has no error isn't refused
pub never_told : {T U Error : Type 0} (Is : Error → Type 0) (Tells : Error → Refusal → Place → Type 0) (Begins : Type 0) (memory : Error) (x : U) (y : T)
    → ((first : Error) → Is first → Path (Result U Error) (Ok x) (Err first) ⊎ (Path (Result U Error) (Ok x) (Err memory) × Begins))
    → TellsRefusals {T = T} (λ why place. (first : Error) × Is first × Tells first why place) Begins (Ok y)
never_told {T} {U} {Error} Is Tells Begins memory x y every why place bad =
    absurd (⊎_elim (λ (same : Path (Result U Error) (Ok x) (Err bad.0)). cc)
    (λ (out : Path (Result U Error) (Ok x) (Err memory) × Begins). let one : Path (Result U Error) (Ok x) (Err memory) = out.0 in cc) (every bad.0 bad.1))

-- what is refused is told alike whatever else the result may be
pub refusals_alike : {T U : Type 0} (IsRefused : Refusal → Place → Type 0) (Begins : Type 0) (told : Fault)
    → TellsRefusals {T = T} IsRefused Begins (Err told) → TellsRefusals {T = U} IsRefused Begins (Err told)
refusals_alike {T} {U} IsRefused Begins told tells why place bad =
    ⊎_elim (λ (same : Path (Result T Fault) (Err told) (Err (fault.Refused why place))).
    let is : told ≡ fault.Refused why place = cc in
    inl (ap (λ (f : Fault). Err f) is))
    (λ (out : Path (Result T Fault) (Err told) (Err fault.OutOfMemory) × Begins).
    let one : Path (Result T Fault) (Err told) (Err fault.OutOfMemory) = out.0 in
    let is : told ≡ fault.OutOfMemory = cc in
    inr (ap (λ (f : Fault). Err f) is, out.1)) (tells why place bad)

-- memory is wanted alike
pub wanted_alike : {T U Begins : Type 0} (told : Fault) → (Path (Result T Fault) (Err told) (Err fault.OutOfMemory) → Begins)
    → Path (Result U Fault) (Err told) (Err fault.OutOfMemory) → Begins
wanted_alike {T} {U} told begins out = let same : told ≡ fault.OutOfMemory = cc in begins (ap (λ (f : Fault). Err f) same)

-- what is said isn't refused
pub no_refusal : {T U : Type 0} (IsRefused : Refusal → Place → Type 0) (Begins : Type 0) (x : T) (y : U)
    → TellsRefusals {T = T} IsRefused Begins (Ok x) → TellsRefusals {T = U} IsRefused Begins (Ok y)
no_refusal {T} {U} IsRefused Begins x y tells why place bad =
    absurd (⊎_elim (λ (same : Path (Result T Fault) (Ok x) (Err (fault.Refused why place))). cc)
    (λ (out : Path (Result T Fault) (Ok x) (Err fault.OutOfMemory) × Begins).
    let one : Path (Result T Fault) (Ok x) (Err fault.OutOfMemory) = out.0 in cc) (tells why place bad))

module _ (file : InputFile) (IsRefused : List ℕ → Refusal → Place → Type 0) (text : List ℕ) where
  -- a text within the limit that isn't refused has no fault
  pub no_text_fault : length text ≤ file_limit → ((why : Refusal) (place : Place) → IsRefused text why place → ⊥)
      → (told : Fault) → IsTextFault file IsRefused text told → ⊥
  no_text_fault within stands (fault.Refused why place) bad = stands why place bad.1
  no_text_fault within stands (fault.TooLong other) bad = too_many (length text) file_limit within bad.1
  no_text_fault within stands told bad = bad

  -- a text that is refused in one way has one fault
  pub one_text_fault : ((a b : Refusal) (p q : Place) → IsRefused text a p → IsRefused text b q → fault.Refused a p ≡ fault.Refused b q)
      → (a b : Fault) → IsTextFault file IsRefused text a → IsTextFault file IsRefused text b → a ≡ b
  one_text_fault one (fault.Refused a p) (fault.Refused b q) x y = one a b p q x.1 y.1
  one_text_fault one (fault.Refused a p) (fault.TooLong other) x y = absurd (too_many (length text) file_limit x.0 y.1)
  one_text_fault one (fault.TooLong other) (fault.Refused b q) x y = absurd (too_many (length text) file_limit y.0 x.1)
  one_text_fault one (fault.TooLong one_file) (fault.TooLong other) x y = λ i. fault.TooLong ((x.0 ∙ sym y.0) i)
  one_text_fault one fault.OutOfMemory b x y = absurd x
  one_text_fault one (fault.ReadFailed other) b x y = absurd x
  one_text_fault one (fault.OpenFailed other) b x y = absurd x
  one_text_fault one fault.WriteFailed b x y = absurd x
  one_text_fault one a fault.OutOfMemory x y = absurd y
  one_text_fault one a (fault.ReadFailed other) x y = absurd y
  one_text_fault one a (fault.OpenFailed other) x y = absurd y
  one_text_fault one a fault.WriteFailed x y = absurd y
