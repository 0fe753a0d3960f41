-- A text of keys is one list of them, or has one fault.
use Rattle.std.proofs.Common.{◌≡◌, ◌⊎◌, ℕ, List, [], Option, Some, None, Result, Err, refl, sym, ap, subst, ◌∙◌, arith}
use Rattle.dnsv_tsig.proofs.KeyLemmas.{none_say}
use Rattle.dnsv_tsig.specs.Key.{SharedKey}
use Rattle.dnsv_tsig.specs.KeyFile.{BeginsWithKey, IsKeyFault, IsRingOf}
use Rattle.dnsv_tsig.specs.declared.error.KeyFileError.{KeyFileError}
use Rattle.dnsv_tsig.specs.declared.error.KeyFileError.TheVariants as key_file
use Rattle.dnsv_files.specs.declared.status.Fault.{Fault}
use Rattle.dnsv_files.specs.declared.status.Fault.TheVariants as fault
use Rattle.dnsv_files.specs.declared.status.InputFile.TheVariants.{Keys}
use Rattle.dnsv_files.specs.declared.status.Place.{Place}
use Rattle.dnsv_files.specs.declared.status.Refusal.{Refusal}
use Rattle.dnsv_files.specs.declared.status.Refusal.TheVariants as refusal
use Rattle.dnsv_files.specs.Opening.Keys.{AreKeysRefused, HasKeys, IsFaultOfKeys, MayHaveKeys, TellsKeysError}
use Rattle.dnsv_files.specs.Files.{octets_or_none}
use Rattle.dnsv_files.specs.Told.{IsKeysFault, TellsRefusals}
use Rattle.dnsv_files.proofs.FileLemmas.Text.{every_told, no_text_fault, one_at_line, one_text_fault, told_by_one}

one_telling : (error : KeyFileError) (a b : Refusal) (p q : Place) → TellsKeysError error a p → TellsKeysError error b q → fault.Refused a p ≡ fault.Refused b q
one_telling key_file.OutOfMemory a b p q x y = absurd x
one_telling (key_file.Syntax number) a b p q x y = one_at_line number (refusal.KeyLine (key_file.Syntax number)) a b p q x.0 x.1 y.0 y.1
one_telling (key_file.DuplicateKey number) a b p q x y = one_at_line number (refusal.KeyLine (key_file.DuplicateKey number)) a b p q x.0 x.1 y.0 y.1

-- a refusal that tells an error is the one that it is told as
told_as : (error : KeyFileError) (found : Fault) → IsKeysFault error found → (why : Refusal) (place : Place) → TellsKeysError error why place → found ≡ fault.Refused why place
told_as key_file.OutOfMemory found is why place tells = absurd tells
told_as (key_file.Syntax line) (fault.Refused a p) is why place tells = one_telling (key_file.Syntax line) a why p place is tells
told_as (key_file.DuplicateKey line) (fault.Refused a p) is why place tells = one_telling (key_file.DuplicateKey line) a why p place is tells
told_as error found is why place tells = absurd is

-- what refuses the text is told, or memory was refused before it
pub every_keys_fault : {T U : Type 0} (text : List ℕ) (error : KeyFileError) (found : Fault) → IsKeysFault error found
    → ((first : KeyFileError) → IsKeyFault text first → Path (Result U KeyFileError) (Err error) (Err first) ⊎ (Path (Result U KeyFileError) (Err error) (Err key_file.OutOfMemory) × BeginsWithKey text))
    → TellsRefusals {T = T} (λ why place. (first : KeyFileError) × IsKeyFault text first × TellsKeysError first why place) (BeginsWithKey text) (Err found)
every_keys_fault text error found is every =
    every_told (IsKeyFault text) TellsKeysError (BeginsWithKey text) key_file.OutOfMemory error found (told_as error found is) (λ same. subst (λ (e : KeyFileError). IsKeysFault e found) same is) every

-- no text has no keys
pub no_keys : HasKeys [] []
no_keys =
    let none = none_say [] refl in
    record {
      within = omega arith;
      are = record { lines = []; has = record { lines = []; all = record { ended = []; behind = []; each = tt; last = tt; octets = refl; all = refl }; numbered = refl }; each = none.each; may_stand = none.may_stand };
    }

module _ (one_ring : (text : List ℕ) (a b : List SharedKey) → IsRingOf text a → IsRingOf text b → a ≡ b)
    (one_error : (text : List ℕ) (a b : KeyFileError) → IsKeyFault text a → IsKeyFault text b → a ≡ b)
    (apart : (text : List ℕ) (ring : List SharedKey) (error : KeyFileError) → IsRingOf text ring → IsKeyFault text error → ⊥) where
  no_fault_of : (text : List ℕ) (keys : List SharedKey) (told : Fault) → HasKeys text keys → IsFaultOfKeys text told → ⊥
  no_fault_of text keys told has =
      no_text_fault Keys AreKeysRefused text has.within (λ why place bad. apart text keys bad.0 has.are bad.1) told

  -- a file that has keys, or isn't given, has no fault
  pub no_keys_fault : (file : Option (List ℕ)) (keys : Option (List SharedKey)) (told : Fault) → MayHaveKeys file keys → IsFaultOfKeys (octets_or_none file) told → ⊥
  no_keys_fault None keys told has bad = no_fault_of [] [] told no_keys bad
  no_keys_fault (Some text) None told has bad = has
  no_keys_fault (Some text) (Some keys) told has bad = no_fault_of text keys told has bad

  pub one_keys_fault : (text : List ℕ) (a b : Fault) → IsFaultOfKeys text a → IsFaultOfKeys text b → a ≡ b
  one_keys_fault text =
      one_text_fault Keys AreKeysRefused text (told_by_one (IsKeyFault text) TellsKeysError (one_error text) one_telling)

  -- a file that may be given has one list of keys
  pub same_keys : (file : Option (List ℕ)) (a b : Option (List SharedKey)) → MayHaveKeys file a → MayHaveKeys file b → a ≡ b
  same_keys None a b x y = x ∙ sym y
  same_keys (Some text) None b x y = absurd x
  same_keys (Some text) (Some a) None x y = absurd y
  same_keys (Some text) (Some a) (Some b) x y = ap (λ keys. Some keys) (one_ring text a b x.are y.are)

-- memory is wanted only for a text that begins with something
pub wanted_for_keys : {T : Type 0} (text : List ℕ) (error : KeyFileError) (found : Fault) → IsKeysFault error found → (error ≡ key_file.OutOfMemory → BeginsWithKey text)
    → Path (Result T Fault) (Err found) (Err fault.OutOfMemory) → BeginsWithKey text
wanted_for_keys text key_file.OutOfMemory found tells begins is = begins refl
wanted_for_keys text error found tells begins is = let same : found ≡ fault.OutOfMemory = cc in absurd (subst (IsKeysFault error) same tells)
