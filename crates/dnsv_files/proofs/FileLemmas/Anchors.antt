-- A text of trust anchors is one list of them, or has one fault.
use Rattle.std.proofs.Common.{◌≡◌, ◌⊎◌, inl, inr, refl, subst, sym, ℕ, List, Result, Err}
use Rattle.dnsv_anchors.specs.AnchorFile.{AreAnchorsOf, BeginsWithAnchor, IsFaultOf}
use Rattle.dnsv_anchors.specs.declared.anchor.Anchor.{Anchor}
use Rattle.dnsv_anchors.specs.declared.anchors.AnchorsError.{AnchorsError}
use Rattle.dnsv_anchors.specs.declared.anchors.AnchorsError.TheVariants as anchors
use Rattle.dnsv_files.specs.declared.status.Fault.{Fault}
use Rattle.dnsv_files.specs.declared.status.Fault.TheVariants as fault
use Rattle.dnsv_files.specs.declared.status.InputFile.TheVariants.{Anchors}
use Rattle.dnsv_files.specs.declared.status.Place.{Place}
use Rattle.dnsv_files.specs.declared.status.Refusal.{Refusal}
use Rattle.dnsv_files.specs.declared.status.Refusal.TheVariants as refusal
use Rattle.dnsv_files.specs.Files.Anchors.{AreAnchorsRefused, HasAnchors, IsFaultOfAnchors, TellsAnchorsError}
use Rattle.dnsv_files.specs.Told.{IsAnchorsFault, TellsRefusals}
use Rattle.dnsv_files.specs.Told as told
use Rattle.dnsv_files.proofs.FileLemmas.Text.{every_told, no_text_fault, one_at_line, one_text_fault, told_by_one}

one_telling : (error : AnchorsError) (a b : Refusal) (p q : Place) → TellsAnchorsError error a p → TellsAnchorsError error b q → fault.Refused a p ≡ fault.Refused b q
one_telling anchors.OutOfMemory a b p q x y = absurd x
one_telling (anchors.Syntax number) a b p q x y = one_at_line number (refusal.AnchorLine (anchors.Syntax number)) a b p q x.0 x.1 y.0 y.1
one_telling (anchors.TooMany number) a b p q x y = one_at_line number (refusal.AnchorLine (anchors.TooMany number)) a b p q x.0 x.1 y.0 y.1

-- what refuses the text is told as its fault
pub refused_text : (text : List ℕ) (error : AnchorsError) (found : Fault) → (error ≡ anchors.OutOfMemory) ⊎ IsFaultOf text error
    → IsAnchorsFault error found → told.IsFaultOf (AreAnchorsRefused text) found
refused_text text anchors.OutOfMemory found why is = subst (told.IsFaultOf (AreAnchorsRefused text)) (sym is) tt
refused_text text (anchors.Syntax line) (fault.Refused why place) (inl is) tells = cc
refused_text text (anchors.Syntax line) (fault.Refused why place) (inr is) tells = (anchors.Syntax line, is, tells)
refused_text text (anchors.TooMany line) (fault.Refused why place) (inl is) tells = cc
refused_text text (anchors.TooMany line) (fault.Refused why place) (inr is) tells = (anchors.TooMany line, is, tells)
refused_text text (anchors.Syntax line) fault.OutOfMemory why tells = absurd tells
refused_text text (anchors.TooMany line) fault.OutOfMemory why tells = absurd tells
refused_text text error found why tells = absurd tells

-- a refusal that tells an error is the one that it is told as
told_as : (error : AnchorsError) (found : Fault) → IsAnchorsFault error found → (why : Refusal) (place : Place) → TellsAnchorsError error why place → found ≡ fault.Refused why place
told_as anchors.OutOfMemory found is why place tells = absurd tells
told_as (anchors.Syntax line) (fault.Refused a p) is why place tells = one_telling (anchors.Syntax line) a why p place is tells
told_as (anchors.TooMany line) (fault.Refused a p) is why place tells = one_telling (anchors.TooMany line) a why p place is tells
told_as error found is why place tells = absurd is

-- what refuses the text is told, or memory was refused before it
pub every_anchors_fault : {T U : Type 0} (text : List ℕ) (error : AnchorsError) (found : Fault) → IsAnchorsFault error found
    → ((first : AnchorsError) → IsFaultOf text first → Path (Result U AnchorsError) (Err error) (Err first) ⊎ (Path (Result U AnchorsError) (Err error) (Err anchors.OutOfMemory) × BeginsWithAnchor text))
    → TellsRefusals {T = T} (λ why place. (first : AnchorsError) × IsFaultOf text first × TellsAnchorsError first why place) (BeginsWithAnchor text) (Err found)
every_anchors_fault text error found is every =
    every_told (IsFaultOf text) TellsAnchorsError (BeginsWithAnchor text) anchors.OutOfMemory error found (told_as error found is) (λ same. subst (λ (e : AnchorsError). IsAnchorsFault e found) same is) every

pub no_anchors_fault : (text : List ℕ) (said : List Anchor) (told : Fault)
    → ((error : AnchorsError) → AreAnchorsOf text said → IsFaultOf text error → ⊥)
    → HasAnchors text said → IsFaultOfAnchors text told → ⊥
no_anchors_fault text said told apart has =
    no_text_fault Anchors AreAnchorsRefused text has.within (λ why place bad. apart bad.0 has.are bad.1) told

pub one_anchors_fault : (text : List ℕ) (a b : Fault) → ((x y : AnchorsError) → IsFaultOf text x → IsFaultOf text y → x ≡ y)
    → IsFaultOfAnchors text a → IsFaultOfAnchors text b → a ≡ b
one_anchors_fault text a b one =
    one_text_fault Anchors AreAnchorsRefused text (told_by_one (IsFaultOf text) TellsAnchorsError one one_telling) a b

-- memory is wanted only for a text that begins with something
pub wanted_for_anchors : {T : Type 0} (text : List ℕ) (error : AnchorsError) (found : Fault) → IsAnchorsFault error found → (error ≡ anchors.OutOfMemory → BeginsWithAnchor text)
    → Path (Result T Fault) (Err found) (Err fault.OutOfMemory) → BeginsWithAnchor text
wanted_for_anchors text anchors.OutOfMemory found tells begins is = begins refl
wanted_for_anchors text error found tells begins is = let same : found ≡ fault.OutOfMemory = cc in absurd (subst (IsAnchorsFault error) same tells)
