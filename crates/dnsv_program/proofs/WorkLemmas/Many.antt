-- What is so of many questions, said of the request that asks them.
use Rattle.std.proofs.Common.{◌⊎◌, ℕ, Bool, List, Option, inl, inr}
use Rattle.std.specs.Io.KnownBytes.{Appends}
use Rattle.dnsv_questions.specs.declared.format.Format.{Format}
use Rattle.dnsv_files.specs.Files.{Files}
use Rattle.dnsv_program.specs.Run.{AsksMany, AsksRefused, IsFirstFault, IsManyAsked, IsReached, IsTextAskedFor, IsTextOfFewer, IsTextOfFirst}
use Rattle.dnsv_asking.specs.Asking.{AreAnswered, AreFewerAnswered, AreFirstAnswered, IsFirstFaultOfEach, IsReachedByEach}
use Rattle.dnsv_commands.specs.declared.request.Asking.TheVariants as asking
use Rattle.dnsv_commands.specs.declared.request.Request.{Request}
use Rattle.dnsv_commands.specs.declared.request.Request.TheVariants as request
use Rattle.dnsv_files.specs.declared.status.Fault.{Fault}
use Rattle.dnsv_files.specs.declared.status.InputFile.{InputFile}
use Rattle.dnsv_files.specs.declared.status.Status.{Status}

pub record AskedAlike (asked : Request) (format : Format) (why : Bool) (moment : ℕ) : Type 0 where
  pub texts : (files : Files) (end : Status) (text : List ℕ) → AreAnswered format why moment files end text → IsTextAskedFor asked files end text
  pub firsts : (files : Files) (text : List ℕ) → AreFirstAnswered format why moment files text → IsTextOfFirst asked files text
  pub fewer : (files : Files) (text : List ℕ) → AreFewerAnswered format why moment files text → IsTextOfFewer asked files text
  pub faults : (files : Files) (fault : Fault) → IsFirstFaultOfEach moment files fault → IsFirstFault asked files fault
  pub reached : (files : Files) (file : InputFile) → IsReachedByEach moment files file → IsReached asked files file
  pub many : AsksMany asked
  pub unrefused : (fault : Fault) → AsksRefused asked fault → ⊥

pub asked_alike : (asked : Request) (format : Format) (why : Bool) (moment : ℕ) → IsManyAsked asked format why moment → AskedAlike asked format why moment
asked_alike (request.Show capture) format why moment is = absurd is
asked_alike (request.List capture at statements lists form) format why moment is = absurd is
asked_alike (request.ListRange capture from to statements each form) format why moment is = absurd is
asked_alike (request.Timeline capture anchors from to asked rtype known kinds form) format why moment is = absurd is
asked_alike (request.Check capture anchors at (asking.One name rtype) statements keys macs form whether) format why moment is = absurd is
asked_alike (request.Check capture anchors at (asking.Each questions) statements keys macs form whether) format why moment is = record {
  texts = λ files end text holds. rw (is.0, is.1, is.2) at holds;
  firsts = λ files text holds. rw (is.0, is.1, is.2) at holds;
  fewer = λ files text holds. rw (is.0, is.1, is.2) at holds;
  faults = λ files fault holds. rw is.2 at holds;
  reached = λ files file holds. rw is.2 at holds;
  many = tt;
  unrefused = λ fault refused. refused;
}

module _ (asked : Request) (format : Format) (why : Bool) (moment : ℕ) (alike : AskedAlike asked format why moment) (old new : Option (List ℕ)) where
  pub many_whole : {Same : Type 0} {AreSo : Files → Type 0}
      → Same ⊎ ((files : Files) → AreSo files → (text : List ℕ) × AreFewerAnswered format why moment files text × Appends old new text)
      → Same ⊎ (AsksMany asked × ((files : Files) → AreSo files → (text : List ℕ) × IsTextOfFewer asked files text × Appends old new text))
  many_whole (inl same) = inl same
  many_whole (inr whole) = inr (alike.many, λ files are. let told = whole files are in (told.0, alike.fewer files told.0 told.1, told.2))
