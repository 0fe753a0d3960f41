-- A request has one text and end for its files.
use Rattle.std.proofs.Common.{◌≡◌, List, ap, subst, sym, ℕ, ◌∙◌}
use Rattle.std.specs.Prelude.{string_bytes}
use Rattle.dnsv_answers.specs.declared.heading.Moments.TheVariants.{At, Between}
use Rattle.dnsv_names.specs.Octets.{AreOctets}
use Rattle.dnsv_canonical.specs.Evidence.{evidence_of}
use Rattle.dnsv_files.specs.declared.opening.Opening.TheVariants.{Plain}
use Rattle.dnsv_commands.specs.declared.request.Asking.TheVariants as asking
use Rattle.dnsv_commands.specs.declared.request.Listing.TheVariants as listing
use Rattle.dnsv_commands.specs.declared.request.Request.{Request}
use Rattle.dnsv_commands.specs.declared.request.Request.TheVariants as request
use Rattle.dnsv_files.specs.declared.status.Status.{Status}
use Rattle.dnsv_files.specs.Files.Capture.{AnyMessage, NewEvidence}
use Rattle.dnsv_files.specs.Files.{Files}
use Rattle.dnsv_program_laws.specs.Layers.{LayerLaws}
use Rattle.dnsv_program.specs.Run.{IsTextAskedFor}
use Rattle.dnsv_evidence_texts.specs.Listing.{ListsRrsets, listing_text}
use Rattle.dnsv_evidence_texts.specs.Showing.{message_text, texts_from}
use Rattle.dnsv_program_laws.proofs.LawLemmas.OneAnswer.{one_answered}
use Rattle.dnsv_program_laws.proofs.LawLemmas.OneCapture.{one_holding}
use Rattle.dnsv_program_laws.proofs.LawLemmas.OneText.{one_answer, one_list, one_timeline_asked, one_todo}

module _ (laws : LayerLaws) where
  -- a request has one text and end for its files
  pub one_text : (asked : Request) (files : Files) → AreOctets files.capture → (s t : Status) (a b : List ℕ)
      → IsTextAskedFor asked files s a → IsTextAskedFor asked files t b → (s ≡ t) × (a ≡ b)
  one_text (request.Show capture) files are s t a b x y =
      (x.0 ∙ sym y.0, x.1.2 ∙ ap (texts_from message_text 1) (one_holding laws AnyMessage Plain files.capture are x.1.0 y.1.0 x.1.1 y.1.1) ∙ sym y.1.2)
  one_text (request.List capture moment statements listing.All format) files are s t a b x y = (
    x.0 ∙ sym y.0,
    x.1.4 ∙ ap (listing_text format moment) (one_list laws 1 (evidence_of x.1.0).rrsets x.1.2 y.1.2 x.1.3
        (subst (λ messages. ListsRrsets 1 (evidence_of messages).rrsets y.1.2) (one_holding laws NewEvidence Plain files.capture are y.1.0 x.1.0 y.1.1 x.1.1) y.1.3)) ∙ sym y.1.4,
  )
  one_text (request.List capture moment statements (listing.Todo form) format) files are s t a b x y = (x.0 ∙ sym y.0, one_todo laws form format (At moment) files are a b x.1 y.1)
  one_text (request.ListRange capture from to statements form format) files are s t a b x y =
      (x.0 ∙ sym y.0, one_todo laws form format (Between from to) files are a b x.2 y.2)
  one_text (request.Timeline capture anchors from to asked rtype known kinds format) files are s t a b x y =
      (x.0 ∙ sym y.0, one_timeline_asked laws format kinds (string_bytes asked) rtype.0 from to files are a b x.1 y.1)
  one_text (request.Check capture anchors moment (asking.One asked rtype) statements keys macs format why) files are s t a b x y =
      one_answer laws rtype.0 moment files are format why (string_bytes asked) s t a b x y
  one_text (request.Check capture anchors moment (asking.Each questions) statements keys macs format why) files are s t a b x y =
      one_answered laws moment files are format why s t a b x y
