-- A signature by itself, as the one of an RRset.
use Rattle.std.proofs.Common.{◌≡◌, ◌⊎◌, inl, inr, ⊎_elim, ◌++◌, Bool, true, false, List, [], ◌∷◌, Option, Some, refl, sym, ap, ◌∙◌, subst, ◌^◌}
use Rattle.std.proofs.lemmas.Bool.{false≢true, ltb-true}
use Rattle.dnsv_mending.specs.Examples.{vec}
use Rattle.dnsv_mending.specs.Mend.{Mended, cheapest}
use Rattle.dnsv_mending.specs.Reasons.{IsClosed, IsClosedSignature, IsSignedRrset}
use Rattle.dnsv_mending.specs.Rrset.{rrset_ways, signature_ways}
use Rattle.dnsv_mending.specs.Ways.{IsAmong}
use Rattle.dnsv_mending.specs.Zone.{levels_of}
use Rattle.dnsv_mending.specs.declared.facts.signature.RrsetFacts.{RrsetFacts}
use Rattle.dnsv_mending.specs.declared.facts.signature.SignatureFacts.{SignatureFacts}
use Rattle.dnsv_mending.specs.declared.facts.zone.ZoneFacts.{ZoneFacts}
use Rattle.dnsv_mending.proofs.DearLines.{IsTold}
use Rattle.dnsv_mending.proofs.Reasons.{free_signed, unsigned_has_reason}

abbrev pub alone : SignatureFacts → RrsetFacts
alone s = record { number = 0; signatures = vec s.keys.alloc (s ∷ []) (ltb-true 1 (2 ^ 63) refl) }

pub append_empty : {X : Type 0} (xs : List X) → xs ++ [] ≡ xs
append_empty [] = refl
append_empty (x ∷ xs) = ap (λ ys. x ∷ ys) (append_empty xs)

signed_alone : (s : SignatureFacts) → IsSignedRrset (alone s) → s.is_signed ≡ true
signed_alone s h = ⊎_elim (λ (same : h.0 ≡ s). ap (λ (x : SignatureFacts). x.is_signed) (sym same) ∙ h.2) (λ (none : ⊥). absurd none) h.1

signed_or_told : (zones : List ZoneFacts) → IsClosed zones → (above : Option Mended) (s : SignatureFacts) (m : Mended) → IsClosedSignature zones s
    → cheapest (rrset_ways (levels_of true zones) above (alone s)) ≡ Some m → (t : Bool) → s.is_signed ≡ t → (s.is_signed ≡ true) ⊎ IsTold m
signed_or_told zones c above s m closed is true e = inl e
signed_or_told zones c above s m closed is false e =
    let of_each : (x : SignatureFacts) → IsAmong x (s ∷ []) → IsClosedSignature zones x =
    λ x among. ⊎_elim (λ (same : x ≡ s). subst (IsClosedSignature zones) (sym same) closed) (λ (none : ⊥). absurd none) among in
    inr (record {
      reason = unsigned_has_reason zones above (alone s) m c of_each is (λ h. false≢true (sym e ∙ signed_alone s h));
      costs = λ free. false≢true (sym e ∙ signed_alone s (free_signed zones above (alone s) m c of_each is free));
    })

pub signature_told : (zones : List ZoneFacts) → IsClosed zones → (above : Option Mended) (s : SignatureFacts) (m : Mended) → IsClosedSignature zones s
    → cheapest (signature_ways (levels_of true zones) above s) ≡ Some m → (s.is_signed ≡ true) ⊎ IsTold m
signature_told zones c above s m closed is =
    signed_or_told zones c above s m closed (ap cheapest (append_empty (signature_ways (levels_of true zones) above s)) ∙ is) s.is_signed refl
