-- Who may sign an RRset, by its type.
use Rattle.std.proofs.Common.{◌≡◌, ◌≢◌, ◌↔◌, ℕ, arith}
use Rattle.dnsv_names.specs.Name.{Labels, SameName, IsAtOrBelow}
use Rattle.dnsv_names.specs.Tree.TreeLaws.{same_at_or_below}
use Rattle.dnsv_verifier.specs.Admissible.{MaySign}

pub dnskey_signer : (signer owner : Labels) (rtype : ℕ) → rtype ≡ 48 → SameName owner signer ↔ MaySign signer rtype owner
dnskey_signer signer owner rtype is =
    (λ same. record { above = same_at_or_below owner signer same; ds = λ ds. absurd (omega (arith, is, ds)); dnskey = λ _. same }, λ may. may.dnskey is)

pub ds_signer : (signer owner : Labels) (rtype : ℕ) → rtype ≡ 43
    → ((SameName owner signer → ⊥) × IsAtOrBelow owner signer) ↔ MaySign signer rtype owner
ds_signer signer owner rtype is =
    (λ below. record { above = below.1; ds = λ _. (below.1, below.0); dnskey = λ dnskey. absurd (omega (arith, is, dnskey)) }, λ may. ((may.ds is).1, may.above))

pub other_signer : (signer owner : Labels) (rtype : ℕ) → rtype ≢ 43 → rtype ≢ 48
    → IsAtOrBelow owner signer ↔ MaySign signer rtype owner
other_signer signer owner rtype no_ds no_dnskey =
    (λ above. record { above = above; ds = λ ds. absurd (no_ds ds); dnskey = λ dnskey. absurd (no_dnskey dnskey) }, λ may. may.above)
