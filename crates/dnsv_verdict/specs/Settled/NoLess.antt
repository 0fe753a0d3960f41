-- When a question is judged by no less than before, and which verdict is the better one.
use Rattle.std.specs.Prelude.{◌≡◌, ◌≢◌, ◌++◌, ℕ, List, Contains}
use Rattle.dnsv_message.specs.Message.{Contents}
use Rattle.dnsv_canonical.specs.Rrsets.{ReceivedRrset, rrsets_of}
use Rattle.dnsv_verifier.specs.declared.answer.Answer.{Answer}
use Rattle.dnsv_verifier.specs.declared.answer.Answer.TheVariants.{Valid, Invalid, Unknown}
use Rattle.dnsv_verifier.specs.declared.entry.Entry.{Entry}
use Rattle.dnsv_anchors.specs.declared.anchor.Anchor.{Anchor}
use Rattle.dnsv_chain.specs.Basis.{Basis, basis_of}
use Rattle.dnsv_verdict.specs.declared.verdict.Verdict.{Verdict}
use Rattle.dnsv_verdict.specs.declared.verdict.Verdict.TheVariants.{SecureAnswer, SecureAlias, SecureNoName, SecureNoData, Insecure, Pending, Bogus, Indeterminate}

-- The second verifier says Valid wherever the first does, and Invalid nowhere that the first says Unknown. What it says
-- where the first says Invalid is left open.
pub record AnswersNoLess (before after : Entry → Answer) : Type 0 where
  pub valid : (entry : Entry) → before entry ≡ Valid → after entry ≡ Valid
  pub unknown : (entry : Entry) → before entry ≡ Unknown → after entry ≢ Invalid

-- The second basis has the RRsets of the first with others behind, its anchors among others, its moment, and a verifier
-- that answers no less.
pub record IsNoLess (before after : Basis) : Type 0 where
  pub later : List ReceivedRrset
  pub rrsets : after.rrsets ≡ before.rrsets ++ later
  pub anchors : (anchor : Anchor) → Contains before.anchors anchor → Contains after.anchors anchor
  pub moment : after.moment ≡ before.moment
  pub answers : AnswersNoLess before.meaning after.meaning

-- what a question is judged by where the evidence is that of these messages
abbrev pub basis_of_messages : List Contents → List Anchor → ℕ → (Entry → Answer) → Basis
basis_of_messages messages anchors moment meaning = basis_of (rrsets_of messages) anchors moment meaning

-- the number of the verdict's case: the lower it is, the better the verdict
abbrev pub case_of : Verdict → ℕ
case_of (SecureAnswer k s) = 1
case_of (SecureAlias k s) = 2
case_of (SecureNoName proof) = 3
case_of (SecureNoData proof) = 4
case_of (Insecure cut) = 5
case_of (Pending entries) = 6
case_of Bogus = 7
case_of Indeterminate = 8
