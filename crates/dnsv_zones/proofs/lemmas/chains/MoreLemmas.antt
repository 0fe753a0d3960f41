-- What records prove, more records prove too.
use Rattle.std.proofs.Common.{◌≡◌, ◌≢◌, ℕ, ◌+◌, List, inl, inr, ⊎_elim}
use Rattle.dnsv_names.specs.Name.{Labels, SameName, rightmost}
use Rattle.dnsv_names.specs.Tree.{wildcard_of}
use Rattle.dnsv_zones.specs.Any.{Any, AreAmong}
use Rattle.dnsv_zones.specs.zones.Types.{IsClosed, Denies, IsUnsignedDelegation}
use Rattle.dnsv_zones.specs.chains.NsecChain.{NsecRecord, IsInBitmap}
use Rattle.dnsv_zones.specs.chains.Nsec3Chain.{Nsec3Record, NameHash}
use Rattle.dnsv_zones.specs.forms.Nsec.{IsAbsentBy, IsEmptyNonTerminalBy, IsNodeBy, nsec_words}
use Rattle.dnsv_zones.specs.forms.Nsec3.{Matches, Covers, nsec3_words, IsOptedOut, OptOutForm, OptedOutNextCloserForm}
use Rattle.dnsv_zones.specs.forms.Forms.{Words, EndsAt, NoNameForm, NoDataForms, NoCloserForm, UnsignedCutForm}
use Rattle.dnsv_zones.proofs.lemmas.AnyLemmas.{any_among}

-- what the one words say the others say too
pub record SayMore (words more : Words) : Type 1 where
  pub encloser : (name : Labels) → words.Encloser name → more.Encloser name
  pub absent : (name : Labels) → words.Absent name → more.Absent name
  pub empty_non_terminal : (name : Labels) → words.EmptyNonTerminal name → more.EmptyNonTerminal name
  pub types_at : (name : Labels) (Says : (ℕ → Type 0) → Type 0) → words.TypesAt name Says → more.TypesAt name Says

module _ (words more : Words) (say : SayMore words more) (apex name : Labels) where
  ends_more : (labels : ℕ) → EndsAt words apex name labels → EndsAt more apex name labels
  ends_more labels ends = record {
    above = ends.above;
    encloser = say.encloser (rightmost name labels) ends.encloser;
    next_closer = say.absent (rightmost name (labels + 1)) ends.next_closer;
  }

  pub no_name_more : NoNameForm words apex name → NoNameForm more apex name
  no_name_more form = record {
    labels = form.labels;
    ends = ends_more form.labels form.ends;
    wildcard = say.absent (wildcard_of (rightmost name form.labels)) form.wildcard;
  }

  pub no_data_more : (t : ℕ) → NoDataForms words apex name t → NoDataForms more apex name t
  no_data_more t (inl form) = inl (record { within = form.within; types = say.types_at name (λ has. Denies has t) form.types })
  no_data_more t (inr (inl form)) = inr (inl (record { within = form.within; empty_non_terminal = say.empty_non_terminal name form.empty_non_terminal }))
  no_data_more t (inr (inr (inl form))) = inr (inr (inl (record {
    labels = form.labels;
    ends = ends_more form.labels form.ends;
    types = say.types_at (wildcard_of (rightmost name form.labels)) (λ has. Denies has t) form.types;
  })))
  no_data_more t (inr (inr (inr form))) = inr (inr (inr (record {
    labels = form.labels;
    ends = ends_more form.labels form.ends;
    empty_non_terminal = say.empty_non_terminal (wildcard_of (rightmost name form.labels)) form.empty_non_terminal;
  })))

  pub no_closer_more : (labels : ℕ) → NoCloserForm words apex name labels → NoCloserForm more apex name labels
  no_closer_more labels form = record { above = form.above; next_closer = say.absent (rightmost name (labels + 1)) form.next_closer }

  pub unsigned_cut_more : (cut : Labels) → UnsignedCutForm words apex name cut → UnsignedCutForm more apex name cut
  unsigned_cut_more cut form = record {
    at_or_above = form.at_or_above;
    below_apex = form.below_apex;
    types = say.types_at cut IsUnsignedDelegation form.types;
  }

pub nsec_more : (apex : Labels) (few many : List NsecRecord) → AreAmong few many → SayMore (nsec_words apex few) (nsec_words apex many)
nsec_more apex few many among = record {
  encloser = λ x told. ⊎_elim (λ (same : SameName x apex). inl same) (λ (some : Any (λ r. IsNodeBy r x) few). inr (any_among (λ r. IsNodeBy r x) few many among some)) told;
  absent = λ x. any_among (λ r. IsAbsentBy r x) few many among;
  empty_non_terminal = λ x. any_among (λ r. IsEmptyNonTerminalBy r x) few many among;
  types_at = λ x Says. any_among (λ r. SameName r.owner x × Says (IsInBitmap r.types)) few many among;
}

pub nsec3_more : (hash : NameHash) (few many : List Nsec3Record) → AreAmong few many → SayMore (nsec3_words hash few) (nsec3_words hash many)
nsec3_more hash few many among = record {
  encloser = λ x. any_among (λ r. Matches hash r x × ¬ IsClosed (IsInBitmap r.types)) few many among;
  absent = λ x. any_among (λ r. Covers hash r x × (r.flags ≡ 0)) few many among;
  empty_non_terminal = λ x none. none;
  types_at = λ x Says. any_among (λ r. Matches hash r x × Says (IsInBitmap r.types)) few many among;
}

opted_out_among : (hash : NameHash) (few many : List Nsec3Record) (x : Labels) → AreAmong few many → IsOptedOut hash few x → IsOptedOut hash many x
opted_out_among hash few many x among = any_among (λ r. Covers hash r x × (r.flags ≢ 0)) few many among

pub opt_out_more : (hash : NameHash) (few many : List Nsec3Record) (apex name : Labels) (labels : ℕ) → AreAmong few many → OptOutForm hash few apex name labels → OptOutForm hash many apex name labels
opt_out_more hash few many apex name labels among form = record {
  above = form.above;
  encloser = (nsec3_more hash few many among).encloser (rightmost name labels) form.encloser;
  next_closer = any_among (λ r. Covers hash r (rightmost name (labels + 1))) few many among form.next_closer;
  opted_out = ⊎_elim
      (λ (next : IsOptedOut hash few (rightmost name (labels + 1))). inl (opted_out_among hash few many (rightmost name (labels + 1)) among next))
      (λ (star : IsOptedOut hash few (wildcard_of (rightmost name labels))). inr (opted_out_among hash few many (wildcard_of (rightmost name labels)) among star))
      form.opted_out;
}

pub opt_out_closer_more : (hash : NameHash) (few many : List Nsec3Record) (apex name : Labels) (labels : ℕ) → AreAmong few many → OptedOutNextCloserForm hash few apex name labels → OptedOutNextCloserForm hash many apex name labels
opt_out_closer_more hash few many apex name labels among form =
    record { above = form.above; opted_out = opted_out_among hash few many (rightmost name (labels + 1)) among form.opted_out }
