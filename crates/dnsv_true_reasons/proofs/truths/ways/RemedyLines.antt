-- Remedies each of whose lines is such.
use Rattle.std.proofs.Common.{inl, inr, ◌++◌, Bool, true, false, if◌then◌else◌, List, [], ◌∷◌, map, refl}
use Rattle.std.specs.List.{AllByRecursion}
use Rattle.dnsv_mending.specs.Mend.{Mended}
use Rattle.dnsv_mending.specs.Ways.{IsAmong}
use Rattle.dnsv_mending.specs.declared.price.Class.{Class}
use Rattle.dnsv_mending.specs.declared.told.Told.{Told}
use Rattle.dnsv_mending.proofs.AllWays.{all_append}
use Rattle.dnsv_remedies.specs.Remedy.{Remedied, both, ended, fails_alone, fault, following, gap, missing, nothing, unusable_line, unusable_lines, untold, whole, with_unusable}
use Rattle.dnsv_remedies.specs.declared.facts.name.UnusableFacts.{UnusableFacts}
use Rattle.dnsv_remedies.specs.declared.said.Said.{Said}
use Rattle.dnsv_remedies.specs.declared.said.Said.TheVariants as said
use Rattle.dnsv_true_reasons.proofs.truths.ways.MendLines.{Lines}

pub record Says (Q : Said → Type 0) (m : Remedied) : Type 0 where
  pub chain : AllByRecursion Q m.chain
  pub own : AllByRecursion Q m.own

module _ (Q : Said → Type 0) where
  all_trust : (ts : List Told) → AllByRecursion (λ t. Q (said.Trust t)) ts → AllByRecursion Q (map said.Trust ts)
  all_trust [] all = tt
  all_trust (t ∷ ts) all = (all.0, all_trust ts all.1)

  pub says_nothing : Says Q nothing
  says_nothing = record { chain = tt; own = tt }

  pub says_whole : (m : Mended) → Lines (λ t. Q (said.Trust t)) m → Says Q (whole m)
  says_whole m lines = record { chain = all_trust m.chain lines.chain; own = all_trust m.own lines.own }

  pub says_fault : (c : Class) (line : Said) → Q line → Says Q (fault c line)
  says_fault c line holds = record { chain = tt; own = (holds, tt) }

  pub says_untold : (c : Class) → Says Q (untold c)
  says_untold c = record { chain = tt; own = tt }

  pub says_missing : (c : Class) (lines : List Said) → AllByRecursion Q lines → Says Q (missing c lines)
  says_missing c lines all = record { chain = tt; own = all }

  pub says_gap : Says Q gap
  says_gap = record { chain = tt; own = tt }

  pub says_both : (m n : Remedied) → Says Q m → Says Q n → Says Q (both m n)
  says_both m n first second =
      record { chain = all_append Q m.chain n.chain first.chain second.chain; own = all_append Q m.own n.own first.own second.own }

  pub says_following : (m n : Remedied) → Says Q m → Says Q n → Says Q (following m n)
  says_following m n first second = record {
    chain = all_append Q (m.chain ++ m.own) n.chain (all_append Q m.chain m.own first.chain first.own) second.chain;
    own = second.own;
  }

  pub all_unusable : (us : List UnusableFacts) → ((u : UnusableFacts) → IsAmong u us → Q (said.Nsec3 u.why u.number))
      → AllByRecursion Q (unusable_lines us)
  unfolding unusable_line
  all_unusable [] each = tt
  all_unusable (u ∷ us) each = (each u (inl refl), all_unusable us (λ v among. each v (inr among)))

  unusable_case : (us : List UnusableFacts) (m : Remedied) (b : Bool)
      → ((u : UnusableFacts) → IsAmong u us → Q (said.Nsec3 u.why u.number)) → Says Q m
      → Says Q (if b then record m { own = unusable_lines us ++ m.own } else m)
  unusable_case us m true each says = record {
    chain = says.chain;
    own = all_append Q (unusable_lines us) m.own (all_unusable us each)
        says.own;
  }
  unusable_case us m false each says = says

  pub says_unusable : (us : List UnusableFacts) (m : Remedied) → ((u : UnusableFacts) → IsAmong u us → Q (said.Nsec3 u.why u.number))
      → Says Q m
      → Says Q (with_unusable us m)
  says_unusable us m each says = unusable_case us m m.lacks each says

  ended_case : (line : Said) (m : Remedied) (b : Bool) → Q line → Says Q m → Says Q (if b then record m { own = m.own ++ line ∷ [] } else m)
  ended_case line m true holds says = record { chain = says.chain; own = all_append Q m.own (line ∷ []) says.own (holds, tt) }
  ended_case line m false holds says = says

  pub says_ended : (line : Said) (m : Remedied) → Q line → Says Q m → Says Q (ended line m)
  says_ended line m holds says = ended_case line m (fails_alone m) holds says
