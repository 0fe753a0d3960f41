-- Cases and parts of a text that checks are of names that the question asks of.
use Rattle.std.proofs.Common.{◌≡◌, ◌≢◌, ◌⊎◌, List, refl, sym, subst}
use Rattle.std.specs.List.{Contains}
use Rattle.dnsv_names.specs.Name.{IsAtOrBelow, Labels, SameName}
use Rattle.dnsv_names.specs.Order.{IsBelow}
use Rattle.dnsv_names.specs.Tree.{wildcard_of}
use Rattle.dnsv_names.specs.Tree.TreeLaws.{same_at_or_below}
use Rattle.dnsv_derivations.specs.Explained.{Setting}
use Rattle.dnsv_lines.specs.declared.line.Line.{Line}
use Rattle.dnsv_lines.specs.declared.line.Line.TheVariants as line
use Rattle.dnsv_lines.specs.declared.line.denial.Part.{Part}
use Rattle.dnsv_lines.specs.declared.line.denial.Role.{Role}
use Rattle.dnsv_lines.specs.declared.line.denial.Role.TheVariants as role
use Rattle.dnsv_rules.specs.Checked.{Asked, Checks, IsNameFor}

-- in each role but that of a wildcard the name is at or above the question's
above_by : (as_role : Role) → as_role ≢ role.Wildcard → (question name : Labels) → IsNameFor question as_role name → IsAtOrBelow question name
above_by role.ClosestEncloser other question name is = is
above_by role.NextCloser other question name is = is
above_by role.Wildcard other question name is = absurd (other refl)
above_by role.Name other question name is = same_at_or_below question name (sym is)
above_by role.Cut other question name is = is

module _ (setting : Setting) (asked : Asked) (lines : List Line) (checks : Checks setting asked lines) (part : Part)
    (there : Contains lines (line.Part part)) where
  -- the part is of no name of the way
  abbrev IsOfNone : (Labels → Type 0) → Type 0
  IsOfNone Of = (name : Labels) → (name ≡ asked.name) ⊎ Contains asked.aliases name → ¬ Of name

  pub strange_above : part.role ≢ role.Wildcard → IsOfNone (λ name. IsAtOrBelow name part.name) → ⊥
  strange_above other none =
      let so = checks.is_so (line.Part part) there in none so.0 so.1 (above_by part.role other so.0 part.name so.2)

  pub strange_name : part.role ≡ role.Name → IsOfNone (λ name. SameName part.name name) → ⊥
  strange_name is none =
      let so = checks.is_so (line.Part part) there in
      let At : Role → Type 0 = λ each. IsNameFor so.0 each part.name in none so.0 so.1 (subst At is so.2)

  pub strange_wildcard : part.role ≡ role.Wildcard
      → IsOfNone (λ name. (above : Labels) × IsBelow name above × SameName part.name (wildcard_of above)) → ⊥
  strange_wildcard is none =
      let so = checks.is_so (line.Part part) there in
      let At : Role → Type 0 = λ each. IsNameFor so.0 each part.name in none so.0 so.1 (subst At is so.2)
