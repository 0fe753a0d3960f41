-- How a line of a file of keys is read. No public clause cites this module.
use Rattle.std.specs.Prelude.{ℕ, List, [], ◌∷◌}
use Rattle.dnsv_names.specs.Lines.Base64Field.{IsBase64}
use Rattle.dnsv_names.specs.Name.{Labels, IsName}
use Rattle.dnsv_names.specs.Text.{IsTextOf}
use Rattle.dnsv_names.specs.Lines.{AreFields}

-- the line is that of a key with this name, whose octets the second field has in base64
pub record IsKeyText (line : List ℕ) (name : Labels) (coded : List ℕ) : Type 0 where
  pub text : List ℕ
  pub fields : AreFields line (text ∷ coded ∷ [])
  pub is_name : IsName name
  pub spells : IsTextOf text name
  pub is : IsBase64 coded
