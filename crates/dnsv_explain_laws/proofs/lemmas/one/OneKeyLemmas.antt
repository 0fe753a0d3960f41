-- The keys in question are told in one list.
use Rattle.std.proofs.Common.{◌≡◌, ◌∙◌, ℕ, List, [], ◌∷◌, Option, Some, None, map, refl, sym, ap, subst}
use Rattle.std.specs.List.{Contains}
use Rattle.dnsv_canonical.proofs.CanonicalLemmas.{canonical_unique}
use Rattle.dnsv_chain.specs.Trusted.{IsKeyOf}
use Rattle.dnsv_derivations.proofs.lemmas.derivations.WayLemmas.SearchLemmas.{one_key}
use Rattle.dnsv_derivations.proofs.lemmas.intervals.MomentLemmas.{is_behind, is_first}
use Rattle.dnsv_derivations.specs.Following.{IsNamed}
use Rattle.dnsv_lines.specs.declared.line.derivation.KeyName.{KeyName}
use Rattle.dnsv_reasons.proofs.lemmas.questions.HeldLemmas.{same_number}
use Rattle.dnsv_canonical.specs.Rrsets.{ReceivedRrset}
use Rattle.dnsv_canonical.specs.declared.number.RecordNumber.{RecordNumber}
use Rattle.dnsv_verifier.specs.Admissible.{DnskeyRecord}
use Rattle.dnsv_derivations.specs.Explained.{Setting}
use Rattle.dnsv_derivations.specs.derivations.WaySearch.{AreKeysInOrder}
use Rattle.dnsv_keys_in_question.specs.KeyLines.{AreLinesOfKeysAsked, AreLinesOfSet, IsInQuestion, IsKeyLine, IsLowestDs, IsLowestOf, IsMatchedByAnchor, IsShownKey}
use Rattle.dnsv_derivations.specs.Listing.{AreOfNumbered}
use Rattle.dnsv_lines.specs.declared.line.Line.{Line}
use Rattle.dnsv_lines.specs.declared.line.Line.TheVariants as line
use Rattle.dnsv_lines.specs.declared.line.fault.key.ShownKey.{ShownKey}
use Rattle.dnsv_derivations.proofs.lemmas.OneListLemmas.{IsOneList, one_numbered, one_where}
use Rattle.dnsv_derivations.proofs.lemmas.one.StepLemmas.{even}

-- a key has one name
pub one_name : (key : DnskeyRecord) (a b : KeyName) → IsNamed key a → IsNamed key b → a ≡ b
one_name key a b x y =
    let tag : a.tag.0 ≡ b.tag.0 = x.tag ∙ sym y.tag in
    let algorithm : a.algorithm.0 ≡ b.algorithm.0 = x.algorithm ∙ sym y.algorithm in
    λ i. record { tag = record { 0 = tag i }; algorithm = record { 0 = algorithm i } }

abbrev AreKeysOf : ReceivedRrset → List DnskeyRecord → Type 0
AreKeysOf set keys = (key : DnskeyRecord) → Contains keys key → IsKeyOf set key

keys_behind : (set : ReceivedRrset) (key : DnskeyRecord) (keys : List DnskeyRecord) → AreKeysOf set (key ∷ keys) → AreKeysOf set keys
keys_behind set key keys all each there = all each (is_behind key keys each there)

same_list : (set : ReceivedRrset) (a b : List DnskeyRecord)
    → map (λ (key : DnskeyRecord). key.rdata) a ≡ map (λ (key : DnskeyRecord). key.rdata) b → AreKeysOf set a → AreKeysOf set b → a ≡ b
same_list set [] [] same x y = refl
same_list set [] (q ∷ b) same x y = cc
same_list set (p ∷ a) [] same x y = cc
same_list set (p ∷ a) (q ∷ b) same x y =
    let rdata : p.rdata ≡ q.rdata = cc in
    let rest : map (λ (key : DnskeyRecord). key.rdata) a ≡ map (λ (key : DnskeyRecord). key.rdata) b = cc in
    let head : p ≡ q = one_key set p q (x p (is_first p a)) (y q (is_first q b)) rdata in
    let tail : a ≡ b = same_list set a b rest (keys_behind set p a x) (keys_behind set q b y) in
    λ i. head i ∷ tail i

-- the keys of an RRset stand in one order
pub one_order : (set : ReceivedRrset) (a b : List DnskeyRecord) → AreKeysInOrder set a → AreKeysInOrder set b → a ≡ b
one_order set a b x y =
    let lists = canonical_unique set.rdata (map (λ (key : DnskeyRecord). key.rdata) a) (map (λ (key : DnskeyRecord). key.rdata) b) x.canonical y.canonical in
    same_list set a b lists x.each y.each

one_lowest : (Such : ℕ → Type 0) (a b : Option ℕ) → IsLowestOf Such a → IsLowestOf Such b → a ≡ b
one_lowest Such None None x y = refl
one_lowest Such None (Some n) x y = absurd (x n y.0)
one_lowest Such (Some m) None x y = absurd (y m x.0)
one_lowest Such (Some m) (Some n) x y = ap (λ (each : ℕ). Some each) (even m n (x.1 n y.0) (y.1 m x.0))

module _ (setting : Setting) where
  one_ds : (key : DnskeyRecord) (a b : Option RecordNumber) → IsLowestDs setting key a → IsLowestDs setting key b → a ≡ b
  one_ds key None None x y = refl
  one_ds key None (Some n) x y = absurd (x n y.0)
  one_ds key (Some m) None x y = absurd (y m x.0)
  one_ds key (Some m) (Some n) x y = ap (λ (each : RecordNumber). Some each) (same_number m n (y.1 m x.0) (x.1 n y.0))

  one_shown : (k place : ℕ) (set : ReceivedRrset) (key : DnskeyRecord) (a b : ShownKey) → IsShownKey setting k place set key a
      → IsShownKey setting k place set key b → a ≡ b
  one_shown k place set key a b x y =
      let zone : a.zone ≡ b.zone = x.zone ∙ sym y.zone in
      let number : a.number ≡ b.number = x.number ∙ sym y.number in
      let name : a.key ≡ b.key = one_name key a.key b.key x.named y.named in
      let flags : a.flags.0 ≡ b.flags.0 = x.flags ∙ sym y.flags in
      let signature : a.signature ≡ b.signature = one_lowest _ a.signature b.signature x.signature y.signature in
      let anchor : a.anchor ≡ b.anchor = one_lowest (IsMatchedByAnchor setting key) a.anchor b.anchor x.anchor y.anchor in
      let ds : a.ds ≡ b.ds = one_ds key a.ds b.ds x.ds y.ds in
      λ i. record {
        zone = zone i;
        number = number i;
        key = name i;
        flags = record { 0 = flags i };
        signature = signature i;
        anchor = anchor i;
        ds = ds i;
      }

  one_line : (k : ℕ) (set : ReceivedRrset) (place : ℕ) (key : DnskeyRecord) → IsOneList (IsKeyLine setting k set place key)
  one_line k set place key a b x y =
      x.2 ∙ ap (λ (shown : ShownKey). line.Key shown ∷ []) (one_shown k place set key x.0 y.0 x.1 y.1) ∙ sym y.2

  one_set : (reasons : List Line) (k : ℕ) (set : ReceivedRrset) → IsOneList (AreLinesOfSet setting reasons k set)
  one_set reasons k set a b x y =
      let Lines : List Line → Type 0 = λ lines. (keys : List DnskeyRecord) × AreKeysInOrder set keys
      × AreOfNumbered (IsKeyLine setting k set) 1 keys lines in
      one_where ((set.rtype ≡ 48) × IsInQuestion reasons set.owner) Lines
      (λ c d p q.
      let keys : p.0 ≡ q.0 = one_order set p.0 q.0 p.1 q.1 in
      let Of : List DnskeyRecord → Type 0 = λ each. AreOfNumbered (IsKeyLine setting k set) 1 each c in
      one_numbered (IsKeyLine setting k set) (one_line k set) 1 q.0 c d (subst Of keys p.2) q.2) a b x y

  pub one_keys_asked : (reasons : List Line) → IsOneList (AreLinesOfKeysAsked setting reasons)
  one_keys_asked reasons a b x y =
      one_numbered (AreLinesOfSet setting reasons) (one_set reasons) 1 setting.rrsets a b x y
