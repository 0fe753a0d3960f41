use Rattle.std.proofs.Common.{List, sym, subst}
use Rattle.std.proofs.lemmas.Result.{IfOk-weaker}
use Rattle.std.specs.List.{Contains}
use Rattle.dnsv_verifier.specs.Admissible.{DnskeyRecord}
use Rattle.dnsv_verifier.specs.Asking.{MadeSignature}
use Rattle.dnsv_verifier.specs.Numbers.{PartLists, part_of_key}
use Rattle.dnsv_verifier.specs.declared.entry.parts.KeyPart.{KeyPart}
use Rattle.dnsv_verifier.specs.declared.entry.parts.SignaturePart.{SignaturePart}
use Rattle.dnsv_verifier.proofs.NumberLemmas.{contains_map}
use Rattle.dnsv_verifier.proofs.ask.parts_of.Goals as goal

pub returns-clause-keys : goal.returns-clause-keys
returns-clause-keys c =
    IfOk-weaker c.of.result
    (λ (parts : PartLists). (part : KeyPart) → Contains c.in_ok-keys.keys.items part → Contains parts.keys part)
    (λ (parts : PartLists). (key : DnskeyRecord) → Contains c.args.keys.now key → Contains parts.keys (part_of_key key))
    (λ parts all key found. all (part_of_key key)
    (subst (λ (keys : List KeyPart). Contains keys (part_of_key key)) (sym c.in_ok-keys.ensures) (contains_map part_of_key c.args.keys.now key found)))
    c.of.ensures.keys

pub returns-clause-made : goal.returns-clause-made
returns-clause-made c =
    IfOk-weaker c.of.result
    (λ (parts : PartLists). (part : SignaturePart) → Contains c.in_ok-signatures.signatures.items part → Contains parts.signatures part)
    (λ (parts : PartLists). (each : MadeSignature) → Contains c.args.made.now each → Contains parts.signatures each.part)
    (λ parts all each found. all each.part
    (subst (λ (signatures : List SignaturePart). Contains signatures each.part) (sym c.in_ok-signatures.ensures) (contains_map (λ (made : MadeSignature). made.part) c.args.made.now each found)))
    c.of.ensures.signatures
