-- What carries a verdict, as members of JSON.
use Rattle.std.proofs.Common.{◌≡◌, Bool, true, false, not, List, Option, Some, None, refl}
use Rattle.std.specs.Option.{option_map}
use Rattle.std.specs.Prelude.{is_none, is_some}
use Rattle.dnsv_canonical.specs.Rrsets.{ReceivedRrset}
use Rattle.dnsv_verdict.specs.declared.verdict.Verdict.{Verdict}
use Rattle.dnsv_verdict.specs.declared.verdict.Verdict.TheVariants as verdict
use Rattle.dnsv_texts.specs.Checking.{reason_members, reason_text}
use Rattle.dnsv_lines.specs.Json.{parted}
use Rattle.dnsv_questions.specs.declared.format.Format.TheVariants.{Json}

-- what is added in JSON for what carries the verdict are the members for it, behind others
pub members_are : (rrsets : List ReceivedRrset) (verdict : Verdict) (whole : Bool) → reason_text Json rrsets verdict whole ≡ parted false (reason_members rrsets verdict whole)
members_are rrsets verdict.Bogus whole = refl
members_are rrsets other whole = refl

-- what is seen in another way is there just as before
pub still_some : {X Y : Type 0} (f : X → Y) (o : Option X) → is_some (option_map f o) ≡ is_some o
still_some f None = refl
still_some f (Some x) = refl

-- so is what is said not to be there
pub none_where : {X Y : Type 0} (f : X → Y) (o : Option X) (none : Bool) → is_some o ≡ not none → none ≡ is_none (option_map f o)
none_where f None true is = refl
none_where f None false is = cc
none_where f (Some x) true is = cc
none_where f (Some x) false is = refl
