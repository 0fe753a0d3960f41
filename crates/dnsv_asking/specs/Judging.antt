-- A case that questions are judged by. No public clause cites this module.
use Rattle.std.specs.Prelude.{Bool, true, false}
use Rattle.dnsv_chain.specs.Basis.{CaseContents}
use Rattle.dnsv_asking.specs.declared.judging.Judging.{Judging}
use Rattle.dnsv_asking.specs.declared.judging.Judging.TheVariants as judge

abbrev pub case_of : Judging → CaseContents
case_of (judge.Plain case) = case
case_of (judge.Telling case) = case

-- whether it tells why verdicts stand
abbrev pub tells_why : Judging → Bool
tells_why (judge.Plain case) = false
tells_why (judge.Telling case) = true
