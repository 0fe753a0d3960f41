use Rattle.dnsv_message.proofs.MemoryLemmas.{not_memory}
use Rattle.dnsv_message.proofs.laws.no_fault_of_memory.Goals as goal

pub returns : goal.returns
returns c = not_memory
