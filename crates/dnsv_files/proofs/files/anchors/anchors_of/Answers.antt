use Rattle.dnsv_anchors.specs.AnchorFile.{BeginsWithAnchor, IsFaultOf}
use Rattle.dnsv_anchors.specs.declared.anchors.AnchorsError.TheVariants.{OutOfMemory}
use Rattle.dnsv_files.specs.Files.Anchors.{TellsAnchorsError}
use Rattle.dnsv_files.proofs.FileLemmas.Anchors.{every_anchors_fault, refused_text, wanted_for_anchors}
use Rattle.dnsv_files.proofs.FileLemmas.Text.{never_told}
use Rattle.dnsv_files.proofs.files.anchors.anchors_of.Goals as goal

pub returns-in-Err-clause-fault : goal.returns-in-Err-clause-fault
returns-in-Err-clause-fault c = refused_text c.args.text.now c.in-Err.error c.anchors_fault.result c.in-Err.ensures.fault c.anchors_fault.ensures.told

pub returns-in-Err-clause-every_fault : goal.returns-in-Err-clause-every_fault
returns-in-Err-clause-every_fault c =
    every_anchors_fault c.args.text.now c.in-Err.error c.anchors_fault.result c.anchors_fault.ensures.told c.in-Err.ensures.every_fault

pub returns-in-Ok-clause-every_fault : goal.returns-in-Ok-clause-every_fault
returns-in-Ok-clause-every_fault c =
    never_told (IsFaultOf c.args.text.now) TellsAnchorsError (BeginsWithAnchor c.args.text.now) OutOfMemory c.in-Ok.anchors c.in-Ok.anchors c.in-Ok.ensures.every_fault

pub returns-in-Err-clause-memory : goal.returns-in-Err-clause-memory
returns-in-Err-clause-memory c = wanted_for_anchors c.args.text.now c.in-Err.error c.anchors_fault.result c.anchors_fault.ensures.told c.in-Err.ensures.memory
