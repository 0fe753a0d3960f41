-- From which name on a question may be unsigned.
pub mod CutMeaning
pub mod Cuts
pub mod Findings
pub mod ShownCut
pub mod ShownCuts
