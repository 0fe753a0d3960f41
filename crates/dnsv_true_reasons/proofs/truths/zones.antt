pub mod Answered
pub mod KeyTruth
pub mod RrsetTruth
pub mod SignatureTruth
pub mod TrueTold
pub mod VoucherTruth
pub mod ZoneTruth
