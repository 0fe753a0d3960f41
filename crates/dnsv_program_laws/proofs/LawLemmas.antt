-- Files have one text or one first fault.
pub mod Held
pub mod OneAnswer
pub mod OneCapture
pub mod OneCompact
pub mod OneFault
pub mod OneRequest
pub mod OneText
