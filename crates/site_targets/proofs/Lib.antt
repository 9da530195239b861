pub mod Sure
pub mod PageStatuses
pub mod EveryPage
pub mod OnceEach
pub mod Meaning
pub mod ByKinds
pub mod PlainTargets
pub mod Passing
