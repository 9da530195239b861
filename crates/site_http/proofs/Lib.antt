pub mod Asks
pub mod Fixed
pub mod Stories
mod Kept
mod Parts
mod Made
mod Again
mod Alone
mod Knowing
pub mod Grow
mod Progress
mod Ends
mod Longer
mod Failing
mod Working
mod Lately
mod Turning
