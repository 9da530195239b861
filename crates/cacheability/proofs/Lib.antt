pub mod Decimals
pub mod DigitSums
pub mod Digits
pub mod InOrder
pub mod Kept
pub mod Ranks
pub mod Texts
