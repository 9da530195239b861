pub mod Doors
pub mod Told
pub mod Reached
pub mod Memory
pub mod Series
pub mod Adapters
pub mod Chance
pub mod MemoryDoors
