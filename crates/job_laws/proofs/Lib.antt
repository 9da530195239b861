mod Replaying
mod Running
