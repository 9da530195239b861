mod Replaying
mod Causes
mod Loading
mod Parsing
mod Servings
