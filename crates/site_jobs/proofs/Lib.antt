mod Keeping
mod Refusing
