mod Lengths
mod Passing
mod Refusals
mod Typed
