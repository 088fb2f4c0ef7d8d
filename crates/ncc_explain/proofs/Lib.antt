mod Added
mod Fronts
mod Told
mod Twice
