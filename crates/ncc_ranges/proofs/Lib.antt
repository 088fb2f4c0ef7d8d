mod Longest
mod RunPlaces
mod Stepping
mod AxesBySteps
mod Finding
mod FromFiles
