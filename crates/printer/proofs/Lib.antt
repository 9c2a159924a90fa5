mod Fronts
mod Digits
mod Operands
mod Names
mod Lines
mod Back
