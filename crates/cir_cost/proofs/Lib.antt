pub mod Adding
mod Trees
mod Seeing
mod Cells
mod Distinct
