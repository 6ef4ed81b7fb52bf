pub mod Answers
pub mod Binomial
pub mod Euclid
pub mod FieldLaws
pub mod Period
pub mod PowerSteps
pub mod PrimeLaws
pub mod ShiftLaws
