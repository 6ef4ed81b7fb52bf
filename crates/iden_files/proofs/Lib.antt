pub mod FormLaws
pub mod SectionLoop
pub mod FieldLoop
pub mod Append
pub mod ReadAgain
pub mod MeaningLaws
pub mod LimitLaws
