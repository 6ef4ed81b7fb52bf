pub mod Loop
pub mod ReadBack
