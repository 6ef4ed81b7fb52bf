pub mod Views
pub mod Shows
pub mod Rule
pub mod Plays
pub mod Closed
pub mod Seats
pub mod Events
