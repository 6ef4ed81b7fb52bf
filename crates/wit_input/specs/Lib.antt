pub mod Document
pub mod Numbers
pub mod Values
pub mod Input
pub mod Publics
pub mod Names
