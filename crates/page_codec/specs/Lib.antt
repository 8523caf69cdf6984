pub mod Adding
pub mod Laws
pub mod Page
pub mod Written
