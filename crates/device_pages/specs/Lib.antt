pub mod Asked
pub mod Claims
pub mod Laws
pub mod Lending
pub mod Lent
pub mod LentPlaces
pub mod ReadsMade
