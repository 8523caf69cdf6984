pub mod Empty
pub mod Histories
pub mod Rising
