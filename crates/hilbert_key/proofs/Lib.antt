pub mod ValueSteps
pub mod Order
pub mod Stretch
