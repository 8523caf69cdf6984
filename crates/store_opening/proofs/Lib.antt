mod InOrder
mod KeptAgain
mod OpeningRead
mod Restoring
