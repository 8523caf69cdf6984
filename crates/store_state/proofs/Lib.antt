mod Apart
mod Begun
mod Keeping
mod Lent
mod Taking
