mod Finding
mod Meaning
mod Turning
mod Walking
