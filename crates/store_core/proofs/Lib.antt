mod Answering
mod Found
mod Regions
mod Tested
mod WorkEvents
mod WriteEvents
