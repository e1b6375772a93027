pub mod EachItem
pub mod RoomLeft
pub mod Held
pub mod OwnFinal
pub mod FirstJobs
pub mod WholeExchange
