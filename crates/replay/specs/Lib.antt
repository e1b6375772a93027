pub mod Budget
pub mod Replay
pub mod Rounds
