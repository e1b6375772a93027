pub mod Cache
pub mod Past
pub mod Places
pub mod Sessions
pub mod Store
