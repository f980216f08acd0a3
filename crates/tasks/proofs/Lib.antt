pub mod Agreeing
pub mod Made
pub mod Masking
pub mod PoolLaws
pub mod Writing
