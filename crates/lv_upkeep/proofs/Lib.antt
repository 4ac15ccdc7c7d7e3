pub mod Chains
pub mod Candidates
pub mod Points
pub mod Made
pub mod Told
