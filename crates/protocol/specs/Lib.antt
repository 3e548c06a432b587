pub mod Vote
pub mod Member
pub mod Network
pub mod Stages
pub mod Programs
pub mod Promises
pub mod Worked
