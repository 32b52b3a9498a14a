pub mod GrantExact
pub mod GrantForEver
pub mod GrantJobs
pub mod GrantLiteral
pub mod GrantMoved
pub mod GrantPatterns
pub mod GrantRefusals
pub mod GrantWindows
