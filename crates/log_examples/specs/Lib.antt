pub mod Logs
pub mod WrongLogs
pub mod FaultLogs
pub mod ReleaseLogs
pub mod SeveralResults
pub mod SeveralScripts
