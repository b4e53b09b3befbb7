pub mod Unheld
mod SquareLog
mod TrapLog
mod PassingLog
mod Wrong
mod UnretriedLog
mod RetriedLog
mod PutLostLog
mod OwnerDiedLog
mod ReleasingLog
mod SeveralResults
