-- What runs that came of events owe is paid: passed on to the crates above.
pub use Rattle.owed_laws.proofs.Paid.{reached_goes_on, reached_pays}
