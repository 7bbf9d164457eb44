pub mod History
pub mod Ledger
pub mod Queues
