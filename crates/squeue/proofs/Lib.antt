pub use Rattle.perimeter_core.proofs.NextFeed
pub use Rattle.squeue_pool.proofs.Rows
pub use Rattle.squeue_pool.proofs.ActSums
pub use Rattle.squeue_pool.proofs.Named
