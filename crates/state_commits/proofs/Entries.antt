-- What a write to a map in order does to what is found there, to the order, and to what is gathered along it.
pub use Rattle.bucket_map.proofs.Entries.{taken, passed, same_or_not, below_apart, found_put_same, found_put_other, found_cut_same, found_cut_other, ordered_put, ordered_cut, gathered_put, gathered_cut, GivesNone}
