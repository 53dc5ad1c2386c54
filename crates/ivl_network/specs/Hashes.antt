-- The hashes of a list of rules, and the lists that link those of one bucket.
--     bucket_of size hash      the bucket of a hash, of so many
--     IsLastIn hashes size bucket before place      one more than the index of the last of the first `before` hashes that is in the bucket, and 0 where none is
--     AreInBuckets count hashes      the first `count` are linked: for each bucket the last that is in it, and for each hash the one before in its bucket
--     AreHashLists hashes      all are
--     HasHashRoom hashes      there is room for one more, and a bucket
use Rattle.std.specs.Prelude.{◌≡◌, ◌≢◌, ◌<◌, ◌≤◌, ◌+◌, ◌%◌, ℕ, List, length, slice_index_or}
use Rattle.std.specs.Vec.{vec_capacity, vec_len}
use Rattle.ivl_network.specs.declared.network.hashes.Hashes.{Hashes}

abbrev pub bucket_of : ℕ → ℕ → ℕ
bucket_of size hash = hash % size

pub record IsLastIn (hashes : List ℕ) (size bucket before place : ℕ) : Type 0 where
  pub low : place ≤ before
  pub there : (k : ℕ) → place ≡ k + 1 → bucket_of size (slice_index_or hashes k 0) ≡ bucket
  pub none : (k : ℕ) → place ≤ k → k < before → bucket_of size (slice_index_or hashes k 0) ≢ bucket

pub record AreInBuckets (count : ℕ) (hashes befores heads : List ℕ) : Type 0 where
  pub as_many : length befores ≡ length hashes
  pub within : count ≤ length hashes
  pub some : 0 < count → 0 < length heads
  pub lasts : (b : ℕ) → b < length heads → IsLastIn hashes (length heads) b count (slice_index_or heads b 0)
  pub links : (k : ℕ) → k < count → IsLastIn hashes (length heads) (bucket_of (length heads) (slice_index_or hashes k 0)) k (slice_index_or befores k 0)

abbrev pub AreHashLists : Hashes → Type 0
AreHashLists h = AreInBuckets (length h.hashes.items) h.hashes.items h.links.items h.lasts.items

abbrev pub HasHashRoom : Hashes → Type 0
HasHashRoom h = (vec_len h.hashes < vec_capacity h.hashes) × (vec_len h.links < vec_capacity h.links) × (0 < length h.lasts.items)
