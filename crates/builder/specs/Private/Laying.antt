-- The words of the private contracts that lay out buckets.
-- Assumes nothing.
use Rattle.std.specs.Prelude.{List, ℕ, ◌+◌}
use Rattle.laws.specs.Sums.{sum}
use Rattle.list_rules.specs.declared.Quality.{Quality}
use Rattle.build_rules.specs.Bucket.{bucket_widths, bucket_from}
use Rattle.builder.specs.declared.bucket.Placed.{Placed}

-- the bucket, and where the next one starts
abbrev pub placed : Quality → List ℕ → ℕ → ℕ → Placed
placed q fs end a = record { bucket = bucket_from q fs end a; next = a + sum (bucket_widths q fs end a) }
