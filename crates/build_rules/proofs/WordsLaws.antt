-- Laws of the buckets of a stretch and of their words: one bucket more, none at the end, and how many words a bucket has.
-- Assumes nothing.
use mathlib.Core.Path.{◌≡◌, refl, ap, ◌∙◌}
use mathlib.Core.Bool.{Bool, cond}
use mathlib.Core.List.{List, [], ◌∷◌}
use Prim.Native.Nat.{ℕ, zero, suc, ◌+◌, ◌*◌, ◌≤◌, ◌<◌}
use native.Mathlib.Omega.{arith}
use borrow.Author.Tests.{lt-ltb, le-ltb}
use lib.ListN.{length, length-append}
use Rattle.laws.specs.Sums.{sum}
use Rattle.words_rules.specs.declared.Bucket.{Bucket}
use Rattle.words_rules.specs.Decoded.{encode}
use Rattle.words_rules.specs.Words.{bucket_words}
use Rattle.list_rules.specs.declared.Quality.{Quality}
use Rattle.build_rules.specs.Bucket.{bucket_widths, bucket_from}
use Rattle.build_rules.specs.Words.{buckets_from, bucket_words_of}

pub encode_length : (r : Bucket) → length (encode r) ≡ bucket_words
unfolding encode
encode_length r = refl

pub words_length : (rs : List Bucket) → length (bucket_words_of rs) ≡ bucket_words * length rs
unfolding bucket_words_of
words_length [] = refl
words_length (r ∷ rs) = length-append (encode r) (bucket_words_of rs) ∙ (let h = words_length rs in let e = encode_length r in omega arith)

module _ (q : Quality) (fs : List ℕ) (end : ℕ) where
  pub buckets_more : (n a : ℕ) → a < end
      → buckets_from (suc n) q fs end a ≡ bucket_from q fs end a ∷ buckets_from n q fs end (a + sum (bucket_widths q fs end a))
  unfolding buckets_from bucket_from
  buckets_more n a h =
      ap (λ (t : Bool). cond t (bucket_from q fs end a ∷ buckets_from n q fs end (a + sum (bucket_widths q fs end a))) []) (lt-ltb a end h)

  pub buckets_done : (n a : ℕ) → end ≤ a → buckets_from n q fs end a ≡ []
  unfolding buckets_from
  buckets_done zero a h = refl
  buckets_done (suc n) a h =
      ap (λ (t : Bool). cond t (bucket_from q fs end a ∷ buckets_from n q fs end (a + sum (bucket_from q fs end a).widths)) []) (le-ltb a end h)
