-- Laws of the sum that estimates a range (specs/Exact.antt): which of its forms a bucketlet and a bucket give.
-- Assumes nothing.
use mathlib.Core.Path.{◌≡◌, ap}
use mathlib.Core.Bool.{Bool, true, false, cond}
use mathlib.Core.List.{List}
use Prim.Native.Nat.{ℕ, ◌+◌, ◌*◌, ◌≤◌, ◌<◌}
use native.Mathlib.Omega.{arith}
use borrow.Author.Tests.{leb-true, eq-eqb, ne_eqb}
use lib.Dec.{leb}
use Rattle.laws.proofs.Tests.{both_left, both_right}
use Rattle.counts_rules.specs.Total.{total_number}
use Rattle.words_rules.specs.Words.{start, end}
use Rattle.words_rules.specs.Decoded.{bucket_at}
use Rattle.estimate_rules.specs.Fraction.{number, nothing, quotient, sum_of}
use Rattle.estimate_rules.specs.Exact.{inside, overlap, piece, bucketlet_piece, bucket_piece}

pub inside_says : (x y a e : ℕ) → inside x y a e ≡ true → (x ≤ a) × (e ≤ y)
inside_says x y a e t = (leb-true x a (both_left (leb x a) (leb e y) t), leb-true e y (both_right (leb x a) (leb e y) t))

module _ (x y a w s : ℕ) where
  pub piece_none : overlap x y a (a + w) ≡ 0 → piece x y a w s ≡ nothing
  unfolding piece
  piece_none z = simp (eq-eqb (overlap x y a (a + w)) 0 z)

  pub piece_whole : 0 < overlap x y a (a + w) → inside x y a (a + w) ≡ true → piece x y a w s ≡ number s
  unfolding piece
  piece_whole p t = simp (ne_eqb (overlap x y a (a + w)) 0 (λ z. omega arith), t)

  pub piece_cut : 0 < overlap x y a (a + w) → inside x y a (a + w) ≡ false → piece x y a w s ≡ quotient (overlap x y a (a + w) * s) w
  unfolding piece
  piece_cut p t = simp (ne_eqb (overlap x y a (a + w)) 0 (λ z. omega arith), t)

module _ (ws : List ℕ) (x y b : ℕ) where
  pub bucket_whole : inside x y (start ws b) (end ws b) ≡ true → bucket_piece ws x y b ≡ number (total_number (bucket_at ws b).total)
  unfolding bucket_piece
  bucket_whole t = ap (λ (h : Bool). cond h (number (total_number (bucket_at ws b).total)) (sum_of 8 (bucketlet_piece x y (bucket_at ws b)))) t

  pub bucket_parts : inside x y (start ws b) (end ws b) ≡ false → bucket_piece ws x y b ≡ sum_of 8 (bucketlet_piece x y (bucket_at ws b))
  unfolding bucket_piece
  bucket_parts t = ap (λ (h : Bool). cond h (number (total_number (bucket_at ws b).total)) (sum_of 8 (bucketlet_piece x y (bucket_at ws b)))) t
