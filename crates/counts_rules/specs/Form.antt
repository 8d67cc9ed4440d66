-- A form of buckets: what its classes are, how wide they are in a word, how many words a bucket has, and the least q (document 01, "How counts
-- are written small", "Words" and "The list and the range"). There is one form; what a second one takes is said in docs/DECISIONS.md.
-- Assumes nothing.
use Rattle.std.specs.Prelude.{Bool, not, ◌&&◌, ℕ, ltb, eqb}

-- a base num / den, above 1
pub record Base : Type 0 where
  pub num : ℕ
  pub den : ℕ

pub record Form : Type 0 where
  -- the base of its classes
  pub base : Base
  -- the first class that begins above the limit of counts
  pub class_end : ℕ
  -- a class below it that holds no whole number
  pub is_void : ℕ → Bool
  pub class_bits : ℕ
  pub bucket_words : ℕ
  -- the least q is least_qn / least_qd
  pub least_qn : ℕ
  pub least_qd : ℕ

abbrev pub form : Form
form =
    record {
      base = record { num = 7; den = 5 };
      class_end = 63;
      is_void = λ c. eqb c 2;
      class_bits = 6;
      bucket_words = 5;
      least_qn = 5;
      least_qd = 4;
    }

abbrev pub base : Base
base = form.base

-- a class that counts have; 0 is that of 0
abbrev pub used_class : ℕ → Bool
used_class c = ltb c form.class_end && not (form.is_void c)
