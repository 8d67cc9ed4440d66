-- What the loop that halves keeps, and that each of its two turns keeps it.
-- Assumes nothing.
use Rattle.std.proofs.Common.{◌≡◌, Bool, ℕ, ◌+◌, ◌-◌, ◌/◌, ◌<◌, ◌≤◌, List, ap, arith}
use Rattle.std.specs.Prelude.{leb}
use borrow.Author.Tests.{le-leb, lt-leb}
use Rattle.laws.specs.Search.{halved}
use Rattle.laws.proofs.SearchLaws.{Halving, halve_up, halve_down}
use Rattle.words_rules.specs.Words.{buckets, start}
use Rattle.words_rules.specs.Finding.{bucket_by_halving}

-- a bucket does not start after an entry
abbrev pub NotAfter : List ℕ → ℕ → ℕ → Bool
NotAfter ws e b = leb (start ws b) e

pub record Between (ws : List ℕ) (e low high : ℕ) : Type 0 where
  pub apart : low ≤ high
  pub within : high ≤ buckets ws
  pub halving : Halving (NotAfter ws e) (bucket_by_halving ws e) low high

-- before the first turn
pub all_between : (ws : List ℕ) (e high : ℕ) → high ≡ buckets ws → Between ws e 0 high
unfolding bucket_by_halving
all_between ws e high h =
    record {
      apart = omega arith;
      within = omega arith;
      halving = record { turns = buckets ws; enough = omega arith; comes = ap (halved (NotAfter ws e) (buckets ws) 0) h };
    }

pub turn_up : (ws : List ℕ) (e low high m : ℕ) → Between ws e low high → low + 1 < high → m ≡ low + (high - low) / 2 → start ws m ≤ e → Between ws e m high
turn_up ws e low high m b l q s =
    let w = b.within in
    record {
      apart = omega arith;
      within = omega arith;
      halving = halve_up (NotAfter ws e) _ low high m l q (le-leb (start ws m) e s) b.halving;
    }

pub turn_down : (ws : List ℕ) (e low high m : ℕ) → Between ws e low high → low + 1 < high → m ≡ low + (high - low) / 2 → e < start ws m → Between ws e low m
turn_down ws e low high m b l q s =
    let w = b.within in
    record {
      apart = omega arith;
      within = omega arith;
      halving = halve_down (NotAfter ws e) _ low high m l q (lt-leb (start ws m) e s) b.halving;
    }
