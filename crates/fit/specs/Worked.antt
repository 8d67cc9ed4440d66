-- Ranges, bucketlets and histograms on both sides of each bound, which tell the natural missteps apart.
-- Assumes nothing.
use Rattle.std.specs.Prelude.{◌≡◌, true, false, [], ◌∷◌, ◌+◌, ◌*◌, ◌^◌, set}
use Rattle.words_rules.specs.Worked.{tens}
use Rattle.list_rules.specs.Quality.{quality}
use Rattle.fit.specs.Fit.{near, fits, bucketlet_fits}
use Rattle.fit.specs.Accepted.{total_good, accepted}

pub record Worked : Type 0 where
  -- a factor of 3/2 itself is near, either way, and a little more is not
  pub near_edges : near (quality 5 3 2) 3 2 1 ∷ near (quality 5 3 2) 2 3 1 ∷ near (quality 5 3 2) 31 20 1 ∷ near (quality 5 3 2) 20 31 1 ∷ [] ≡ true ∷ true ∷ false ∷ false ∷ []
  -- with theta 5: a count of 5 and one of 6 with the estimate 1/2, the estimates 5 and 11/2 of a count of 1
  pub theta_edges : fits (quality 5 3 2) 5 1 2 ∷ fits (quality 5 3 2) 6 1 2 ∷ fits (quality 5 3 2) 1 10 2 ∷ fits (quality 5 3 2) 1 11 2 ∷ [] ≡ true ∷ false ∷ true ∷ false ∷ []
  -- theta does not excuse a whole bucketlet: 2, 2 as 17
  pub whole : bucketlet_fits (quality 100 3 2) (2 ∷ 2 ∷ []) 0 2 17 ∷ bucketlet_fits (quality 100 3 2) (2 ∷ 2 ∷ []) 0 2 4 ∷ [] ≡ false ∷ true ∷ []
  -- nor a range inside that is above it: of 1, 100 as 93 the second is 100 and estimated at 46 1/2
  pub inside : bucketlet_fits (quality 99 3 2) (1 ∷ 100 ∷ []) 0 2 93 ∷ bucketlet_fits (quality 100 3 2) (1 ∷ 100 ∷ []) 0 2 93 ∷ [] ≡ false ∷ true ∷ []
  -- a total is held to q whatever theta is: 4 as 9, and as 6
  pub totals : total_good (quality 100 3 2) 4 288 ∷ total_good (quality 100 3 2) 4 192 ∷ [] ≡ false ∷ true ∷ []
  -- 0 is near 0 alone, and so is the estimate 0, which is not raised to 1 here
  pub near_0 : near (quality 5 3 2) 0 0 3 ∷ near (quality 5 3 2) 0 1 3 ∷ near (quality 5 3 2) 1 0 3 ∷ [] ≡ true ∷ false ∷ false ∷ []
  -- zeros as 0 and as 1, a 1 among them as 0, and zeros beside 5 that theta excuses
  pub zeros :
      bucketlet_fits (quality 5 3 2) (0 ∷ 0 ∷ 0 ∷ []) 0 3 0 ∷ bucketlet_fits (quality 5 3 2) (0 ∷ 0 ∷ 0 ∷ []) 0 3 1
      ∷ bucketlet_fits (quality 5 3 2) (0 ∷ 1 ∷ 0 ∷ []) 0 3 0 ∷ bucketlet_fits (quality 5 3 2) (0 ∷ 5 ∷ 0 ∷ []) 0 3 4 ∷ []
      ≡ true ∷ false ∷ false ∷ true ∷ []
  -- words that fit are accepted with q 8/1, and not with q 9/1
  pub q_most :
      accepted (10 ∷ 10 ∷ 10 ∷ 10 ∷ []) (set tens 2 (8 * 2 ^ 10 + 1)) ∷ accepted (10 ∷ 10 ∷ 10 ∷ 10 ∷ []) (set tens 2 (9 * 2 ^ 10 + 1)) ∷ []
      ≡ true ∷ false ∷ []
