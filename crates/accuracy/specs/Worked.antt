-- Accepted histograms that show what the factor needs, with q 5/4: a smaller factor, or a smaller multiple of theta, would not hold. And
-- words that no longer occur. Histograms of the builder that show the same of the sharper factor, and an accepted one that does not keep to it.
-- Assumes nothing.
use Rattle.std.specs.Prelude.{◌≡◌, true, false, List, [], ◌∷◌, ◌++◌, ℕ, ◌+◌, ◌-◌, ◌*◌, leb, ltb}
use Rattle.words_rules.specs.Worked.{zeros}
use Rattle.list_rules.specs.Quality.{quality}
use Rattle.fit.specs.Accepted.{accepted}
use Rattle.build_rules.specs.Words.{words}
use Rattle.laws.specs.Reply.{answered}
use Rattle.estimate_rules.specs.Search.{search_reply}
use Rattle.accuracy.specs.Claims.{count, answer, count_of, answer_of, Distance, Rule, ShorterRule}
use Rattle.accuracy.specs.Sharper.{sharp_factor, numbers_factor, SharperRule, Sharp}

-- a number between two spikes, each in a bucketlet of 9 entries that stands for 93; theta is 98, which excuses a spike
abbrev pub spikes : ℕ → List ℕ
spikes n = 1 ∷ 1 ∷ 1 ∷ 1 ∷ 1 ∷ 1 ∷ 1 ∷ 1 ∷ 90 ∷ n ∷ 90 ∷ 1 ∷ 1 ∷ 1 ∷ 1 ∷ 1 ∷ 1 ∷ 1 ∷ 1 ∷ []

-- 116 stands as 93
abbrev pub large : List ℕ
large = 19 ∷ 98 ∷ 0x1404 ∷ 1 ∷ 0x40000209 ∷ 0x8E38E000 ∷ 0x800009C2 ∷ 0xC0041200 ∷ 0xC0000000 ∷ []

-- 17 stands as 17
abbrev pub small : List ℕ
small = 19 ∷ 98 ∷ 0x1404 ∷ 1 ∷ 0x40000209 ∷ 0x8E24E000 ∷ 0x80000D41 ∷ 0xC0041200 ∷ 0xC0000000 ∷ []

-- 116 and 1 with theta 1, as 93 and 1
abbrev pub alone : List ℕ
alone = 2 ∷ 1 ∷ 0x1404 ∷ 1 ∷ 0x40000201 ∷ 0x8E040000 ∷ 0x80000EA0 ∷ 0xC0040000 ∷ 0xC0000000 ∷ []

-- 98, 0, 0, 98, each half in a bucketlet that stands for 93, with theta 50 and q 3
abbrev pub outer : List ℕ
outer = 4 ∷ 50 ∷ 0xC01 ∷ 1 ∷ 0x40000202 ∷ 0x8E380000 ∷ 0x80000C41 ∷ 0xC0080000 ∷ 0xC0000000 ∷ []

-- ---- the same of two ranges

abbrev pub two_ranges : List ℕ
two_ranges = 8 ∷ 11 ∷ 27 ∷ 30 ∷ []

-- spikes 116 twice, one after the other
abbrev pub large_twice : List ℕ
large_twice = 38 ∷ 98 ∷ 0x1404 ∷ 1 ∷ 0x40000209 ∷ 0x8E38E38E ∷ 0x8E0009C3 ∷ 0xC0041209 ∷ 0xC0041200 ∷ []

-- 1 between two higher spikes among words that no longer occur, and such a list twice
abbrev pub bare : List ℕ
bare = 0 ∷ 0 ∷ 0 ∷ 0 ∷ 0 ∷ 0 ∷ 0 ∷ 0 ∷ 98 ∷ 1 ∷ 98 ∷ 0 ∷ 0 ∷ 0 ∷ 0 ∷ 0 ∷ 0 ∷ 0 ∷ 0 ∷ []

abbrev pub bare_twice : List ℕ
bare_twice = 38 ∷ 98 ∷ 0x1404 ∷ 1 ∷ 0x40000209 ∷ 0x8E04E381 ∷ 0x8E000C42 ∷ 0xC0041209 ∷ 0xC0041200 ∷ []

-- 116 twice with theta 1
abbrev pub alone_twice : List ℕ
alone_twice = 2 ∷ 1 ∷ 0x1404 ∷ 1 ∷ 0x40000201 ∷ 0x8E380000 ∷ 0x80000E81 ∷ 0xC0040000 ∷ 0xC0000000 ∷ []

-- ---- what the builder makes (request vi)

-- 8 and 2 with theta 1 and q 2: one bucketlet that stands for 8, of which each is 4
abbrev pub halved : List ℕ
halved = 2 ∷ 1 ∷ 0x801 ∷ 1 ∷ 0x40000202 ∷ 0x87000000 ∷ 0x80000140 ∷ 0xC0000000 ∷ 0xC0000000 ∷ []

-- spikes 116 with theta 98 and q 5/4: 116 stands as 131
abbrev pub spiked : List ℕ
spiked = 19 ∷ 98 ∷ 0x1404 ∷ 1 ∷ 0x40000209 ∷ 0x8E3CE000 ∷ 0x800009C2 ∷ 0xC0041200 ∷ 0xC0000000 ∷ []

-- 2, 0, 4, 12 with theta 1 and q 17/8: two bucketlets that stand for 2 and 17
abbrev pub rounding : List ℕ
rounding = 4 ∷ 1 ∷ 0x4408 ∷ 1 ∷ 0x40000202 ∷ 0x83240000 ∷ 0x80000240 ∷ 0xC0080000 ∷ 0xC0000000 ∷ []

-- whole bucketlets that count 10, 5, 10, 5 and 10, between two 2s among words that no longer occur
abbrev pub tens_and_fives : List ℕ
tens_and_fives = 0 ∷ 0 ∷ 0 ∷ 2 ∷ 10 ∷ 5 ∷ 10 ∷ 5 ∷ 10 ∷ 2 ∷ 0 ∷ 0 ∷ 0 ∷ []

-- with theta 2, which excuses a 2, and q 5/4: each 10 as 8, each 5 as 4, and each 2 in a bucketlet of four entries
abbrev pub eights_and_fours : List ℕ
eights_and_fours = 13 ∷ 2 ∷ 0x1404 ∷ 1 ∷ 0x40000204 ∷ 0x831C51C5 ∷ 0x870C0580 ∷ 0xC0040201 ∷ 0xC0040204 ∷ []

-- 1 and 1 between two 7s among words that no longer occur
abbrev pub sevens : List ℕ
sevens = 0 ∷ 0 ∷ 0 ∷ 0 ∷ 0 ∷ 7 ∷ 1 ∷ 1 ∷ 7 ∷ 0 ∷ 0 ∷ 0 ∷ 0 ∷ 0 ∷ []

-- with theta 7, which excuses a 7, and q 5/4: each 7 in a bucketlet of six entries that stands for 6, and both 1s in one
abbrev pub sixths : List ℕ
sixths = 14 ∷ 7 ∷ 0x1404 ∷ 1 ∷ 0x40000206 ∷ 0x860C6000 ∷ 0x80000200 ∷ 0xC0080C00 ∷ 0xC0000000 ∷ []

-- 6 between two 5s, with theta 5 and q 2, not as the builder makes it: each 5 in a bucketlet of 6 entries and the 6 alone, all three as 3
abbrev pub six : List ℕ
six = 0 ∷ 0 ∷ 0 ∷ 0 ∷ 0 ∷ 5 ∷ 6 ∷ 5 ∷ 0 ∷ 0 ∷ 0 ∷ 0 ∷ 0 ∷ []

abbrev pub threes : List ℕ
threes = 13 ∷ 5 ∷ 0x801 ∷ 1 ∷ 0x40000206 ∷ 0x84104000 ∷ 0x80000200 ∷ 0xC0040C00 ∷ 0xC0000000 ∷ []

pub record Worked : Type 0 where
  pub all_accepted : accepted (spikes 116) large ∷ accepted (spikes 17) small ∷ accepted (116 ∷ 1 ∷ []) alone ∷ [] ≡ true ∷ true ∷ true ∷ []
  pub counts : count (spikes 116) 8 11 ∷ count (spikes 17) 8 11 ∷ count (116 ∷ 1 ∷ []) 0 1 ∷ [] ≡ 296 ∷ 197 ∷ 116 ∷ []
  pub answers : answer large 8 11 ∷ answer small 8 11 ∷ answer alone 0 1 ∷ [] ≡ 114 ∷ 38 ∷ 93 ∷ []
  -- k 3: 296 is above 3 theta; it is within q times k/(k - 2) of 114, and not within q times k/(k - 1)
  pub two_cuts : ltb (3 * 98) 296 ∷ leb (4 * (3 - 2) * 296) (5 * 3 * 114) ∷ leb (4 * (3 - 1) * 296) (5 * 3 * 114) ∷ [] ≡ true ∷ true ∷ false ∷ []
  -- k 3: 197 is above 2 theta and not above 3 theta; it is not within q times k/(k - 2) of 38
  pub below_theta : ltb (2 * 98) 197 ∷ ltb (3 * 98) 197 ∷ leb (4 * (3 - 2) * 197) (5 * 3 * 38) ∷ [] ≡ true ∷ false ∷ false ∷ []
  -- k 100: 116 is above 100 theta; it is within q times k/(k - 2) of 93, and not within k/(k - 2)
  pub needs_q : ltb (100 * 1) 116 ∷ leb (4 * (100 - 2) * 116) (5 * 100 * 93) ∷ leb ((100 - 2) * 116) (100 * 93) ∷ [] ≡ true ∷ true ∷ false ∷ []
  -- between the two 98 nothing is counted and 93 answered
  pub outer_accepted : accepted (98 ∷ 0 ∷ 0 ∷ 98 ∷ []) outer ≡ true
  pub outer_answered : count (98 ∷ 0 ∷ 0 ∷ 98 ∷ []) 1 3 ∷ answer outer 1 3 ∷ [] ≡ 0 ∷ 93 ∷ []
  -- so one theta is too little of a distance, on either side
  pub distances : Distance 98 5 4 197 38 × Distance 50 3 1 0 93
  pub one_theta : leb (4 * 197) (5 * 38 + 4 * 98) ∷ leb (1 * 93) (3 * 0 + 1 * 50) ∷ [] ≡ false ∷ false ∷ []
  -- of words that no longer occur, whole and cut, the count is 0 and the answer 1
  pub zeros_accepted : accepted (0 ∷ 0 ∷ 0 ∷ []) zeros ≡ true
  pub zeros_answered : count (0 ∷ 0 ∷ 0 ∷ []) 0 3 ∷ answer zeros 0 3 ∷ count (0 ∷ 0 ∷ 0 ∷ []) 1 2 ∷ answer zeros 1 2 ∷ [] ≡ 0 ∷ 1 ∷ 0 ∷ 1 ∷ []

pub record WorkedTwo : Type 0 where
  pub all_accepted :
      accepted (spikes 116 ++ spikes 116) large_twice ∷ accepted (bare ++ bare) bare_twice ∷ accepted (116 ∷ 116 ∷ []) alone_twice ∷ [] ≡ true ∷ true ∷ true ∷ []
  pub counts : count_of (spikes 116 ++ spikes 116) two_ranges ∷ count_of (bare ++ bare) two_ranges ∷ count_of (116 ∷ 116 ∷ []) (0 ∷ 1 ∷ 1 ∷ 2 ∷ []) ∷ [] ≡ 592 ∷ 394 ∷ 232 ∷ []
  pub answers : answer_of large_twice two_ranges ∷ answer_of bare_twice two_ranges ∷ answer_of alone_twice (0 ∷ 1 ∷ 1 ∷ 2 ∷ []) ∷ [] ≡ 228 ∷ 44 ∷ 186 ∷ []
  pub searched : search_reply large_twice two_ranges ∷ search_reply bare_twice two_ranges ∷ search_reply alone_twice (0 ∷ 1 ∷ 1 ∷ 2 ∷ []) ∷ [] ≡ answered 228 ∷ answered 44 ∷ answered 186 ∷ []
  -- k 6: 592 is above 6 theta; it is within q times k/(k - 4) of 228, and not within q times k/(k - 3)
  pub four_cuts : ltb (6 * 98) 592 ∷ leb (4 * (6 - 4) * 592) (5 * 6 * 228) ∷ leb (4 * (6 - 3) * 592) (5 * 6 * 228) ∷ [] ≡ true ∷ true ∷ false ∷ []
  -- k 5: 394 is above 4 theta and not above 5 theta; it is not within q times k/(k - 4) of 44
  pub below_theta : ltb (4 * 98) 394 ∷ ltb (5 * 98) 394 ∷ leb (4 * (5 - 4) * 394) (5 * 5 * 44) ∷ [] ≡ true ∷ false ∷ false ∷ []
  -- k 231: 232 is above 231 theta; it is within q times k/(k - 4) of 186, and not within k/(k - 4)
  pub needs_q : ltb (231 * 1) 232 ∷ leb (4 * (231 - 4) * 232) (5 * 231 * 186) ∷ leb ((231 - 4) * 232) (231 * 186) ∷ [] ≡ true ∷ true ∷ false ∷ []
  -- so both rules are as they should be: with a smaller factor, without q or from a smaller multiple of theta on they would fail here
  pub rules : Rule 98 5 4 2 6 592 228 × Rule 98 5 4 2 5 394 44 × Rule 1 5 4 2 231 232 186
  pub shorter_rules : ShorterRule 98 5 4 2 6 592 228 × ShorterRule 98 5 4 2 5 394 44 × ShorterRule 1 5 4 2 231 232 186

pub record WorkedSharper : Type 0 where
  -- for q 2 and k 3, 12 and 100 the factor is 15/4, 24/11 and 200/99
  pub factors : sharp_factor numbers_factor (2, 1) 3 ∷ sharp_factor numbers_factor (2, 1) 12 ∷ sharp_factor numbers_factor (2, 1) 100 ∷ [] ≡ (15, 4) ∷ (24, 11) ∷ (200, 99) ∷ []
  pub all_built :
      words (quality 1 2 1) (8 ∷ 2 ∷ []) ∷ words (quality 98 5 4) (spikes 116) ∷ words (quality 1 17 8) (2 ∷ 0 ∷ 4 ∷ 12 ∷ [])
      ∷ words (quality 2 5 4) tens_and_fives ∷ words (quality 7 5 4) sevens ∷ []
      ≡ halved ∷ spiked ∷ rounding ∷ eights_and_fours ∷ sixths ∷ []
  pub counts :
      count (8 ∷ 2 ∷ []) 0 1 ∷ count (spikes 116) 8 11 ∷ count (2 ∷ 0 ∷ 4 ∷ 12 ∷ []) 1 3 ∷ count tens_and_fives 3 10 ∷ count sevens 5 9 ∷ []
      ≡ 8 ∷ 296 ∷ 4 ∷ 44 ∷ 16 ∷ []
  pub answers :
      answer halved 0 1 ∷ answer spiked 8 11 ∷ answer rounding 1 3 ∷ answer eights_and_fours 3 10 ∷ answer sixths 5 9 ∷ []
      ≡ 4 ∷ 152 ∷ 10 ∷ 33 ∷ 4 ∷ []
  -- k 6: 8 is above 6 theta; it is within q times k/(k - 1) of 4, and not within 5/4 times k/(k - 2)
  pub one_cut : ltb (6 * 1) 8 ∷ leb (1 * (6 - 1) * 8) (2 * 6 * 4) ∷ leb (4 * (6 - 2) * 8) (5 * 6 * 4) ∷ [] ≡ true ∷ true ∷ false ∷ []
  -- k 3: 296 is above 3 theta; it is within 5/4 times k/(k - 2) of 152, and not within q times k/(k - 1)
  pub two_cuts : ltb (3 * 98) 296 ∷ leb (4 * (3 - 2) * 296) (5 * 3 * 152) ∷ leb (4 * (3 - 1) * 296) (5 * 3 * 152) ∷ [] ≡ true ∷ true ∷ false ∷ []
  -- k 9: 10 is above 9 theta; it is not within q times k/(k - 1) of 4, and 10 less one is
  pub one_off : ltb (9 * 1) 10 ∷ ltb (8 * (9 - 1) * 10) (17 * 9 * 4) ∷ ltb (8 * (9 - 1) * (10 - 1)) (17 * 9 * 4) ∷ [] ≡ true ∷ false ∷ true ∷ []
  -- k 21: 44 is above 21 theta; it is within 5/4 times k/(k - 2) of 33, and neither within 6/5 times k/(k - 2) nor within q times k/(k - 1)
  pub needs_5/4 :
      ltb (21 * 2) 44 ∷ leb (4 * (21 - 2) * 44) (5 * 21 * 33) ∷ leb (5 * (21 - 2) * 44) (6 * 21 * 33) ∷ leb (4 * (21 - 1) * 44) (5 * 21 * 33) ∷ []
      ≡ true ∷ true ∷ false ∷ false ∷ []
  -- k 3: 16 is above 2 theta and not above 3 theta; it is not within 5/4 times k/(k - 2) of 4
  pub below_theta : ltb (2 * 7) 16 ∷ ltb (3 * 7) 16 ∷ leb (4 * (3 - 2) * 16) (5 * 3 * 4) ∷ [] ≡ true ∷ false ∷ false ∷ []
  -- so the rule is as it should be: with either half alone, with nothing taken off, with 6/5 for 5/4 or from a smaller multiple of theta on it would fail here
  pub rules :
      SharperRule numbers_factor 1 (2, 1) 6 8 4 × SharperRule numbers_factor 98 (5, 4) 3 296 152 × SharperRule numbers_factor 1 (17, 8) 9 4 10
      × SharperRule numbers_factor 2 (5, 4) 21 44 33 × SharperRule numbers_factor 7 (5, 4) 3 16 4
  -- a histogram that is accepted and not the builder's: it counts 16 and answers 4, so that it does not keep to the rule
  pub other_accepted : accepted six threes ≡ true
  pub other_answered : count six 5 8 ∷ answer threes 5 8 ∷ [] ≡ 16 ∷ 4 ∷ []
  pub other_beyond : Sharp numbers_factor six threes 13 5 (2, 1) → ⊥
