-- The claims of specs/Claims.antt, from the laws beside this file. Assumes nothing.
use mathlib.Core.Path.{◌≡◌, ap}
use mathlib.Core.List.{List}
use mathlib.Core.Logic.{◌⊎◌, ⊎_elim}
use Prim.Native.Nat.{ℕ, ◌+◌, ◌-◌, ◌*◌, ◌≤◌}
use native.Mathlib.Nat.{mul-le-mul_left, le_of_mul-le-mul_right}
use native.Mathlib.Omega.{arith}
use lib.ListN.{length}
use Rattle.laws.specs.Refusal.{refusal}
use Rattle.laws.specs.Reply.{Reply}
use Rattle.words_rules.specs.Words.{entries, theta, qn, qd}
use Rattle.words_rules.proofs.Proved.{histogram}
use Rattle.fit.specs.Accepted.{accepted}
use Rattle.build_rules.specs.Words.{words}
use Rattle.list_rules.specs.Quality.{quality, input_sentences}
use Rattle.list_rules.proofs.SoundLaws.{sound_of}
use Rattle.build_rules.proofs.ReadBack.{entries_are, theta_is, qn_is, qd_is}
use Rattle.build_rules.proofs.Proved.{building}
use Rattle.estimate_rules.specs.Fraction.{numerator}
use Rattle.estimate_rules.specs.Exact.{exact}
use Rattle.estimate_rules.proofs.FractionLaws.{rounded_reaches, rounded_most}
use Rattle.estimate_rules.specs.Search.{search_reply}
use Rattle.estimate_rules.proofs.AskingLaws.{reply_is}
use Rattle.estimate_rules.proofs.RangesLaws.{range_ordered, range_within}
use Rattle.estimate_rules.proofs.SearchLaws.{search_taken, search_within}
use Rattle.estimate_rules.proofs.Proved.{searches}
use Rattle.accuracy.specs.Claims.{count, answer, answer_of, InList, SeveralRangesShorter, Accurate, Accuracy}
use Rattle.accuracy.proofs.ButFor.{ButFor}
use Rattle.fit.proofs.AcceptedLaws.{Fitting, fitting}
use Rattle.accuracy.proofs.Estimate.{whole_within_q, range_close_two, range_capped}
use Rattle.accuracy.proofs.OneBucketlet.{ends_in_list, one_close}
use Rattle.accuracy.proofs.NoneLeft.{none_left}
use Rattle.accuracy.proofs.Several.{either, several_shorter, follows}
use Rattle.accuracy.proofs.Answers.{Answered, sum_above, answer_is, within, whole_ranges}

module _ (fs ws : List ℕ) (ok : Fitting fs ws) where
  -- a range's count and answer are within q but for 2 theta
  two_theta : (x y : ℕ) → x ≤ y → y ≤ entries ws → ButFor (qn ws) (qd ws) (theta ws) 2 (count fs x y) (answer ws x y)
  two_theta x y h l =
      let e = exact ws x y in
      let s = range_close_two fs ws ok x y h l in
      let c = range_capped fs ws ok x y h l in
      let a = answer_is fs ws ok x y h l in
      record {
        f_over =
            le_of_mul-le-mul_right {k = e.bottom}
            (omega (arith, s.but_for.f_over, mul-le-mul_left (qn ws) (reached (numerator e) e.bottom a (rounded_reaches e s.positive)))) s.positive;
        v_over = capped (qd ws) (theta ws) (qn ws * count fs x y) c.cap (histogram.limits ws ok.readable).least_theta a (rounded_most e c.cap s.positive c.reached) c.under;
      }
    where
      reached : {m n : ℕ} (v b : ℕ) → Answered m n → v ≤ m * b → v ≤ n * b
      reached v b a r =
          ⊎_elim (λ p. omega (arith, r, ap (λ (k : ℕ). k * b) p)) (λ p. omega (arith, r, ap (λ (k : ℕ). k * b) p.0)) a

      capped : {m n : ℕ} (qd t f c : ℕ) → 1 ≤ t → Answered m n → m ≤ c → qd * c ≤ f + qd * (2 * t) → qd * n ≤ f + qd * (2 * t)
      capped qd t f c h a r u =
          ⊎_elim
          (λ p. omega (arith, u, mul-le-mul_left qd r, ap (λ (k : ℕ). qd * k) p))
          (λ p. omega (arith, ap (λ (k : ℕ). qd * k) p.1, mul-le-mul_left qd h))
          a

  shorter : SeveralRangesShorter fs ws (entries ws) (theta ws) (qn ws) (qd ws)
  shorter ranges k =
      let limits = histogram.limits ws ok.readable in
      several_shorter fs ws (entries ws) (theta ws) (qn ws) (qd ws) limits.least_qd_lem (omega (arith, limits.least_q)) two_theta ranges k

  -- a search that is answered

  searched_within : (ranges : List ℕ) → (search_reply ws ranges).refusal ≡ 0 → InList (entries ws) ranges
  searched_within ranges e i l =
      let within = search_within ws ranges (search_taken ws ranges e) in
      (range_ordered ws ranges within i l, range_within ws ranges within i l)

  searched_value : (ranges : List ℕ) → (search_reply ws ranges).refusal ≡ 0 → (search_reply ws ranges).value ≡ answer_of ws ranges
  searched_value ranges e = ap (λ (r : Reply). r.value) (searches.searched ws ranges (search_taken ws ranges e)).sum_of_singles

  pub accurate : Accurate fs ws (entries ws) (theta ws) (qn ws) (qd ws)
  accurate =
      let rules = follows fs ws (entries ws) (theta ws) (qn ws) (qd ws) in
      record {
        answered = λ x y h l. ap (λ (r : Reply). r.refusal) (reply_is ws x y ok.readable h l);
        none_left = λ x y h l z. none_left fs ws ok x y h l z;
        but_for_2_theta = λ x y h l. ((two_theta x y h l).f_over, (two_theta x y h l).v_over);
        accurate = rules.one (rules.as_asked shorter);
        shorter = rules.one_shorter shorter;
        several = rules.as_asked shorter;
        several_shorter = shorter;
        searched = λ ranges k e. rw (searched_value ranges e) (rules.as_asked shorter ranges k (searched_within ranges e));
        searched_shorter = λ ranges k e. rw (searched_value ranges e) (shorter ranges k (searched_within ranges e));
        one_bucketlet = λ b j x y h l from g to r.
            let inside = ends_in_list fs ws ok x y g b j h l from to in
            let limits = histogram.limits ws ok.readable in
            let s = one_close fs ws ok x y g b j h l from to (sum_above (theta ws) _ _ _ limits.least_theta (answer_is fs ws ok x y g inside) r) in
            let w = within fs ws ok (qn ws) (qd ws) 0 x y 1 limits.least_qd_lem (omega (arith, limits.least_q)) g inside s (omega arith) (either r (λ f. omega arith) (λ f. omega arith)) in
            record { count_within = omega (arith, w.count_within); answer_within = omega (arith, w.answer_within) };
        whole = whole_ranges fs ws ok (qn ws, qd ws) (histogram.limits ws ok.readable).least_qd_lem (whole_within_q fs ws ok);
      }

pub accuracy : Accuracy
accuracy = record { follows = follows; of_accepted = λ fs ws t. accurate fs ws (fitting fs ws t); of_built = built }
  where
    built : (fs : List ℕ) (theta qn qd : ℕ) → refusal (input_sentences fs theta qn qd) ≡ 0 → Accurate fs (words (quality theta qn qd) fs) (length fs) theta qn qd
    built fs theta qn qd e =
        let q = quality theta qn qd in
        let s = sound_of fs theta qn qd e in
        let a = accurate fs (words q fs) (fitting fs (words q fs) (building.built fs theta qn qd e).accepted) in
        rw (entries_are q fs s, theta_is q fs s, qn_is q fs s, qd_is q fs s) at a
