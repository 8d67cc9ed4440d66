-- The claims of specs/Claims.antt, each from its law. Assumes nothing.
use mathlib.Core.Path.{◌≡◌, refl}
use mathlib.Core.List.{List}
use Prim.Native.Nat.{ℕ}
use native.Mathlib.Omega.{arith}
use Rattle.laws.specs.Refusal.{refusal}
use Rattle.laws.proofs.RefusalLaws.{numbered, append_first}
use Rattle.list_rules.specs.Frequencies.{list_sentences}
use Rattle.list_rules.specs.Quality.{quality, quality_sentences, input_sentences}
use Rattle.build_rules.specs.Claims.{Widths, Built, Building}
use Rattle.list_rules.proofs.SoundLaws.{sound_of}
use Rattle.build_rules.proofs.WidthLaws.{one_fits, width_largest}
use Rattle.build_rules.proofs.ReadBack.{entries_are, theta_is, qn_is, qd_is, buckets_are, bucket_is, readable_words, few, short}
use Rattle.build_rules.proofs.RuleLaws.{by_rule}
use Rattle.build_rules.proofs.AcceptedLaws.{accepted_words}

pub widths : Widths
widths = record { width_largest = width_largest }

pub building : Building
unfolding numbered
building = record { built = built }
  where
    built : (fs : List ℕ) (theta qn qd : ℕ) → refusal (input_sentences fs theta qn qd) ≡ 0 → Built fs theta qn qd
    built fs theta qn qd e =
        let q = quality theta qn qd in
        let s = sound_of fs theta qn qd e in
        record {
          one_fits = one_fits q fs s;
          readable = readable_words q fs s;
          few = few q fs s;
          short = short q fs s;
          head_entries = entries_are q fs s;
          head_theta = theta_is q fs s;
          head_qn = qn_is q fs s;
          head_qd = qd_is q fs s;
          decoded = λ b h. bucket_is q fs s b (let n = buckets_are q fs s in omega arith);
          by_rule = λ b h. by_rule q fs s b (let n = buckets_are q fs s in omega arith);
          accepted = accepted_words q fs s (append_first (list_sentences fs) (quality_sentences theta qn qd) refl e);
        }
