-- What a function answers where it returns early, as laws that the prover finds by the goal: such a goal is named after its test, which may be written otherwise.
-- Assumes nothing.
use mathlib.Core.Path.{◌≡◌, sym, ◌∙◌}
use mathlib.Core.List.{List}
use Prim.Native.Nat.{ℕ, ◌-◌, ◌≤◌, ◌<◌}
use native.Mathlib.Omega.{arith}
use lib.ListN.{length}
use Rattle.laws.specs.Refusal.{refusal}
use Rattle.laws.specs.Reply.{refused}
use Rattle.refusals.specs.declared.Refusal.{Refusal}
use Rattle.refusals.specs.Numbers.{number_of}
use Rattle.refusals.proofs.NumberLaws.{numbered}
use Rattle.list_rules.specs.declared.Quality.{Quality}
use Rattle.list_rules.specs.Quality.{input_sentences, quality}
use Rattle.list_rules.specs.Private.Sound.{Sound}
use Rattle.build_rules.specs.Width.{width}
use Rattle.build_rules.specs.Words.{words}
use Rattle.build_rules.specs.Building.{build_reply, written}
use Rattle.build_rules.proofs.BuildingLaws.{refused_by, input_fault, short_fault_lem}
use Rattle.build_bounds.specs.declared.Bound.{Bound}
use Rattle.build_bounds.specs.declared.Grown.{Grown}
use Rattle.build_bounds.specs.declared.Kept.{Kept}
use Rattle.build_bounds.specs.declared.Point.{Point}
use Rattle.build_bounds.specs.Private.Growing.{Ending, Advanced, Widened, Reached}
use Rattle.build_bounds.proofs.BoundLaws.{stays}
use Rattle.build_bounds.proofs.GrowLaws.{width_early}

-- no start is heavy
pub none_heavy : (b : Bound) (fs : List ℕ) (a : ℕ) (k : Kept) (end : Point) → Ending fs a end → Advanced b fs a k end → k.light.at < 1 → Widened b fs a end.at k
none_heavy b fs a k end e r z =
    record {
      standing = stays b fs a (end.at - 1) end.at k (omega (arith, e.some)) r.standing r.light (λ h. absurd (omega arith));
      light = r.light;
    }

-- a first width does not fit
pub width_early_lem : (fs : List ℕ) (a most few : ℕ) (q : Quality) (k : Grown) → Sound fs q → few ≤ most → Reached q fs a few k → k.reached.at < few → k.reached.at ≡ width q fs a most
width_early_lem fs a most few q k s l r h = width_early q fs a s few most k.reached l h r.fits_to r.next

module _ (fs : List ℕ) (theta qn qd : ℕ) where
  abbrev fault : ℕ
  fault = refusal (input_sentences fs theta qn qd)

  -- the input is refused
  pub refused_input : (old : List ℕ) (e : Refusal) → number_of e ≡ fault → build_reply fs theta qn qd (length old) ≡ refused (number_of e)
  refused_input old e d = let n = numbered e in sym (refused_by fs theta qn qd old (number_of e) (d ∙ input_fault fs theta qn qd old (λ z. omega arith)) (λ z. omega arith)).0

  pub refused_input_written : (old : List ℕ) (e : Refusal) → number_of e ≡ fault → written fs theta qn qd old ≡ old
  refused_input_written old e d = let n = numbered e in sym (refused_by fs theta qn qd old (number_of e) (d ∙ input_fault fs theta qn qd old (λ z. omega arith)) (λ z. omega arith)).1

  -- too few words are lent
  pub short_list : (old : List ℕ) → fault ≡ 0 → length old < length (words (quality theta qn qd) fs) → build_reply fs theta qn qd (length old) ≡ refused 6
  short_list old e l = sym (refused_by fs theta qn qd old 6 (short_fault_lem fs theta qn qd old e l) (λ z. omega arith)).0

  pub short_list_written : (old : List ℕ) → fault ≡ 0 → length old < length (words (quality theta qn qd) fs) → written fs theta qn qd old ≡ old
  short_list_written old e l = sym (refused_by fs theta qn qd old 6 (short_fault_lem fs theta qn qd old e l) (λ z. omega arith)).1
