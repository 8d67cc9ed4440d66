-- What each test of `start_fault` is for: where the sentence is not true, every start keeps its rule.
-- Assumes nothing.
use Rattle.std.proofs.Common.{◌≡◌, true, ℕ, List, ◌+◌, ◌-◌, ◌<◌, sym, subst, arith}
use Rattle.laws.proofs.Tests.{is_false}
use Rattle.words_rules.specs.Words.{entries, buckets, start}
use Rattle.words_rules.specs.Reading.{start_fault}
use Rattle.words_rules.proofs.StartLaws.{Starts, starts}

kept : (ws : List ℕ) → (true ≡ start_fault ws → ⊥) → Starts ws
kept ws h = starts ws (is_false _ (λ t. h (sym t)))

pub first_start : (ws : List ℕ) → (true ≡ start_fault ws → ⊥) → start ws 0 ≡ 0
first_start ws h = (kept ws h).first

pub start_within : (ws : List ℕ) (b : ℕ) → (true ≡ start_fault ws → ⊥) → b < buckets ws → start ws b < entries ws
start_within ws b h l = (kept ws h).below b l

pub start_after : (ws : List ℕ) (b : ℕ) → (true ≡ start_fault ws → ⊥) → 0 < b → b < buckets ws → start ws (b - 1) < start ws b
start_after ws b h o l =
    let e : b - 1 + 1 ≡ b = omega arith in
    subst (λ (k : ℕ). start ws (b - 1) < start ws k) e ((kept ws h).rise (b - 1) (omega arith))
