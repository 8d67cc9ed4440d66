-- `builder::input::Input::put_buckets` meets its contract. At the loop b buckets are written, and what is left of the definition starts at the next entry.
-- Assumes nothing.
use mathlib.Core.Path.{◌≡◌}
use Prim.Native.Nat.{◌-◌}
use lib.ListN.{length}
use Rattle.builder.proofs.FillLaws.{Filling}
use Rattle.builder.proofs.input.Input.put_buckets.Given as goal

abbrev pub invariant-loop-start : goal.invariant-loop-start
invariant-loop-start l = (length l.words ≡ length l.initial.words) × Filling l.self.freqs.now l.self.q l.initial.words l.words l.b l.start

abbrev pub decreases-loop-start : goal.decreases-loop-start
decreases-loop-start l = length l.self.freqs.now - l.start
