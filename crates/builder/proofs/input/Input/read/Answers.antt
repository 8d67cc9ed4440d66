-- `builder::input::Input::read` meets its contract: what passes the tests is within its limits.
-- Assumes nothing.
use mathlib.Core.Path.{sym, subst}
use Rattle.list_rules.specs.Private.Sound.{Sound}
use Rattle.list_rules.proofs.SoundLaws.{sound_of}
use Rattle.builder.proofs.input.Input.read.Goals as goal

pub invariant_of-result : goal.invariant_of-result
invariant_of-result c =
    record { sound = subst (Sound c.args.freqs.now) (sym c.new-q.ensures) (sound_of c.args.freqs.now c.args.theta c.args.qn c.args.qd (sym c.in_ok-input_fault.ensures)) }
