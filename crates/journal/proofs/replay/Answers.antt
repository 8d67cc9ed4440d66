-- `journal::replay` meets its contract: 1, 3, 25 and 26 come first, and after them there is room for a copy of the list.
-- Assumes nothing.
use Rattle.std.proofs.Common.{arith, sym, ℕ, ◌≤◌, length}
use Rattle.std.proofs.Math.ListN.{length-replicate}
use Rattle.std.proofs.Math.Seq.{length-take-le}
use Rattle.laws.specs.Padded.{zeros}
use Rattle.list_rules.specs.Limits.{max_entries}
use Rattle.journal.specs.Private.Testing.{Tested}
use Rattle.journal.proofs.TestedLaws.{refused_list, tested_room}
use Rattle.journal.proofs.replay.Goals as goal

-- the first places of the array are as many as the list has
room : (n : ℕ) → n ≤ max_entries → n ≤ length (zeros max_entries)
room n h = omega (arith, length-replicate {A = ℕ} max_entries 0)

pub slice_bounds-copy-end : goal.slice_bounds-copy-end
slice_bounds-copy-end c = tested_room c.args.freqs.now c.args.entries.now c.args.changes.now (sym c.in_ok-earlier_fault.ensures)

pub slice_bounds-replay_over-end : goal.slice_bounds-replay_over-end
slice_bounds-replay_over-end c =
    sym (length-take-le _ (zeros max_entries) (room (length c.args.freqs.now)
    (tested_room c.args.freqs.now c.args.entries.now c.args.changes.now (sym c.in_ok-earlier_fault.ensures))))

pub replay_over-requires : goal.replay_over-requires
replay_over-requires c =
    let tested : Tested c.args.freqs.now c.args.entries.now c.args.changes.now = sym c.in_ok-earlier_fault.ensures in (
      tested,
      length-take-le _ (zeros max_entries) (room (length c.args.freqs.now)
          (tested_room c.args.freqs.now c.args.entries.now c.args.changes.now tested)),
    )

pub returns-in_err-earlier_fault-clause-freqs_after : goal.returns-in_err-earlier_fault-clause-freqs_after
returns-in_err-earlier_fault-clause-freqs_after c =
    refused_list c.args.freqs.now c.args.entries.now c.args.changes.now c.in_err-earlier_fault.field-0.0 c.in_err-earlier_fault.ensures
