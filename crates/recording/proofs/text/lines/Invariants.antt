-- `text::lines` meets its contract: each turn of the loop writes one line after those before it.
use Rattle.std.proofs.Common.{◌+◌, ◌*◌, ◌≡◌, ◌≤◌}
use Rattle.recording.specs.Text.{written_of, put, lines_of}
use Rattle.recording.proofs.text.lines.Given as goal

abbrev pub invariant-loop-i : goal.invariant-loop-i
invariant-loop-i l = (l.after ≤ l.initial.after + 12 * l.i) × (written_of l.after l.out ≡ put (lines_of l.dibits l.reliabilities l.i) (written_of l.initial.after l.initial.out))
