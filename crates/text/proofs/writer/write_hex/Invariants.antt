-- `writer::write_hex` meets its contract: two digits of each byte so far.
use Rattle.std.proofs.Common.{◌≡◌, ◌++◌, ◌*◌, take, drop}
use Rattle.text.specs.Write.{hexadecimal}
use Rattle.text.proofs.writer.write_hex.Given as goal

abbrev pub invariant-loop-i : goal.invariant-loop-i
invariant-loop-i l = l.out ≡ take (2 * l.i) (hexadecimal l.s) ++ drop (2 * l.i) l.initial.out
