-- `text::read_bytes` meets its contract: the loop copies the bytes that the digits say from the front.
use Rattle.std.proofs.Common.{◌≡◌, ◌++◌, take, drop}
use Rattle.text.specs.Read.{bytes_of}
use Rattle.text.proofs.read_bytes.Given as goal

abbrev pub invariant-loop-i : goal.invariant-loop-i
invariant-loop-i l = l.out ≡ take l.i (bytes_of l.f) ++ drop l.i l.initial.out
