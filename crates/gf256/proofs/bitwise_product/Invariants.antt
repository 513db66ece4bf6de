-- `bitwise_product` meets its contract: from the highest bit to the lowest. The invariant: p is the product of the bits from k on.
use mathlib.Core.Path.{◌≡◌}
use Prim.Native.Nat.{◌/◌, ◌^◌}
use Rattle.gf256.specs.Field.{gmul}
use Rattle.gf256.proofs.bitwise_product.Given as goal

abbrev pub invariant-loop-k : goal.invariant-loop-k
invariant-loop-k l = l.p ≡ gmul (l.a / 2 ^ l.k) l.b
