-- `put_bytes` meets its contract: there is no room where the end is no number of 64 bits or past the buffer, and else the part is put.
use Prim.Native.Nat.{◌+◌}
use mathlib.Core.Path.{◌≡◌}
use native.Mathlib.Omega.{arith}
use lib.ListN.{length}
use Rattle.line.proofs.Gather.{no_room, room}
use Rattle.line.proofs.put_bytes.Goals as goal

pub returns-in_err-end : goal.returns-in_err-end
returns-in_err-end c =
    rw c.from_residual.ensures (no_room _ _ _ (omega (arith, c.in_err-end.ensures)))

pub returns-then-s-end : goal.returns-then-s-end
returns-then-s-end c = no_room _ _ _ (omega (arith, c.in_ok-end.ensures))

pub returns : goal.returns
returns c =
    let end : c.in_ok-end.end ≡ c.args.at + length c.args.part.now = omega (arith, c.in_ok-end.ensures) in
    rw end (room _ _ _ _ (omega arith) c.put_part.ensures)
