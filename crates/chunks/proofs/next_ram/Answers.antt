use native.Mathlib.Omega.{arith}
use mathlib.Core.Path.{sym, ap}
use Prim.Native.Nat.{◌+◌, ◌*◌, ◌/◌, ◌<◌}
use Rattle.layout.specs.Layout.{entries_of, spans}
use Rattle.chunks.specs.Chunks.{first_of}
use Rattle.chunks.proofs.Laws as laws
use Rattle.chunks.proofs.next_ram.Goals as goal

pub returns-then-chunk-div : goal.returns-then-chunk-div
returns-then-chunk-div c =
    let a = c.args in
    let l : a.chunk < a.from / a.granularity = omega (arith, c.div.ensures, c.if-chunk-div.true) in
    sym (ap first_of (laws.pieces_past (entries_of a.ram.now) a.from ((a.chunk + 1) * a.granularity) 0 (spans (entries_of a.ram.now)) (laws.chunk_before a.chunk a.granularity a.from l)))
