use Rattle.std.proofs.Common.{arith}
use Rattle.layout.specs.Layout.{entries_of}
use Rattle.registrar_steps.proofs.Laws as laws
use Rattle.registrar_steps.proofs.rest_of.Goals as goal

pub ends_by-requires : goal.ends_by-requires
ends_by-requires c =
    λ h.
    laws.walk_fits c.args.ram.now c.args.granularity c.args.total c.args.total c.args.total c.args.chunk (λ j. (c.type_inv.ram j).fits) c.requires (omega arith) h

pub returns-then-ends_by : goal.returns-then-ends_by
returns-then-ends_by c =
    let a = c.args in
    laws.ended_rest (entries_of a.ram.now) a.granularity a.chunk a.from (c.ends_by.ensures c.if-ends_by.true)
