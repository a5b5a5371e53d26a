use Rattle.std.proofs.Common.{sym}
use Rattle.registrar_state.specs.Buffers.{buffers}
use Rattle.registrar.proofs.Laws as laws
use Rattle.registrar.proofs.registrar_build.Goals as goal

pub build_state-requires : goal.build_state-requires
build_state-requires c =
    let a = c.args in
    laws.build_lengths (buffers a.state.now a.registered.now a.failed.now) a.ram.now a.offset a.granularity (sym c.in_default.ensures)
