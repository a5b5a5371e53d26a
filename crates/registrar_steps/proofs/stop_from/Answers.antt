use Rattle.std.proofs.Common.{min, refl, ap, ◌∙◌}
use Rattle.layout.specs.Layout.{entries_of}
use Rattle.registrar_steps.specs.Steps.{chunk_state, stop_at}
use Rattle.registrar_steps.proofs.Laws as laws
use Rattle.registrar_steps.proofs.stop_from.Goals as goal

pub walk-requires : goal.walk-requires
walk-requires c =
    λ k h.
    laws.walk_fits c.args.ram.now c.args.granularity c.args.until c.args.total c.min.result k (λ j. (c.type_inv.ram j).fits) c.requires c.min.ensures h

pub returns : goal.returns
returns c =
    let a = c.args in
    (c.walk.ensures ∙ ap (stop_at (chunk_state a.granularity (entries_of a.ram.now) a.registered.now a.failed.now) a.from) c.min.ensures, λ h. laws.walk_fits a.ram.now a.granularity a.until a.total (min a.until a.total) c.walk.result.chunk (λ j. (c.type_inv.ram j).fits) c.requires refl h)
