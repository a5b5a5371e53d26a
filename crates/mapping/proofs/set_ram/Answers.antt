use mathlib.Core.Bool.{true}
use mathlib.Core.Path.{refl, sym, ap, ◌∙◌}
use native.Mathlib.Omega.{arith}
use lib.ListN.{length, drop}
use Rattle.bitmap.proofs.Map.{length_written}
use Rattle.layout.specs.Layout.{entries_of, is_ram}
use Rattle.mapping.proofs.Marks.{ram_step, ram_end}
use Rattle.mapping.proofs.set_ram.Goals as goal

pub loop-i-init : goal.loop-i-init
loop-i-init c = refl

pub loop-i-preserved : goal.loop-i-preserved
loop-i-preserved c =
    let es = entries_of c.args.ram.now in
    ram_step es c.loop-i.i c.loop-i.map _ _ _ _ (omega (arith, c.entry_count-i-end.ensures)) c.entry_at-e.ensures c.page_up.ensures
    c.page_up-in-loop-i.ensures c.set_entry.ensures ∙ c.loop-i.invariant

pub shape_of-map : goal.shape_of-map
shape_of-map c =
    let es = entries_of c.args.ram.now in sym (length_written 8 (is_ram (drop c.loop-i.i es)) true c.loop-i.map) ∙ ap length c.loop-i.invariant ∙ length_written 8 (is_ram es) true c.args.map.now

pub returns : goal.returns
returns c =
    let es = entries_of c.args.ram.now in sym (ram_end es c.loop-i.i c.loop-i.map (omega (arith, c.entry_count-i-end.ensures))) ∙ c.loop-i.invariant
