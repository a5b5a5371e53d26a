use Rattle.layout.specs.Layout.{entries_of}
use Rattle.mapping.proofs.Marks.{built_is}
use Rattle.mapping.proofs.build.Goals as goal

pub returns-clause-value : goal.returns-clause-value
returns-clause-value c =
    let a = c.args in
    let m = a.maps.now in
    built_is (entries_of a.ram.now) a.private.now a.shared.now m.read.now m.write.now m.kernel.now m.user.now _ _ _ _ _ _ c.init.ensures
    c.init-2.ensures c.init-3.ensures c.init-4.ensures c.init-5.ensures c.init-6.ensures
