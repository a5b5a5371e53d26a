-- Each of the six maps, page by page. Assumes nothing.
use mathlib.Core.Bool.{true, false, cond, ◌&&◌}
use mathlib.Core.List.{List}
use mathlib.Core.Path.{◌≡◌}
use Prim.Native.Nat.{ℕ, ◌/◌}
use lib.Dec.{ltb}
use lib.ListN.{length}
use Rattle.bitmap.specs.Pages.{bit_at}
use Rattle.layout.specs.declared.MemoryRangeWithNode.{MemoryRangeWithNode}
use Rattle.layout.specs.Layout.{is_ram}
use Rattle.mapping.specs.Maps.{Maps, built}
use Rattle.mapping.proofs.Marks.{fresh_page}

pub record Built (es : List MemoryRangeWithNode) (m : Maps) (p : ℕ) : Type 0 where
  pub private : bit_at 8 (built es m).private p ≡ cond (is_ram es p && ltb (p / 8) (length m.private)) true false
  pub shared : bit_at 8 (built es m).shared p ≡ cond (is_ram es p && ltb (p / 8) (length m.shared)) false false
  pub read : bit_at 8 (built es m).permissions.read p ≡ cond (is_ram es p && ltb (p / 8) (length m.permissions.read)) true false
  pub write : bit_at 8 (built es m).permissions.write p ≡ cond (is_ram es p && ltb (p / 8) (length m.permissions.write)) true false
  pub kernel : bit_at 8 (built es m).permissions.kernel p ≡ cond (is_ram es p && ltb (p / 8) (length m.permissions.kernel)) true false
  pub user : bit_at 8 (built es m).permissions.user p ≡ cond (is_ram es p && ltb (p / 8) (length m.permissions.user)) true false

pub built_pages : (es : List MemoryRangeWithNode) (m : Maps) (p : ℕ) → Built es m p
built_pages es m p =
    record {
      private = fresh_page es true (length m.private) p;
      shared = fresh_page es false (length m.shared) p;
      read = fresh_page es true (length m.permissions.read) p;
      write = fresh_page es true (length m.permissions.write) p;
      kernel = fresh_page es true (length m.permissions.kernel) p;
      user = fresh_page es true (length m.permissions.user) p;
    }
