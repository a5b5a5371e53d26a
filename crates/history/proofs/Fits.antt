-- The lengths of what is lent, one by one, where they fit. Assumes nothing.
use mathlib.Core.Path.{◌≡◌}
use mathlib.Core.Bool.{Bool, true}
use lib.Dec.{eqb}
use lib.ListN.{length}
use borrow.Author.Tests.{eqb-true}
use Rattle.laws.specs.Bools.{and_left, and_right}
use Rattle.layout.specs.Layout.{map_len}
use Rattle.mapping.specs.Maps.{marks_fit, maps_fit, lengths_of}
use Rattle.protector_state.specs.State.{settings_of, entries_in}
use Rattle.call_refusals.specs.Buffers.{Buffers, fits}

abbrev pub maps_in : Buffers → Bool
maps_in w = maps_fit (map_len (entries_in w.state)) (settings_of w.state).tracked (lengths_of w.maps)

module _ (w : Buffers) (e : fits w ≡ true) where
  marks : marks_fit (map_len (entries_in w.state)) (lengths_of w.maps) ≡ true
  marks = and_left _ _ (and_left (maps_in w) _ e)

  pub private_long : length w.maps.private ≡ map_len (entries_in w.state)
  private_long = eqb-true _ _ (and_left _ _ marks)

  pub shared_long : length w.maps.shared ≡ map_len (entries_in w.state)
  shared_long = eqb-true _ _ (and_right (eqb (length w.maps.private) (map_len (entries_in w.state))) _ marks)
