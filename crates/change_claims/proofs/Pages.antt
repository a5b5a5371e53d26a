-- The pages that a default change's Protects name, all of them done: each private RAM page without an overlay once, ascending, and no other. Assumes nothing.
use native.Mathlib.Omega.{arith}
use mathlib.Core.Path.{◌≡◌, refl, sym, ap, fun_ext, ◌∙◌}
use mathlib.Core.Bool.{Bool, true}
use mathlib.Core.List.{List, [], ◌∷◌, ◌++◌}
use Prim.Native.Nat.{ℕ, zero, suc, ◌-◌, ◌*◌, ◌≤◌}
use lib.ListN.{length}
use Rattle.layout.specs.declared.MemoryRangeWithNode.{MemoryRangeWithNode}
use Rattle.layout.specs.Layout.{entry_at, last_end}
use Rattle.permissions.specs.declared.GuestVtl.{GuestVtl}
use Rattle.permissions.specs.declared.IsolationType.{IsolationType}
use Rattle.permissions.specs.declared.HvMapGpaFlags.{HvMapGpaFlags}
use Rattle.permissions.specs.Flags.{vtl_of, flags_of}
use Rattle.page_list.specs.declared.PageRun.{PageRun}
use Rattle.page_list.specs.Pages.{among, strict}
use Rattle.default_change.specs.Visit.{up_to, pick, pages_in}
use Rattle.default_change.proofs.Visits.{visits, ascends}
use Rattle.protector_state.specs.State.{settings_of, entries_in}
use Rattle.protector_state.specs.Reply.{asked_of}
use Rattle.call_refusals.specs.Buffers.{Buffers, overlays_of}
use Rattle.visibility_claims.specs.Whole.{Operation, BackendAnswer, Ok, per_run}
use Rattle.visibility_claims.specs.Calls.{Told, replies}
use Rattle.visibility_claims.specs.Ends.{page_end}
use Rattle.change_claims.specs.Whole.{Change, run_operations, ram_runs}
use Rattle.change_claims.specs.Calls.{overlay_in, default_whole}
use Rattle.change_claims.specs.Pages.{protected_in}
use Rattle.change_claims.specs.Claims.{stored_in, TakesDefault, default_call, InOrder, AgreesIn, taken_ram, DefaultVisits}
use Rattle.change_claims.proofs.Ram.{pieces_runs}
use Rattle.change_claims.proofs.Permits.{ram_visits}
use Rattle.call_refusals.proofs.Laws.{fits_tables}
use Rattle.change_claims.proofs.Default.{entries_stored, default_passed, renewed_overlays, default_is_whole}
use Rattle.change_claims.proofs.Finished.{runs_asked}

ends_below : (es : List MemoryRangeWithNode) (i : ℕ) → (entry_at es i).end ≤ page_end es * 4096
unfolding page_end
ends_below [] i = omega arith
ends_below (e ∷ es) zero = omega arith
ends_below (e ∷ es) (suc i) = omega (arith, ends_below es i)

last_below : (es : List MemoryRangeWithNode) → last_end es ≤ page_end es * 4096
last_below es = ends_below es (length es - 1)

named : (i : IsolationType) (v : GuestVtl) (f : HvMapGpaFlags) (rs : List PageRun) → protected_in (replies i (run_operations v f rs)) ≡ pages_in rs
unfolding per_run replies asked_of protected_in pages_in
named i v f [] = refl
named i v f (r ∷ rs) = ap (λ (l : List ℕ). up_to r.first r.count ++ l) (named i v f rs)

module _ (w : Buffers) (vtl flags : ℕ) (gs : List BackendAnswer) (z : TakesDefault w vtl flags) (o : InOrder w) (e : (default_whole (stored_in w vtl flags) (vtl_of vtl) flags gs).whole.status ≡ Ok) where
  abbrev x : Told
  x = default_call w vtl flags gs

  abbrev es : List MemoryRangeWithNode
  es = entries_in w.state

  -- the overlays that were there, and those of the tables that are left
  abbrev first : ℕ → Bool
  first = overlay_in w.tables (vtl_of vtl)

  abbrev left : ℕ → Bool
  left = overlay_in x.last.buffers.tables (vtl_of vtl)

  abbrev changing : Change
  changing = default_whole (stored_in w vtl flags) (vtl_of vtl) flags gs

  made : AgreesIn (stored_in w vtl flags) w.pages changing x
  made = default_is_whole w vtl flags gs z.0 z.1 o

  overlays_stay : (p : ℕ) → left p ≡ first p
  overlays_stay p =
      ap (λ (t : List ℕ). overlay_in t (vtl_of vtl) p) made.same_tables
      ∙ renewed_overlays (stored_in w vtl flags) (vtl_of vtl) flags (fits_tables w (default_passed w vtl flags z.0).1) p

  same_overlays : left ≡ first
  same_overlays = fun_ext overlays_stay

  by_runs : protected_in x.asked ≡ pages_in (ram_runs es first w.maps)
  by_runs =
      let rs : List PageRun = ram_runs (entries_in (stored_in w vtl flags).state) first w.maps in
      let i : IsolationType = (settings_of (stored_in w vtl flags).state).isolation in
      ap protected_in made.same_asked ∙ ap (λ (os : List Operation). protected_in (replies i os)) (runs_asked _ (vtl_of vtl) (flags_of flags) rs w.maps gs e)
      ∙ named i (vtl_of vtl) (flags_of flags) rs ∙ ap (λ (es : List MemoryRangeWithNode). pages_in (ram_runs es first w.maps)) (entries_stored w (vtl_of vtl) flags)

-- THE CLAIMS
pub default_visited : DefaultVisits
default_visited w vtl flags gs z o e =
    let es : List MemoryRangeWithNode = entries_in w.state in
    let private : List ℕ = w.maps.private in
    let overlays : List ℕ = overlays_of w.tables (vtl_of vtl) in
    let same = sym (same_overlays w vtl flags gs z o e) in
    let by = by_runs w vtl flags gs z o e in
    let pieces = ap pages_in (sym (pieces_runs es o overlays w.maps)) in
    record {
      pages = by ∙ pieces ∙ visits private overlays es o (page_end es) (last_below es) ∙ ap (λ (P : ℕ → Bool). pick (taken_ram es private P) (up_to 0 (page_end es))) same;
      ascends = ap (strict true) (by ∙ pieces) ∙ ascends private overlays es o (page_end es) (last_below es);
      visits = λ p. ap (λ (l : List ℕ). among l p) by ∙ ram_visits es (first w vtl flags gs z o e) w.maps p ∙ ap (λ (P : ℕ → Bool). taken_ram es private P p) same;
      overlays = overlays_stay w vtl flags gs z o e;
    }
