use native.Mathlib.Omega.{arith}
use mathlib.Core.Path.{subst, sym, ◌∙◌}
use Prim.Native.Nat.{ℕ, ◌+◌, ◌-◌, ◌<◌}
use Rattle.default_change.specs.Pieces.{overlay_pages, inside}
use Rattle.default_change.proofs.Split as laws
use Rattle.default_change.proofs.+first_piece.Goals as goal

pub returns-in_default : goal.returns-in_default
returns-in_default t c =
    let a = c.args in
    let none = sym c.find_inside.ensures ∙ c.in_default.is in
    (laws.piece_start_all a.overlays.now a.first a.count none, laws.piece_len_all a.overlays.now a.first a.count none)

pub overflow_sub-p : goal.overflow_sub-p
overflow_sub-p t c =
    let a = c.args in
    let p = c.in-Some.p in
    let some = sym c.find_inside.ensures ∙ c.in-Some.is in
    laws.p_low a.overlays.now a.first a.count p some

pub first_piece-left-requires : goal.first_piece-left-requires
first_piece-left-requires t c =
    let a = c.args in
    let p = c.in-Some.p in
    let some = sym c.find_inside.ensures ∙ c.in-Some.is in (
      subst (λ (j : ℕ). inside (overlay_pages a.overlays.now) a.first (p - a.first) < j) c.decreases (laws.left_falls a.overlays.now a.first a.count p some),
      omega (arith, laws.p_low a.overlays.now a.first a.count p some, laws.p_high a.overlays.now a.first a.count p some, c.requires),
    )

pub returns-then-left-ne0 : goal.returns-then-left-ne0
returns-then-left-ne0 t c =
    let a = c.args in
    let p = c.in-Some.p in
    let some = sym c.find_inside.ensures ∙ c.in-Some.is in
    let r = c.first_piece-left in (
      laws.from_left_start a.overlays.now a.first a.count p some r.result.first r.result.count r.ensures.0 r.ensures.1 c.if-left-ne0.true,
      laws.from_left_len a.overlays.now a.first a.count p some r.result.first r.result.count r.ensures.0 r.ensures.1 c.if-left-ne0.true,
    )

pub overflow_add-p : goal.overflow_add-p
overflow_add-p t c =
    let a = c.args in
    let p = c.in-Some.p in
    let some = sym c.find_inside.ensures ∙ c.in-Some.is in
    record { fits = omega (arith, laws.p_high a.overlays.now a.first a.count p some, c.requires) }

pub overflow_add-p-2 : goal.overflow_add-p-2
overflow_add-p-2 t c =
    let a = c.args in
    let p = c.in-Some.p in
    let some = sym c.find_inside.ensures ∙ c.in-Some.is in
    record { fits = omega (arith, laws.p_high a.overlays.now a.first a.count p some, c.requires) }

pub overflow_sub-first : goal.overflow_sub-first
overflow_sub-first t c =
    let a = c.args in
    let p = c.in-Some.p in
    let some = sym c.find_inside.ensures ∙ c.in-Some.is in
    omega (arith, laws.p_high a.overlays.now a.first a.count p some)

pub first_piece-requires : goal.first_piece-requires
first_piece-requires t c =
    let a = c.args in
    let p = c.in-Some.p in
    let some = sym c.find_inside.ensures ∙ c.in-Some.is in (
      subst (λ (j : ℕ). inside (overlay_pages a.overlays.now) (p + 1) (a.first + a.count - (p + 1)) < j) c.decreases (laws.right_falls a.overlays.now a.first a.count p some),
      omega (arith, laws.p_low a.overlays.now a.first a.count p some, laws.p_high a.overlays.now a.first a.count p some, c.requires),
    )

pub returns : goal.returns
returns t c =
    let a = c.args in
    let p = c.in-Some.p in
    let some = sym c.find_inside.ensures ∙ c.in-Some.is in
    let r = c.first_piece-left in
    let q = c.first_piece in (
      laws.from_right_start a.overlays.now a.first a.count p some r.result.first r.result.count r.ensures.0 r.ensures.1 c.if-left-ne0.false q.result.first q.ensures.0,
      laws.from_right_len a.overlays.now a.first a.count p some r.result.first r.result.count r.ensures.0 r.ensures.1 c.if-left-ne0.false q.result.count q.ensures.1,
    )
