-- The pages that a step writes end below 2^64, where the words of the request's table do. Assumes nothing.
use native.Mathlib.Omega.{arith}
use mathlib.Core.Path.{◌≡◌, refl}
use mathlib.Core.Bool.{Bool, true, false, cond, ◌&&◌}
use mathlib.Core.List.{List, [], ◌∷◌}
use Prim.Native.Nat.{ℕ, zero, suc, ◌+◌, ◌≤◌, ◌<◌, ◌^◌}
use lib.Dec.{eqb, ltb}
use lib.ListN.{get_or, take, drop}
use lib.Seq.{get_or-drop}
use borrow.Author.Tests.{eqb-true}
use Rattle.page_list.specs.declared.PageRun.{PageRun}
use Rattle.page_list.specs.Runs.{run, part, neighbours, run_at}
use Rattle.request_pages.specs.Request.{run_end}
use Rattle.visibility_steps.specs.Steps.{is_vtl0}
use Rattle.change_steps.specs.declared.Stage.{Stage}
use Rattle.change_steps.specs.declared.Stage.TheVariants as at
use Rattle.change_steps.specs.declared.Change.{Change}
use Rattle.change_steps.specs.declared.Entry.TheVariants.{Keep}
use Rattle.change_steps.specs.Changes.{no_run, written_by, protect, ask, wait, finish, halt, keep, protect_pages, protect_ram, done_of, failed_of}

abbrev pub Below : List ℕ → Type 0
Below t = (i : ℕ) → get_or t i 0 < 2 ^ 64

abbrev pub Ends : PageRun → Type 0
Ends r = r.first + r.count ≤ 2 ^ 64

taken_below : (n : ℕ) (t : List ℕ) → Below t → Below (take n t)
taken_below zero t h i = omega arith
taken_below (suc n) [] h i = omega arith
taken_below (suc n) (x ∷ xs) h zero = h zero
taken_below (suc n) (x ∷ xs) h (suc i) = taken_below n xs (λ j. h (suc j)) i

part_below : (t : List ℕ) (n a : ℕ) → Below t → Below (part t n a)
part_below t n a h i = let e : get_or (drop a (take n t)) i 0 ≡ get_or (take n t) (a + i) 0 = get_or-drop a (take n t) i 0 in omega (arith, e, taken_below n t h (a + i))

neighbours_below : (p : ℕ) (qs : List ℕ) → p < 2 ^ 64 → Below qs → p + neighbours p qs < 2 ^ 64
unfolding neighbours
neighbours_below p [] h b = omega arith
neighbours_below p (q ∷ qs) h b = go (eqb q (p + 1)) refl (neighbours_below q qs (b zero) (λ i. b (suc i)))
  where
    go : (x : Bool) → eqb q (p + 1) ≡ x → q + neighbours q qs < 2 ^ 64 → p + cond x (suc (neighbours q qs)) 0 < 2 ^ 64
    go true e k = let d : q ≡ p + 1 = eqb-true q (p + 1) e in omega (arith, d, k)
    go false e k = omega arith

pub run_ends : (t : List ℕ) (n a : ℕ) → Below t → Ends (run_at t n a)
unfolding run_at
run_ends t n a h = go (ltb a n)
  where
    go : (x : Bool) → Ends (cond x (run (get_or t a 0) (suc (neighbours (get_or t a 0) (part t n (a + 1))))) (run 0 0))
    go true = omega (arith, neighbours_below (get_or t a 0) (part t n (a + 1)) (h a) (part_below t n (a + 1) h))
    go false = omega arith

none_ends : Ends no_run
none_ends = omega arith

written_ends : (tracked : Bool) (q : Change) (r : PageRun) → Ends r → Ends (written_by tracked q r)
written_ends tracked q r h = go (is_vtl0 q.vtl && (tracked && eqb q.source 0))
  where
    go : (x : Bool) → Ends (cond x r no_run)
    go true = h
    go false = none_ends

pub pages_end_lem : (tracked : Bool) (q : Change) (t : List ℕ) (a : ℕ) → Below t → Ends (protect_pages tracked q t a).written
unfolding protect_pages protect wait ask
pages_end_lem tracked q t a h = go (ltb a q.n)
  where
    go : (x : Bool) → Ends (cond x (protect tracked at.ProtectPages q a (run_at t q.n a)) (wait q Keep)).written
    go true = written_ends tracked q (run_at t q.n a) (run_ends t q.n a h)
    go false = none_ends

pub ram_ends : (tracked : Bool) (q : Change) (r : PageRun) → r.first + r.count < 2 ^ 64 → Ends (protect_ram tracked q r).written
unfolding protect_ram protect wait ask
ram_ends tracked q r h = go (eqb r.count 0)
  where
    go : (x : Bool) → Ends (cond x (wait q Keep) (protect tracked at.ProtectRam q (r.first + r.count) r)).written
    go true = none_ends
    go false = written_ends tracked q r (omega (arith, h))

pub done_ends : (tracked : Bool) (g : Stage) (q : Change) (t : List ℕ) (next : PageRun) → Below t → next.first + next.count < 2 ^ 64 → Ends (done_of tracked g q t next).written
unfolding done_of wait ask finish keep
done_ends tracked at.Idle q t next h k = none_ends
done_ends tracked at.Halted q t next h k = none_ends
done_ends tracked at.ProtectPages q t next h k = pages_end_lem tracked q t (run_end t q.n q.at) h
done_ends tracked at.ProtectRam q t next h k = ram_ends tracked q next k
done_ends tracked at.ProtectNew q t next h k = none_ends
done_ends tracked at.ProtectOld q t next h k = none_ends
done_ends tracked at.Wait q t next h k = none_ends
done_ends tracked at.Flush q t next h k = none_ends
done_ends tracked at.TlbWait q t next h k = none_ends

pub failed_ends : (g : Stage) (q : Change) → Ends (failed_of g q).written
unfolding failed_of halt finish keep
failed_ends at.Idle q = none_ends
failed_ends at.Halted q = none_ends
failed_ends at.ProtectPages q = none_ends
failed_ends at.ProtectRam q = none_ends
failed_ends at.ProtectNew q = none_ends
failed_ends at.ProtectOld q = none_ends
failed_ends at.Wait q = none_ends
failed_ends at.Flush q = none_ends
failed_ends at.TlbWait q = none_ends
