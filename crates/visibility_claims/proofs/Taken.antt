-- What every step has that a taken answer leads to, where each way that it may go has it. Assumes nothing.
use Rattle.permissions.specs.declared.HvMapGpaFlags.{HvMapGpaFlags}
use Rattle.std.specs.Prelude.{Option, Some, None}
use mathlib.Core.Path.{◌≡◌, refl}
use mathlib.Core.Bool.{Bool, true, false, cond, ◌&&◌}
use mathlib.Core.List.{List}
use Prim.Native.Nat.{ℕ, ◌+◌, ◌<◌}
use lib.Dec.{ltb, leb}
use lib.ListN.{get_or}
use borrow.Author.Tests.{leb-false}
use Rattle.laws.specs.Bools.{false≢true}
use Rattle.request_pages.specs.Request.{run_end}
use Rattle.visibility_steps.specs.declared.Phase.{Phase}
use Rattle.visibility_steps.specs.declared.Phase.TheVariants as at
use Rattle.visibility_steps.specs.declared.Settings.{Settings}
use Rattle.visibility_steps.specs.declared.Request.{Request}
use Rattle.visibility_steps.specs.declared.Writes.{Writes}
use Rattle.visibility_steps.specs.declared.Step.{Step}
use Rattle.visibility_steps.specs.Steps.{is_snp, is_cca, releases, no_writes, set_shared, set_private, set_permissions, ask, end, halt, share_run, default_run, return_run, after_flush, after_wait, after_modify, after_accept, after_default0, cut_at, failed_modify, done_of, failed_of}
use Rattle.call_refusals.specs.Buffers.{takes}

module _ (s : Settings) (t : List ℕ) (I : Request → Type 0) (P : Step → Type 0) (asks : (p : Phase) (q : Request) (a : ℕ) (w : Writes) → I q → P (ask s p q t a w))
    (ends : (q : Request) (w : Writes) → I q → P (end q w)) (halts : (q : Request) → I q → P (halt q))
    (cuts : (q : Request) (k code i : ℕ) → k < q.n → I q → I (cut_at q k code i)) where
  pick : {x y : Step} (c : Bool) → P x → P y → P (cond c x y)
  pick true f g = f
  pick false f g = g

  share : (q : Request) (a : ℕ) → I q → P (share_run s q t a)
  unfolding share_run
  share q a h =
      pick (ltb a q.n && is_snp s.isolation) (asks at.ProtectNone0 q a no_writes h)
      (pick (ltb a q.n && releases s.isolation s.release) (asks at.Release q a no_writes h) (asks at.Modify q 0 no_writes h))

  default : (q : Request) (a : ℕ) (w : Writes) → I q → P (default_run s q t a w)
  unfolding default_run
  default q a w h =
      pick (ltb a q.n) (asks at.ProtectDefault0 q a (set_permissions w a (cond s.tracked (run_end t q.n a) a) s.defaults.vtl0) h) (ends q w h)

  return : (q : Request) (a : ℕ) (w : Writes) → I q → P (return_run s q t a w)
  unfolding return_run
  return q a w h =
      pick (ltb a q.n) (pick (is_cca s.isolation) (default q 0 (set_private w q.n) h) (asks at.Accept q a w h)) (default q 0 (set_private w q.n) h)

  flushed : (q : Request) → I q → P (after_flush s q t)
  unfolding after_flush
  flushed q h = pick q.share (share q 0 h) (asks at.Modify q 0 no_writes h)

  second : (g : Option HvMapGpaFlags) (q : Request) → I q → P (after_default0 g s q t)
  second (Some f) q h = asks at.ProtectDefault1 q q.at no_writes h
  second None q h = default q (run_end t q.n q.at) no_writes h

  pub done_has : (p : Phase) (q : Request) → takes p false ≡ true → I q → P (done_of s p q t)
  unfolding done_of after_wait after_modify after_accept
  done_has at.Idle q e h = false≢true e
  done_has at.Halted q e h = false≢true e
  done_has at.Wait q e h = pick (is_snp s.isolation) (asks at.FlushAll q 0 no_writes h) (flushed q h)
  done_has at.FlushAll q e h = flushed q h
  done_has at.ProtectNone0 q e h = asks at.ProtectNone1 q q.at no_writes h
  done_has at.ProtectNone1 q e h = asks at.Invalidate q q.at no_writes h
  done_has at.Invalidate q e h = share q (run_end t q.n q.at) h
  done_has at.Release q e h = share q (run_end t q.n q.at) h
  done_has at.Modify q e h = pick q.share (ends q (set_shared no_writes 0 q.n) h) (return q 0 no_writes h)
  done_has at.Accept q e h = pick (is_snp s.isolation) (asks at.Zero q q.at no_writes h) (return q (run_end t q.n q.at) no_writes h)
  done_has at.Zero q e h = return q (run_end t q.n q.at) no_writes h
  done_has at.ProtectDefault0 q e h = second s.defaults.vtl1 q h
  done_has at.ProtectDefault1 q e h = default q (run_end t q.n q.at) no_writes h

  cut : (q : Request) (code k : ℕ) → I q → P (failed_modify s q t code k)
  unfolding failed_modify
  cut q code k h = pick q.share (halts q h) (go (leb q.n k) refl)
    where
      go : (y : Bool) → leb q.n k ≡ y → P (cond y (halt q) (return_run s (cut_at q k code (get_or t (512 + k) 0)) t 0 (set_shared no_writes k q.n)))
      go true e = halts q h
      go false e = return (cut_at q k code (get_or t (512 + k) 0)) 0 (set_shared no_writes k q.n) (cuts q k code (get_or t (512 + k) 0) (leb-false q.n k e) h)

  pub failed_has : (p : Phase) (q : Request) (code k : ℕ) → takes p true ≡ true → I q → P (failed_of s p q t code k)
  unfolding failed_of
  failed_has at.Idle q code k e h = false≢true e
  failed_has at.Halted q code k e h = false≢true e
  failed_has at.Wait q code k e h = false≢true e
  failed_has at.FlushAll q code k e h = false≢true e
  failed_has at.ProtectNone0 q code k e h = halts q h
  failed_has at.ProtectNone1 q code k e h = halts q h
  failed_has at.Invalidate q code k e h = halts q h
  failed_has at.Release q code k e h = halts q h
  failed_has at.Modify q code k e h = cut q code k h
  failed_has at.Accept q code k e h = halts q h
  failed_has at.Zero q code k e h = halts q h
  failed_has at.ProtectDefault0 q code k e h = halts q h
  failed_has at.ProtectDefault1 q code k e h = halts q h
