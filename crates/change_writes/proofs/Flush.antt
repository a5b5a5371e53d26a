-- Wait, Flush and TlbWait done: what `flush_done` gives is the step of the definition, which writes nothing. Assumes nothing.
use mathlib.Core.Path.{◌≡◌, refl, sym, subst, ◌∙◌}
use mathlib.Core.Bool.{Bool, true}
use mathlib.Core.List.{List}
use Prim.Native.Nat.{ℕ}
use Rattle.laws.specs.Bools.{false≢true}
use Rattle.permissions.specs.declared.IsolationType.{IsolationType}
use Rattle.permissions.specs.declared.HvMapGpaFlags.{HvMapGpaFlags}
use Rattle.permissions.specs.Flags.{flags_of}
use Rattle.bitmap.proofs.Steps.{run_none}
use Rattle.page_list.specs.declared.PageRun.{PageRun}
use Rattle.mapping.specs.Maps.{Permissions}
use Rattle.change_steps.specs.declared.Stage.{Stage}
use Rattle.change_steps.specs.declared.Stage.TheVariants as at
use Rattle.change_steps.specs.declared.Entry.TheVariants.{Keep}
use Rattle.change_steps.specs.declared.Change.{Change}
use Rattle.change_steps.specs.declared.ChangeStep.{ChangeStep}
use Rattle.change_steps.specs.Changes.{no_run, step, ask, finish, done_of, is_flushing, flush_stage, flush_change, flush_answer}
use Rattle.protector_state.specs.declared.Reply.{Reply}
use Rattle.protector_state.specs.State.{settings_of}
use Rattle.protector_state.specs.Reply.{asked_of, flat_of}
use Rattle.protector_state.specs.Changing.{stage_in, change_in, with_change}
use Rattle.protector.specs.Writes.{permitted_run, entered}
use Rattle.protector.specs.Calls.{after_done}
use Rattle.change_writes.specs.Flush.{flush_reply}

-- the step to the stage that follows
abbrev flush_step : Stage → Change → ChangeStep
flush_step g q = step g (flush_change g q) (flush_answer g q) no_run Keep

flush_done : (tracked : Bool) (g : Stage) (q : Change) (t : List ℕ) (next : PageRun) → is_flushing g ≡ true → done_of tracked g q t next ≡ flush_step (flush_stage g) q
unfolding done_of ask finish
flush_done tracked at.Idle q t next h = absurd (false≢true h)
flush_done tracked at.Halted q t next h = absurd (false≢true h)
flush_done tracked at.ProtectPages q t next h = absurd (false≢true h)
flush_done tracked at.ProtectRam q t next h = absurd (false≢true h)
flush_done tracked at.ProtectNew q t next h = absurd (false≢true h)
flush_done tracked at.ProtectOld q t next h = absurd (false≢true h)
flush_done tracked at.Wait q t next h = refl
flush_done tracked at.Flush q t next h = refl
flush_done tracked at.TlbWait q t next h = refl

flush_flat : (i : IsolationType) (g : Stage) (q : Change) → flush_reply g q ≡ flat_of i (flush_answer g q)
unfolding flat_of asked_of
flush_flat i at.Idle q = refl
flush_flat i at.Halted q = refl
flush_flat i at.ProtectPages q = refl
flush_flat i at.ProtectRam q = refl
flush_flat i at.ProtectNew q = refl
flush_flat i at.ProtectOld q = refl
flush_flat i at.Wait q = refl
flush_flat i at.Flush q = refl
flush_flat i at.TlbWait q = refl

no_run_permitted : (f : HvMapGpaFlags) (m : Permissions) → m ≡ permitted_run no_run f m
no_run_permitted f m =
    rw (sym (run_none 8 f.readable m.read 0), sym (run_none 8 f.writable m.write 0), sym (run_none 8 f.kernel_executable m.kernel 0), sym (run_none 8 f.user_executable m.user 0)) refl

module _ (private s pages tables : List ℕ) (m : Permissions) where
  -- what a step gives, as the contract of `answer_done` has it
  abbrev Gives : ChangeStep → List ℕ → Reply → Type 0
  Gives x s' r =
      (m ≡ permitted_run x.written (flags_of x.change.flags) m) × ((s' ≡ with_change x.stage x.change s) × ((tables ≡ entered x.entry x.change tables) × (r ≡ flat_of (settings_of s).isolation x.answer)))

  flush_gives : (g : Stage) (q : Change) (s' : List ℕ) (r : Reply) → s' ≡ with_change g (flush_change g q) s → r ≡ flush_reply g q → Gives (flush_step g q) s' r
  unfolding entered
  flush_gives g q s' r e f = (no_run_permitted _ m, (e, (refl, f ∙ flush_flat (settings_of s).isolation g q)))

  pub flush_made : is_flushing (stage_in s) ≡ true → (s' : List ℕ) (r : Reply)
      → (s' ≡ with_change (flush_stage (stage_in s)) (flush_change (flush_stage (stage_in s)) (change_in s)) s) × (r ≡ flush_reply (flush_stage (stage_in s)) (change_in s))
      → Gives (after_done private s pages tables) s' r
  unfolding after_done
  flush_made h s' r e =
      subst (λ (x : ChangeStep). Gives x s' r) (sym (flush_done (settings_of s).tracked (stage_in s) (change_in s) pages _ h)) (flush_gives (flush_stage (stage_in s)) (change_in s) s' r e.0 e.1)
