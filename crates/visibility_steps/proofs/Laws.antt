-- One law for each way out of a function: what the code has there, in its order, and what the definition says. Assumes nothing.
use Rattle.std.proofs.Common.{◌≡◌, ℕ, ◌+◌, ◌<◌, ◌≤◌, Bool, true, false, cond, ◌&&◌, ltb, leb, List, get_or, sym, ap, ◌∙◌, ap₂, le-ltb, lt-ltb, le-leb}
use borrow.Author.Tests.{lt-leb}
use Rattle.laws.specs.Bools.{took, took_not, and_ends}
use Rattle.request_pages.specs.Request.{run_end}
use Rattle.visibility_steps.specs.declared.Phase.TheVariants as at
use Rattle.visibility_steps.specs.declared.Settings.{Settings}
use Rattle.visibility_steps.specs.declared.Request.{Request}
use Rattle.visibility_steps.specs.declared.Writes.{Writes}
use Rattle.visibility_steps.specs.declared.Step.{Step}
use Rattle.visibility_steps.specs.Steps.{is_snp, is_cca, releases, no_writes, set_private, set_shared, set_permissions, ask, end, halt, share_run, default_run, return_run, cut_at, failed_modify}

-- a test of two parts of which the first holds
then : (a b x : Bool) → a ≡ true → b ≡ x → (a && b) ≡ x
then a b x e f = ap₂ ◌&&◌ e f

-- ---- the end

-- ---- the step that stands for what an answer leads to

module _ (s : Settings) (q : Request) (t : List ℕ) (r : Step) (w : Writes) where
  -- ---- to shared

  pub share_none : (a : ℕ) → q.n ≤ a → w ≡ no_writes → r ≡ ask s at.Modify q t 0 w → r ≡ share_run s q t a
  unfolding share_run
  share_none a h e f =
      took_not (ltb a q.n && is_snp s.isolation) _ _ r (sym (and_ends _ _ (le-ltb a q.n h)))
      (took_not (ltb a q.n && releases s.isolation s.release) _ _ r (sym (and_ends _ _ (le-ltb a q.n h))) (f ∙ ap (ask s at.Modify q t 0) e))

  pub share_snp : (a : ℕ) → a < q.n → is_snp s.isolation ≡ true → w ≡ no_writes → r ≡ ask s at.ProtectNone0 q t a w → r ≡ share_run s q t a
  unfolding share_run
  share_snp a h g e f =
      took (ltb a q.n && is_snp s.isolation) _ _ r (then _ _ true (lt-ltb a q.n h) g) (f ∙ ap (ask s at.ProtectNone0 q t a) e)

  module _ (a : ℕ) (h : a < q.n) (g : is_snp s.isolation ≡ false) where
    pub share_release : releases s.isolation s.release ≡ true → w ≡ no_writes → r ≡ ask s at.Release q t a w → r ≡ share_run s q t a
    unfolding share_run
    share_release k e f =
        took_not (ltb a q.n && is_snp s.isolation) _ _ r (then _ _ false (lt-ltb a q.n h) g)
        (took (ltb a q.n && releases s.isolation s.release) _ _ r (then _ _ true (lt-ltb a q.n h) k) (f ∙ ap (ask s at.Release q t a) e))

    pub share_bare : releases s.isolation s.release ≡ false → w ≡ no_writes → r ≡ ask s at.Modify q t 0 w → r ≡ share_run s q t a
    unfolding share_run
    share_bare k e f =
        took_not (ltb a q.n && is_snp s.isolation) _ _ r (then _ _ false (lt-ltb a q.n h) g)
        (took_not (ltb a q.n && releases s.isolation s.release) _ _ r (then _ _ false (lt-ltb a q.n h) k) (f ∙ ap (ask s at.Modify q t 0) e))

  -- ---- to private

  pub default_end : (a : ℕ) → q.n ≤ a → r ≡ end q w → r ≡ default_run s q t a w
  unfolding default_run
  default_end a h f = took_not (ltb a q.n) _ _ r (le-ltb a q.n h) f

  pub default_asks : (a b : ℕ) (x : Writes) → a < q.n → b ≡ cond s.tracked (run_end t q.n a) a → x ≡ set_permissions w a b s.defaults.vtl0
      → r ≡ ask s at.ProtectDefault0 q t a x → r ≡ default_run s q t a w
  unfolding default_run
  default_asks a b x h k i f =
      took (ltb a q.n) _ _ r (lt-ltb a q.n h) (f ∙ ap (ask s at.ProtectDefault0 q t a) (i ∙ ap (λ (y : ℕ). set_permissions w a y s.defaults.vtl0) k))

  pub return_none : (a : ℕ) (x : Writes) → q.n ≤ a → x ≡ set_private w q.n → r ≡ default_run s q t 0 x → r ≡ return_run s q t a w
  unfolding return_run
  return_none a x h i f = took_not (ltb a q.n) _ _ r (le-ltb a q.n h) (f ∙ ap (default_run s q t 0) i)

  pub return_cca : (a : ℕ) (x : Writes) → a < q.n → is_cca s.isolation ≡ true → x ≡ set_private w q.n → r ≡ default_run s q t 0 x
      → r ≡ return_run s q t a w
  unfolding return_run
  return_cca a x h g i f =
      took (ltb a q.n) _ _ r (lt-ltb a q.n h) (took (is_cca s.isolation) _ _ r g (f ∙ ap (default_run s q t 0) i))

  pub return_asks : (a : ℕ) → a < q.n → is_cca s.isolation ≡ false → r ≡ ask s at.Accept q t a w → r ≡ return_run s q t a w
  unfolding return_run
  return_asks a h g f = took (ltb a q.n) _ _ r (lt-ltb a q.n h) (took_not (is_cca s.isolation) _ _ r g f)

  -- ---- after an operation

  -- ---- Modify failed

  pub failed_much : (code k : ℕ) → q.share ≡ false → q.n ≤ k → r ≡ halt q → r ≡ failed_modify s q t code k
  unfolding failed_modify
  failed_much code k h g f = took_not q.share _ _ r h (took (leb q.n k) _ _ r (le-leb q.n k g) f)

  pub failed_cut : (code k i : ℕ) (x : Writes) → q.share ≡ false → k < q.n → i ≡ get_or t (512 + k) 0 → w ≡ no_writes → x ≡ set_shared w k q.n
      → r ≡ return_run s (cut_at q k code i) t 0 x → r ≡ failed_modify s q t code k
  unfolding failed_modify
  failed_cut code k i x h g b e d f =
      took_not q.share _ _ r h
      (took_not (leb q.n k) _ _ r (lt-leb q.n k g)
      (f ∙ ap₂ (λ (y : ℕ) (z : Writes). return_run s (cut_at q k code y) t 0 z) b (d ∙ ap (λ (y : Writes). set_shared y k q.n) e)))

-- ---- what a taken call clears
