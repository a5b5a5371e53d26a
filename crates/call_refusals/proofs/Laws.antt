-- Laws of the tests of a call. Assumes nothing.
use mathlib.Core.Path.{◌≡◌, refl, sym, ap, ◌∙◌}
use mathlib.Core.Bool.{Bool, true, false, cond}
use mathlib.Core.List.{List}
use Prim.Native.Nat.{ℕ, ◌+◌, ◌≤◌, ◌<◌}
use native.Mathlib.Numerals.{add-one}
use lib.Dec.{eqb}
use lib.ListN.{length, get_or, drop, drop_of_length-le}
use lib.Seq.{drop-cons}
use borrow.Author.Tests.{eq-eqb, ne_eqb, eqb-true}
use Rattle.abi.specs.Refusals as refusal
use Rattle.laws.specs.Bools.{and_left, and_right}
use Rattle.laws.specs.Refusal.{unless, when, first, passed, first_passed}
use Rattle.layout.specs.Layout.{map_len}
use Rattle.mapping.specs.Maps.{maps_fit}
use Rattle.protector_state.specs.State.{state_len, settings_of, entries_in}
use Rattle.call_refusals.specs.declared.Lengths.{Lengths}
use Rattle.call_refusals.specs.Buffers.{Buffers, pages_len, tables_len, lengths_fit, fits_in, lengths_in, fits, status_in, takes_in}
use Rattle.call_refusals.specs.Refusals.{ready, answer_refusal, first_refusal}

-- ---- what calls test first

-- a call that goes on: the state block has its length, nothing is halted or under way, what else is lent fits
pub record Ready (s : List ℕ) (fit : Bool) (rest : ℕ) : Type 0 where
  pub long : length s ≡ state_len
  pub idle : status_in s ≡ 0
  pub fits : fit ≡ true
  pub goes : rest ≡ 0

pub is_ready : (s : List ℕ) (fit : Bool) (rest : ℕ) → ready s fit rest ≡ 0 → Ready s fit rest
unfolding ready
is_ready s fit rest z =
    let a = passed (eqb (length s) state_len) 3 _ z in
    let b = first_passed (status_in s) _ a.1 in
    let c = passed fit 3 _ b.1 in
    record { long = eqb-true _ _ a.0; idle = b.0; fits = c.0; goes = c.1 }

abbrev chain : Bool → Bool → ℕ → Bool → ℕ → ℕ
chain long idle k fit rest = unless long refusal.wrong_length (cond idle (unless fit refusal.wrong_length rest) k)

pub goes_on_lem : (s : List ℕ) (fit : Bool) (rest x : ℕ) → length s ≡ state_len → status_in s ≡ 0 → fit ≡ true → x ≡ rest → x ≡ ready s fit rest
unfolding ready
goes_on_lem s fit rest x a b c q = rw (eq-eqb _ _ a, eq-eqb _ _ b, c) q

-- a chain that refuses does so whatever comes after these tests, unless it is what comes after that does
pub swaps : (s : List ℕ) (fit : Bool) (a b n : ℕ) → (n ≡ 0 → ⊥) → n ≡ ready s fit a → (n ≡ a → n ≡ b) → n ≡ ready s fit b
unfolding ready
swaps s fit a b n h e f = go (eqb (length s) state_len) (eqb (status_in s) 0) fit e
  where
    go : (long idle fit : Bool) → n ≡ chain long idle (status_in s) fit a → n ≡ chain long idle (status_in s) fit b
    go false idle fit e = e
    go true false fit e = e
    go true true false e = e
    go true true true e = f e

-- by what the state's tests gave
module _ (s : List ℕ) (n : ℕ) (e : n ≡ ready s true 0) where
  pub state_refuses : (fit : Bool) (rest : ℕ) → (n ≡ 0 → ⊥) → n ≡ ready s fit rest
  unfolding ready
  state_refuses fit rest h = e ∙ stops (eqb (length s) state_len) (eqb (status_in s) 0) (status_in s) (λ z. h (e ∙ z))
    where
      stops : (long idle : Bool) (k : ℕ) → (chain long idle k true 0 ≡ 0 → ⊥) → chain long idle k true 0 ≡ chain long idle k fit rest
      stops false idle k h = refl
      stops true false k h = refl
      stops true true k h = absurd (h refl)

  module _ (z : n ≡ 0) where
    passes : Ready s true 0
    passes = is_ready s true 0 (sym e ∙ z)

    pub state_long : length s ≡ state_len
    state_long = passes.long

    pub state_unfit : (fit : Bool) (rest : ℕ) → fit ≡ false → refusal.wrong_length ≡ ready s fit rest
    unfolding ready
    state_unfit fit rest f = rw (eq-eqb _ _ passes.long, eq-eqb _ _ passes.idle, f)

    pub state_passes : (fit : Bool) (rest x : ℕ) → fit ≡ true → x ≡ rest → x ≡ ready s fit rest
    state_passes fit rest x f q = goes_on_lem s fit rest x passes.long passes.idle f q

-- by what all of these tests gave
module _ (s : List ℕ) (fit : Bool) (n : ℕ) (e : n ≡ ready s fit 0) where
  pub lent_refuses : (rest : ℕ) → (n ≡ 0 → ⊥) → n ≡ ready s fit rest
  lent_refuses rest h = swaps s fit 0 rest n h e (λ z. absurd (h z))

  module _ (z : n ≡ 0) where
    pub lent_ready : Ready s fit 0
    lent_ready = is_ready s fit 0 (sym e ∙ z)

    pub lent_passes : (rest x : ℕ) → x ≡ rest → x ≡ ready s fit rest
    lent_passes rest x q = goes_on_lem s fit rest x lent_ready.long lent_ready.idle lent_ready.fits q

-- ---- an answer that nothing waits for is refused

pub untaken_refused : (s : List ℕ) (fit failed : Bool) → takes_in s failed ≡ false → eqb (answer_refusal s fit failed) 0 ≡ false
unfolding answer_refusal
untaken_refused s fit failed e = rw e (go (eqb (length s) state_len) (eqb (status_in s) refusal.halted) fit)
  where
    go : (a b c : Bool) → eqb (unless a refusal.wrong_length (when b refusal.halted (unless c refusal.wrong_length refusal.nothing_asked))) 0 ≡ false
    go true false true = refl
    go true false false = refl
    go true true c = refl
    go false b c = refl

-- ---- the first page that is refused

module _ (f : ℕ → ℕ) (ps : List ℕ) (i p n : ℕ) (h : i < length ps) (e : p ≡ get_or ps i 0) (g : n ≡ f p) where
  first_step : first_refusal f (drop i ps) ≡ first n (first_refusal f (drop (i + 1) ps))
  unfolding first_refusal
  first_step = ap (first_refusal f) (drop-cons ps i 0 h) ∙ rw (← e, ← g, add-one i)

  pub first_hit : (n ≡ 0 → ⊥) → first_refusal f (drop i ps) ≡ n
  first_hit d = first_step ∙ ap (λ (b : Bool). cond b (first_refusal f (drop (i + 1) ps)) n) (ne_eqb n 0 d)

  pub first_miss : n ≡ 0 → first_refusal f (drop i ps) ≡ first_refusal f (drop (i + 1) ps)
  first_miss d = first_step ∙ ap (λ (b : Bool). cond b (first_refusal f (drop (i + 1) ps)) n) (eq-eqb n 0 d)

pub first_end : (f : ℕ → ℕ) (ps : List ℕ) (i : ℕ) → length ps ≤ i → first_refusal f (drop i ps) ≡ 0
unfolding first_refusal
first_end f ps i h = ap (first_refusal f) (drop_of_length-le ps {i = i} h)

-- ---- lengths

module _ (len : ℕ) (tracked : Bool) (l : Lengths) (h : lengths_fit len tracked l ≡ true) where
  pub maps_fit_lem : maps_fit len tracked l.maps ≡ true
  maps_fit_lem = and_left (maps_fit len tracked l.maps) _ h

  pub blocks_fit : (l.pages ≡ pages_len) × (l.tables ≡ tables_len)
  blocks_fit =
      let b = and_right (maps_fit len tracked l.maps) _ h in
      (eqb-true _ _ (and_left (eqb l.pages pages_len) _ b), eqb-true _ _ (and_right (eqb l.pages pages_len) _ b))

module _ (s : List ℕ) (l : Lengths) (h : fits_in s l ≡ true) where
  pub pages_fit : l.pages ≡ pages_len
  pages_fit = (blocks_fit (map_len (entries_in s)) (settings_of s).tracked l h).0

  pub tables_fit : l.tables ≡ tables_len
  tables_fit = (blocks_fit (map_len (entries_in s)) (settings_of s).tracked l h).1

module _ (w : Buffers) (h : fits w ≡ true) where
  pub fits_pages : length w.pages ≡ pages_len
  fits_pages = pages_fit w.state (lengths_in w) h

  pub fits_tables : length w.tables ≡ tables_len
  fits_tables = tables_fit w.state (lengths_in w) h

-- ---- the layout and the tables that a call looks at
