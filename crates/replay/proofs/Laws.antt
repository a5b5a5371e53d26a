-- Laws of calls counted and lines put: what a step leaves is what was to be done before it. Assumes nothing.
use Rattle.std.proofs.Common.{◌≡◌, ℕ, suc, ◌+◌, ◌-◌, ◌%◌, ◌<◌, ◌≤◌, Bool, true, false, List, replicate, sym, ap, ◌∙◌, ap₂, arith}
use Rattle.laws.specs.Bools.{took, took_not}
use Rattle.recording.specs.Lists.{Filling, filling, after_runs, with_runs, entry_place, with_entries, part_of}
use Rattle.playback.specs.declared.buffers.Buffers.{Buffers}
use Rattle.playback.specs.declared.buffers.Call.{Call}
use Rattle.playback.specs.declared.registry.Registry.{Registry}
use Rattle.playback.specs.Registry as registry
use Rattle.replay.specs.Tally.{recorded, is_same, bumped, cell_of, counted, noted_of}
use Rattle.replay.specs.Lines.{fields_at, runs_at, after_line, put_of, put_times, put_often, compared_to, buffers_after, tally_after, after_lines, registry_compared_to, registry_after, registry_tally}

-- ---- a call counted

module _ (t f g : List ℕ) (n col : ℕ) (a b c : List ℕ) (p : a ≡ bumped t 0) (q : b ≡ bumped a (16 + n % 32)) (r : c ≡ bumped b (64 + cell_of f col)) where
  counts : c ≡ counted t f n col
  counts = r ∙ ap (λ (x : List ℕ). bumped x (64 + cell_of f col)) (q ∙ ap (λ (x : List ℕ). bumped x (16 + n % 32)) p)

  module _ (s : Bool) (e : s ≡ is_same f g) where
    pub noted_same : (d x : List ℕ) → s ≡ true → d ≡ bumped c 1 → x ≡ bumped d (160 + cell_of f col) → x ≡ noted_of t f g n col
    unfolding noted_of
    noted_same d x h u v =
        took (is_same f g) _ _ x (sym e ∙ h) (v ∙ ap (λ (y : List ℕ). bumped y (160 + cell_of f col)) (u ∙ ap (λ (y : List ℕ). bumped y 1) counts))

    pub noted_other : (x : List ℕ) → s ≡ false → x ≡ bumped c 2 → x ≡ noted_of t f g n col
    unfolding noted_of
    noted_other x h u = took_not (is_same f g) _ _ x (sym e ∙ h) (u ∙ ap (λ (y : List ℕ). bumped y 2) counts)

-- ---- a call put, and put often

module _ (w : Buffers) (c : Call) (l ram : List ℕ) (n i : ℕ) where
  pub times_next : (v : Buffers) → i < n → v ≡ put_of w c l ram → put_times (n - (i + 1)) v c l ram ≡ put_times (n - i) w c l ram
  unfolding put_times
  times_next v h p = let d : n - i ≡ suc (n - (i + 1)) = omega arith in rw (d, p)

  pub times_none : n ≤ i → w ≡ put_times (n - i) w c l ram
  unfolding put_times
  times_none h = let d : n - i ≡ 0 = omega arith in rw d

-- ---- lines

module _ (s : List ℕ) (w : Buffers) (at : ℕ) (t : List ℕ) (n i : ℕ) where
  pub lines_next : (v : Buffers) (k : ℕ) (u : List ℕ) → i < n → v ≡ buffers_after s w at → k ≡ after_line s at → u ≡ compared_to (buffers_after s w at) (fields_at s at) t
      → tally_after (n - (i + 1)) s v k u ≡ tally_after (n - i) s w at t
  unfolding tally_after
  lines_next v k u h p q r = let d : n - i ≡ suc (n - (i + 1)) = omega arith in rw (d, p, q, r)

  pub lines_none : n ≤ i → t ≡ tally_after (n - i) s w at t
  unfolding tally_after
  lines_none h = let d : n - i ≡ 0 = omega arith in rw d

module _ (n i : ℕ) (s : List ℕ) (at : ℕ) where
  pub after_next : (k : ℕ) → i < n → k ≡ after_line s at → after_lines (n - (i + 1)) s k ≡ after_lines (n - i) s at
  unfolding after_lines
  after_next k h q = let d : n - i ≡ suc (n - (i + 1)) = omega arith in rw (d, q)

  pub after_none : n ≤ i → at ≡ after_lines (n - i) s at
  unfolding after_lines
  after_none h = let d : n - i ≡ 0 = omega arith in rw d

module _ (s : List ℕ) (w : Registry) (at : ℕ) (t : List ℕ) (n i : ℕ) where
  pub registry_next : (v : Registry) (k : ℕ) (u : List ℕ) → i < n → v ≡ registry_after s w at → k ≡ after_line s at
      → u ≡ registry_compared_to (registry_after s w at) (fields_at s at) t → registry_tally (n - (i + 1)) s v k u ≡ registry_tally (n - i) s w at t
  unfolding registry_tally
  registry_next v k u h p q r = let d : n - i ≡ suc (n - (i + 1)) = omega arith in rw (d, p, q, r)

  pub registry_none : n ≤ i → t ≡ registry_tally (n - i) s w at t
  unfolding registry_tally
  registry_none h = let d : n - i ≡ 0 = omega arith in rw d

pub line_after : (s : List ℕ) (at : ℕ) (f : List ℕ) (a : ℕ) (c : Call) (n : ℕ) → f ≡ fields_at s at → a ≡ runs_at s at → c ≡ recorded f → n ≡ after_runs c.runs s a → n ≡ after_line s at
line_after s at f a c n ef ea ec p = rw (p, ea, ec, ef)

-- ---- a line as it is read: f its numbers, a the place of its runs, c its call, m and k the layout's words and how many

module _ (s : List ℕ) (at : ℕ) (f : List ℕ) (a : ℕ) (c : Call) (m ram : List ℕ) (k : ℕ) (ef : f ≡ fields_at s at) (ea : a ≡ runs_at s at) (ec : c ≡ recorded f)
    (em : m ≡ with_entries c.runs s a 0 (replicate 96 0)) (ek : k ≡ entry_place c.runs) (er : ram ≡ part_of m k) where
  pub registry_line : (w v : Registry) → v ≡ registry.call_of w c ram → v ≡ registry_after s w at
  registry_line w v p = rw (p, er, em, ek, ea, ec, ef)

  pub registry_compared : (w v : Registry) (t u : List ℕ) → v ≡ registry.call_of w c ram → u ≡ registry_compared_to v f t → u ≡ registry_compared_to (registry_after s w at) (fields_at s at) t
  registry_compared w v t u p q = q ∙ ap₂ (λ (x : Registry) (y : List ℕ). registry_compared_to x y t) (registry_line w v p) ef

  module _ (b l : List ℕ) (n : ℕ) (eb : filling b n ≡ with_runs c.runs s a (filling (replicate 4096 0) 0)) (el : l ≡ part_of b n) where
    list_read : l ≡ (let x : Filling = with_runs c.runs s a (filling (replicate 4096 0) 0) in part_of x.bytes x.at)
    list_read = el ∙ ap (λ (x : Filling). part_of x.bytes x.at) eb

    pub protector_line : (w v : Buffers) → v ≡ put_often w c l ram → v ≡ buffers_after s w at
    protector_line w v p = rw (p, list_read, er, em, ek, ea, ec, ef)

    pub protector_compared : (w v : Buffers) (t u : List ℕ) → v ≡ put_often w c l ram → u ≡ compared_to v f t → u ≡ compared_to (buffers_after s w at) (fields_at s at) t
    protector_compared w v t u p q = q ∙ ap₂ (λ (x : Buffers) (y : List ℕ). compared_to x y t) (protector_line w v p) ef
