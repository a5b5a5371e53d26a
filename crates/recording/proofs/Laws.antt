-- Laws of numbers read and lists filled: what a step of a loop leaves is what was to be done before it. Assumes nothing.
use Rattle.std.proofs.Common.{◌≡◌, ◌∷◌, fold, ℕ, zero, suc, ◌+◌, ◌-◌, ◌/◌, ◌%◌, ◌^◌, ◌<◌, ◌≤◌, List, [], ◌++◌, length, get_or, take, drop, set, refl, append_assoc, append-nil, add-one, add-zero, sym, ◌∙◌, arith, length-set, drop_of_length-le, take_all, drop-cons, take-suc-set, le-ltb}
use Rattle.std.proofs.Math.Nat.{mod-mod, pow-suc, div-one, div-div-eq-div-mul}
use Rattle.std.specs.Int.{byte_at, bytes_low_first}
use Rattle.recording.specs.declared.decode.Read.{Read}
use Rattle.recording.specs.declared.lists.Run.{Run}
use Rattle.recording.specs.Decode.{digit_of, with_digit, read, digits_from, number_at, numbers_at, after_numbers}
use Rattle.recording.specs.Digest.{digest_word, digest_of}
use Rattle.recording.specs.Lists.{first_at, count_at, after_run, after_runs, Filling, with_byte, with_bytes, with_pages, with_runs, with_entry, with_entries}

-- ---- a number

module _ (s : List ℕ) (v i : ℕ) where
  pub digits_end : length s ≤ i → read v i ≡ digits_from (drop i s) v i
  unfolding digits_from
  digits_end h = rw (drop_of_length-le s h)

  pub digits_stop : i < length s → digit_of (get_or s i 0) ≡ 16 → read v (i + 1) ≡ digits_from (drop i s) v i
  unfolding digits_from
  digits_stop h e = rw (drop-cons s i 0 h, e)

  pub digits_next : (d : ℕ) → i < length s → (d ≡ digit_of (get_or s i 0)) × (d < 16) → digits_from (drop (i + 1) s) (with_digit v d) (i + 1) ≡ digits_from (drop i s) v i
  unfolding digits_from
  digits_next d h e = let k : d ≤ 15 = omega (arith, e.1) in rw (drop-cons s i 0 h, ← e.0, le-ltb 15 d k, add-one)

-- ---- numbers

module _ (s run : List ℕ) (next i : ℕ) (h : i < length run) where
  pub numbers_next : take (i + 1) (set run i (number_at s next).value) ++ numbers_at (length run - (i + 1)) s (number_at s next).next ≡ take i run ++ numbers_at (length run - i) s next
  unfolding numbers_at
  numbers_next =
      let d : length run - i ≡ suc (length run - (i + 1)) = omega arith in
      rw (d, add-one, take-suc-set run i (number_at s next).value h, append_assoc)

  pub after_next : after_numbers (length run - (i + 1)) s (number_at s next).next ≡ after_numbers (length run - i) s next
  unfolding after_numbers
  after_next = let d : length run - i ≡ suc (length run - (i + 1)) = omega arith in rw d

  module _ (n : Read) (e : n ≡ number_at s next) where
    pub numbers_step : take (i + 1) (set run i n.value) ++ numbers_at (length (set run i n.value) - (i + 1)) s n.next ≡ take i run ++ numbers_at (length run - i) s next
    numbers_step = rw (e, length-set) numbers_next

    pub after_step : after_numbers (length (set run i n.value) - (i + 1)) s n.next ≡ after_numbers (length run - i) s next
    after_step = rw (e, length-set) after_next

module _ (s run : List ℕ) (next i : ℕ) (h : length run ≤ i) where
  pub numbers_end : run ≡ take i run ++ numbers_at (length run - i) s next
  unfolding numbers_at
  numbers_end = let d : length run - i ≡ 0 = omega arith in rw (d, take_all i run h, append-nil)

  pub after_end : next ≡ after_numbers (length run - i) s next
  unfolding after_numbers
  after_end = let d : length run - i ≡ 0 = omega arith in rw d

-- ---- the digest

pub digest_fold : (d : ℕ) (run : List ℕ) → fold digest_word d run ≡ digest_of d run
unfolding digest_of
digest_fold d [] = refl
digest_fold d (w ∷ ws) = digest_fold (digest_word d w) ws

-- ---- lists filled

byte_of : (i x : ℕ) → byte_at i x ≡ x / 256 ^ i % 256
byte_of zero x = rw div-one refl
byte_of (suc i) x = refl

byte_in_bytes : (k a i x : ℕ) → i < k → get_or (bytes_low_first a k x) i 0 ≡ byte_at (a + i) x
byte_in_bytes zero a i x h = absurd (omega arith)
byte_in_bytes (suc k) a zero x h = rw add-zero refl
byte_in_bytes (suc k) a (suc i) x h = let e : a + suc i ≡ suc a + i = omega arith in rw e (byte_in_bytes k (suc a) i x (omega arith))

with_bytes-suc : (n : ℕ) (f : Filling) (x : ℕ) → with_bytes n (with_byte f (x % 256)) (x / 256) ≡ with_bytes (suc n) f x
unfolding with_bytes
with_bytes-suc n f x = rw (mod-mod x 256) refl

-- byte i of a page, of the eight that it has
module _ (x i : ℕ) (bytes : List ℕ) (e : bytes ≡ bytes_low_first 0 8 x) (h : i < 8) where
  byte_there : get_or bytes i 0 ≡ x / 256 ^ i % 256
  byte_there = let z : 0 + i ≡ i = omega arith in rw e (byte_in_bytes 8 0 i x h ∙ rw z (byte_of i x))

  pub bytes_next : (f g : Filling) → g ≡ with_byte f (get_or bytes i 0) → with_bytes (8 - (i + 1)) g (x / 256 ^ (i + 1)) ≡ with_bytes (8 - i) f (x / 256 ^ i)
  bytes_next f g p =
      let d : 8 - i ≡ suc (8 - (i + 1)) = omega arith in
      let q : x / 256 ^ (i + 1) ≡ x / 256 ^ i / 256 = rw (add-one, pow-suc) (sym (div-div-eq-div-mul x (256 ^ i) 256)) in
      rw (p, byte_there, q, d) (with_bytes-suc (8 - (i + 1)) f (x / 256 ^ i))

pub pages_next : (n i : ℕ) (f : Filling) (p : ℕ) → i < n → with_pages (n - (i + 1)) (with_bytes 8 f p) ((p + 1) % 2 ^ 64) ≡ with_pages (n - i) f p
unfolding with_pages
pages_next n i f p h = let d : n - i ≡ suc (n - (i + 1)) = omega arith in rw d

module _ (s : List ℕ) (at : ℕ) where
  runs_next : (n i : ℕ) (f : Filling) → i < n → with_runs (n - (i + 1)) s (after_run s at) (with_pages (count_at s at) f (first_at s at)) ≡ with_runs (n - i) s at f
  unfolding with_runs
  runs_next n i f h = let d : n - i ≡ suc (n - (i + 1)) = omega arith in rw d

  pub after_runs_next : (n i : ℕ) → i < n → after_runs (n - (i + 1)) s (after_run s at) ≡ after_runs (n - i) s at
  unfolding after_runs
  after_runs_next n i h = let d : n - i ≡ suc (n - (i + 1)) = omega arith in rw d

  entries_next : (n i : ℕ) (l : List ℕ) → i < n → with_entries (n - (i + 1)) s (after_run s at) (i + 1) (with_entry l i (first_at s at) (count_at s at)) ≡ with_entries (n - i) s at i l
  unfolding with_entries
  entries_next n i l h = let d : n - i ≡ suc (n - (i + 1)) = omega arith in rw d

  pub entries_end : (n i : ℕ) (l : List ℕ) → n ≤ i → l ≡ with_entries (n - i) s at i l
  unfolding with_entries
  entries_end n i l h = let d : n - i ≡ 0 = omega arith in rw d

  -- the run as it is read
  module _ (r : Run) (e : (r.first ≡ first_at s at) × (r.count ≡ count_at s at) × (r.next ≡ after_run s at)) where
    pub runs_step : (n i : ℕ) (f g : Filling) → i < n → g ≡ with_pages r.count f r.first → with_runs (n - (i + 1)) s r.next g ≡ with_runs (n - i) s at f
    runs_step n i f g h p = rw (p, e.0, e.1, e.2) (runs_next n i f h)

    pub entries_step : (n i : ℕ) (l m : List ℕ) → i < n → m ≡ with_entry l i r.first r.count → with_entries (n - (i + 1)) s r.next (i + 1) m ≡ with_entries (n - i) s at i l
    entries_step n i l m h p = rw (p, e.0, e.1, e.2) (entries_next n i l h)

pub no_bytes : (n i : ℕ) (f : Filling) (x : ℕ) → n ≤ i → f ≡ with_bytes (n - i) f x
unfolding with_bytes
no_bytes n i f x h = let d : n - i ≡ 0 = omega arith in rw d

pub no_pages : (n i : ℕ) (f : Filling) (p : ℕ) → n ≤ i → f ≡ with_pages (n - i) f p
unfolding with_pages
no_pages n i f p h = let d : n - i ≡ 0 = omega arith in rw d

pub no_runs : (n i : ℕ) (s : List ℕ) (at : ℕ) (f : Filling) → n ≤ i → f ≡ with_runs (n - i) s at f
unfolding with_runs
no_runs n i s at f h = let d : n - i ≡ 0 = omega arith in rw d

pub after_none : (n i : ℕ) (s : List ℕ) (at : ℕ) → n ≤ i → at ≡ after_runs (n - i) s at
unfolding after_runs
after_none n i s at h = let d : n - i ≡ 0 = omega arith in rw d
