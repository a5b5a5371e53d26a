-- What is lent keeps its lengths, whatever a call writes into it. Assumes nothing.
use native.Mathlib.Omega.{arith}
use Prim.Native.Nat.{ℕ, zero, suc, ◌+◌, ◌-◌, ◌*◌, ◌<◌, min}
use mathlib.Core.Path.{◌≡◌, refl, sym, ap, ◌∙◌}
use mathlib.Core.List.{List, ◌++◌}
use mathlib.Core.Bool.{Bool, true, false, cond}
use lib.ListN.{length, take, drop, set, get_or, length-set, length-append, length-drop, take-append-drop}
use lib.Seq.{sets, length-sets, drop-drop, get_or-drop, get_or-set_other}
use Rattle.words.specs.Words.{swapped}
use Rattle.words.proofs.Padded.{length_closed}
use Rattle.bitmap.proofs.Map.{length_written}
use Rattle.permissions.specs.Flags.{vtl_number, bool_of}
use Rattle.overlay_table.specs.Overlays.{entry, add_words}
use Rattle.lock_table.specs.Locks as locks
use Rattle.request_pages.specs.Request.{put}
use Rattle.visibility_steps.specs.declared.Phase.{Phase}
use Rattle.visibility_steps.specs.declared.Request.{Request}
use Rattle.visibility_steps.specs.declared.Step.{Step}
use Rattle.change_steps.specs.declared.Stage.{Stage}
use Rattle.change_steps.specs.declared.Entry.{Entry}
use Rattle.change_steps.specs.declared.Entry.TheVariants.{Keep, Add, Remove}
use Rattle.change_steps.specs.declared.Change.{Change}
use Rattle.change_steps.specs.declared.ChangeStep.{ChangeStep}
use Rattle.protector_state.specs.State.{state_len, request_words, with_request, settings_of, entries_in}
use Rattle.protector_state.specs.Changing.{change_words, with_change}
use Rattle.call_refusals.specs.Buffers.{Buffers, buffers, overlays_of}
use Rattle.protector.specs.Writes.{applied, without_page, entered}
use Rattle.protector.specs.Calls.{carried_out, carried_change}
use Rattle.visibility_claims.proofs.Ends.{change_entries}
use Rattle.change_claims.proofs.Tables.{add_long, without_long}
use Rattle.history.proofs.Buffers.{request_entries}
use Rattle.history.proofs.Calls.{set_entries}
use Rattle.history.proofs.Passed.{Fitting}

-- ---- runs of words

split_long : (n : ℕ) (l : List ℕ) → length (take n l) + length (drop n l) ≡ length l
split_long n l = sym (length-append (take n l) (drop n l)) ∙ ap length (take-append-drop n l)

swapped_long : (t : List ℕ) (a n m : ℕ) → length (swapped t a n m) ≡ length t
unfolding swapped
swapped_long t a n m =
    let d : List ℕ = drop a t in
    let e : List ℕ = drop n d in
    omega (arith, length-append (take a t) (take m e ++ (take n d ++ drop m e)), length-append (take m e) (take n d ++ drop m e), length-append (take n d) (drop m e), split_long a t, split_long n d, split_long m e)

either_long : (b : Bool) (n : ℕ) (x y : List ℕ) → length x ≡ n → length y ≡ n → length (cond b x y) ≡ n
either_long true n x y e f = e
either_long false n x y e f = f

pub lock_long : (t l : List ℕ) → length (locks.lock_words t l) ≡ length t
lock_long t l =
    let n : ℕ = locks.used t + 1 in
    let e : ℕ = locks.end_of t (locks.used t) + length l in
    let r : List ℕ = sets t (locks.pages_end t) l in
    either_long (locks.has_room t (length l)) (length t) (locks.one_more t l) t (length-set (set r n e) 0 n ∙ length-set r n e ∙ length-sets t (locks.pages_end t) l) refl

moved_long : (n : ℕ) (t : List ℕ) (k b d : ℕ) → length (locks.moved t n k b d) ≡ length t
unfolding locks.moved
moved_long zero t k b d = refl
moved_long (suc n) t k b d = let v : ℕ = min 1024 (get_or t k 0) - b + d in moved_long n (set t k v) (suc k) b d ∙ length-set t k v

lock_gone_long : (t : List ℕ) (c i : ℕ) → length (locks.without t c i) ≡ length t
unfolding locks.without
lock_gone_long t c i =
    let b : ℕ = locks.end_of t (suc i) in
    let d : ℕ = locks.end_of t i + (locks.end_of t c - locks.end_of t (c - 1)) in
    let p : List ℕ = locks.pages_gone t c i in
    let m : List ℕ = locks.moved p (c - suc i) (suc i) b d in
    let z : ℕ = locks.place_of t c in
    let r : List ℕ = locks.last_to t (locks.place_of t (suc i)) (locks.place_of t (c - 1)) z in
    length-set (set m c 0) 0 (c - 1) ∙ length-set m c 0 ∙ moved_long (c - suc i) p (suc i) b d
    ∙ length_closed r (locks.place_of t i) (b - locks.end_of t i) z ∙ swapped_long t (locks.place_of t (suc i)) _ _

pub unlock_long : (t l : List ℕ) → length (locks.unlock_words t l) ≡ length t
unlock_long t l =
    let i : ℕ = locks.equal_from t (locks.used t) 0 l in
    either_long (locks.kept (locks.lists_of t) l) (length t) (locks.without t (locks.used t) i) t (lock_gone_long t (locks.used t) i) refl

-- other words in place of a part
pub replaced_long : (a n : ℕ) (t x : List ℕ) → length x ≡ length (take n (drop a t)) → length (take a t ++ (x ++ drop (a + n) t)) ≡ length t
replaced_long a n t x e =
    omega (arith, length-append (take a t) (x ++ drop (a + n) t), length-append x (drop (a + n) t), split_long a t, split_long n (drop a t), ap length (drop-drop n a t), e)

entered_long : (e : Entry) (q : Change) (t : List ℕ) → length (entered e q t) ≡ length t
unfolding entered
entered_long Keep q t = refl
entered_long Add q t = replaced_long (641 * vtl_number q.vtl) 641 t (add_words (overlays_of t q.vtl) (entry q.at q.previous q.flags 1 q.source)) (add_long (overlays_of t q.vtl) (entry q.at q.previous q.flags 1 q.source))
entered_long Remove q t = replaced_long (641 * vtl_number q.vtl) 641 t (without_page (overlays_of t q.vtl) q.at) (without_long (overlays_of t q.vtl) q.at)

-- ---- buffers whose lengths, layout and tracking are the same

pub record Same (w v : Buffers) : Type 0 where
  pub state : length v.state ≡ length w.state
  pub entries : entries_in v.state ≡ entries_in w.state
  pub tracked : (settings_of v.state).tracked ≡ (settings_of w.state).tracked
  pub private : length v.maps.private ≡ length w.maps.private
  pub shared : length v.maps.shared ≡ length w.maps.shared
  pub read : length v.maps.permissions.read ≡ length w.maps.permissions.read
  pub write : length v.maps.permissions.write ≡ length w.maps.permissions.write
  pub kernel : length v.maps.permissions.kernel ≡ length w.maps.permissions.kernel
  pub user : length v.maps.permissions.user ≡ length w.maps.permissions.user
  pub pages : length v.pages ≡ length w.pages
  pub tables : length v.tables ≡ length w.tables

pub same_fitting : (w v : Buffers) → Same w v → Fitting w → Fitting v
same_fitting w v s k =
    record { long = s.state ∙ k.long; fit = rw (s.entries, s.tracked, s.private, s.shared, s.read, s.write, s.kernel, s.user, s.pages, s.tables) k.fit }

-- ---- a step carried out

request_long : (p : Phase) (q : Request) (s : List ℕ) → length s ≡ state_len → length (with_request p q s) ≡ length s
request_long p q s e = length-append (request_words p q) (drop 10 s) ∙ omega (arith, length-drop 10 s, e)

change_long : (g : Stage) (q : Change) (s : List ℕ) → length s ≡ state_len → length (with_change g q s) ≡ length s
change_long g q s e = length-append (change_words g q) (drop 14 s) ∙ omega (arith, length-drop 14 s, e)

pub step_fitting : (w : Buffers) (t : List ℕ) (x : Step) → length t ≡ length w.pages → Fitting w → Fitting (carried_out w t x).buffers
unfolding carried_out applied put
step_fitting w t x e k =
    same_fitting w _
    (record {
      state = request_long x.phase x.request w.state k.long;
      entries = request_entries x.phase x.request w.state;
      tracked = ap bool_of (get_or-drop 10 w.state 7 0);
      private = length_written 8 _ _ w.maps.private;
      shared = length_written 8 _ _ w.maps.shared;
      read = length_written 8 _ _ w.maps.permissions.read;
      write = length_written 8 _ _ w.maps.permissions.write;
      kernel = length_written 8 _ _ w.maps.permissions.kernel;
      user = length_written 8 _ _ w.maps.permissions.user;
      pages = e;
      tables = refl;
    }) k

pub change_fitting : (w : Buffers) (t : List ℕ) (x : ChangeStep) → length t ≡ length w.pages → Fitting w → Fitting (carried_change w t x).buffers
unfolding carried_change
change_fitting w t x e k =
    same_fitting w _
    (record {
      state = change_long x.stage x.change w.state k.long;
      entries = change_entries x.stage x.change w.state;
      tracked = ap bool_of (get_or-drop 14 w.state 3 0);
      private = refl;
      shared = refl;
      read = length_written 8 _ _ w.maps.permissions.read;
      write = length_written 8 _ _ w.maps.permissions.write;
      kernel = length_written 8 _ _ w.maps.permissions.kernel;
      user = length_written 8 _ _ w.maps.permissions.user;
      pages = e;
      tables = entered_long x.entry x.change w.tables;
    }) k

-- ---- other tables, and another word of the state block

pub tables_fitting : (w : Buffers) (t : List ℕ) → length t ≡ length w.tables → Fitting w → Fitting (buffers w.maps w.state w.pages t)
tables_fitting w t e k =
    same_fitting w _ (record { state = refl; entries = refl; tracked = refl; private = refl; shared = refl; read = refl; write = refl; kernel = refl; user = refl; pages = refl; tables = e }) k

pub set_fitting : (w : Buffers) (i x : ℕ) → 17 < i → i < 31 → Fitting w → Fitting (buffers w.maps (set w.state i x) w.pages w.tables)
set_fitting w i x low high k =
    same_fitting w _
    (record {
      state = length-set w.state i x;
      entries = set_entries w.state i x (omega (arith, low)) high;
      tracked = ap bool_of (get_or-set_other w.state i 17 x 0 (λ e. omega arith));
      private = refl;
      shared = refl;
      read = refl;
      write = refl;
      kernel = refl;
      user = refl;
      pages = refl;
      tables = refl;
    }) k
