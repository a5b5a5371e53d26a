-- Whatever is called between its answers, a call of a list that asks for something is the whole call as 01 writes it, under the answers that were taken: from a
-- build that was taken, and from buffers that are settled. Assumes nothing.
use Prim.Native.Nat.{ℕ}
use mathlib.Core.Path.{◌≡◌, refl, sym, ap, ◌∙◌, subst}
use mathlib.Core.List.{List, [], ◌∷◌, ◌++◌, append_assoc}
use mathlib.Core.Bool.{Bool, true, false, cond}
use Rattle.layout.proofs.Laws.{fit}
use Rattle.protector_state.specs.declared.Reply.{Reply}
use Rattle.protector_state.specs.State.{ram_of, entries_in}
use Rattle.call_refusals.specs.Buffers.{Buffers}
use Rattle.visibility_claims.specs.Table.{page}
use Rattle.history.specs.Observed.{Observed, unseen, asks, is_waiting}
use Rattle.history.specs.Marks.{read_off, Settled}
use Rattle.history.specs.Call.{Writer, Visibility, Call, Write, Read, Answer, Result, sees_writer}
use Rattle.history.specs.Made.{Made, Built}
use Rattle.history.specs.History.{OtherCallLengths, IsRefusal, History, none, call, call_with_other_lengths, refused_build, Event, Called, BuildRefused, events_in}
use Rattle.history.specs.Ends.{trace_of, Meanwhile}
use Rattle.history.specs.Requests.{IsWhole, Begun, nothing, since, then_call, then_call_with_other_lengths, then_build, begun_in, Parts}
use Rattle.history.proofs.Restart.{settled_lent}
use Rattle.history.proofs.Claim.{built_settled, built_unseen}
use Rattle.history.proofs.Follows.{whole_from}
use Rattle.history.proofs.Eight.{sharing8, asking8, share8, share8_asks}

module _ {u v x : Buffers} {o p : Observed} {d : Writer} {r : Reply} (m : Made (Write d) u v r) (asked : asks r ≡ true) (h : History v (sees_writer d r v.pages o) x p) (n : Meanwhile (trace_of h)) where
  -- in any list of calls from buffers that are settled
  pub settled_whole : {w : Buffers} → Settled w → History w (read_off w.maps) u o → IsWhole d u (trace_of h)
  settled_whole {w} k g = whole_from m asked o (entries_in w.state) (settled_lent w k g).first (fit (ram_of w.state) k.layout).in_order h n

  -- and from a build that was taken
  pub built_whole : {ram : List ℕ} {i t l : ℕ} {z w : Buffers} {reply : Reply} → Built ram i t l z w reply → reply.number ≡ 0 → History w unseen u o → IsWhole d u (trace_of h)
  built_whole {w = w} b e g = settled_whole (built_settled b e) (subst (λ (a : Observed). History w a u o) (sym (built_unseen b e)) g)

-- ---- the request that a list is told to have: the calls before it, its own and those since make up the list

further : (l xs ys : List Event) (d c : Event) → l ≡ xs ++ (d ∷ ys) → l ++ (c ∷ []) ≡ xs ++ (d ∷ (ys ++ (c ∷ [])))
further l xs ys d c e = ap (λ (l : List Event). l ++ (c ∷ [])) e ∙ append_assoc xs (d ∷ ys) (c ∷ [])

call_parts : {w u v : Buffers} {a o : Observed} (l : List Event) (b : Begun w a u o) → Parts l b → (c : Call) (r : Result c) (m : Made c u v r) → Parts (l ++ (Called c ∷ [])) (then_call b c r m)
unfolding events_in
call_parts l nothing e c r m = tt
call_parts l (since g d s n h) e c r m = further l (events_in g) (events_in h) (Called (Write d)) (Called c) e

other_lengths_parts : {w u x y : Buffers} {a o : Observed} (l : List Event) (b : Begun w a u o) → Parts l b → (c : Call) (r : Result c) (m : Made c x y r) (s : OtherCallLengths c u x) → Parts (l ++ (Called c ∷ [])) (then_call_with_other_lengths b c r m s)
unfolding events_in
other_lengths_parts l nothing e c r m s = tt
other_lengths_parts l (since g d s n h) e c r m t = further l (events_in g) (events_in h) (Called (Write d)) (Called c) e

build_parts : {w u x y : Buffers} {a o : Observed} (l : List Event) (b : Begun w a u o) → Parts l b → (ram : List ℕ) (i t k : ℕ) (r : Reply) (m : Built ram i t k x y r) (f : IsRefusal r)
    → Parts (l ++ (BuildRefused ram i t k ∷ [])) (then_build b ram i t k r m f)
unfolding events_in
build_parts l nothing e ram i t k r m f = tt
build_parts l (since g d s n h) e ram i t k r m f = further l (events_in g) (events_in h) (Called (Write d)) (BuildRefused ram i t k) e

either_parts : {w : Buffers} {a : Observed} {x : Buffers} {p : Observed} (l : List Event) (c : Bool) (b b' : Begun w a x p) → Parts l b → Parts l b' → Parts l (cond c b b')
either_parts l true b b' e f = e
either_parts l false b b' e f = f

pub begun_parts : {w : Buffers} {a : Observed} {x : Buffers} {p : Observed} (h : History w a x p) → Parts (events_in h) (begun_in h)
unfolding begun_in events_in
begun_parts none = tt
begun_parts (call {left = u} {after = v} {seen = o} h (Write d) r m) =
    either_parts _ (asks r) (since h d r m none) _ refl (either_parts _ (is_waiting o) _ nothing (call_parts (events_in h) (begun_in h) (begun_parts h) (Write d) r m) tt)
begun_parts (call {left = u} {after = v} {seen = o} h (Read q) r m) = either_parts _ (is_waiting o) _ nothing (call_parts (events_in h) (begun_in h) (begun_parts h) (Read q) r m) tt
begun_parts (call h (Answer g) r m) = call_parts (events_in h) (begun_in h) (begun_parts h) (Answer g) r m
begun_parts (call_with_other_lengths {left = u} {lent = x} {after = y} {seen = o} h (Write d) r m s) = either_parts _ (is_waiting o) _ nothing (other_lengths_parts (events_in h) (begun_in h) (begun_parts h) (Write d) r m s) tt
begun_parts (call_with_other_lengths {left = u} {lent = x} {after = y} {seen = o} h (Read q) r m s) = either_parts _ (is_waiting o) _ nothing (other_lengths_parts (events_in h) (begun_in h) (begun_parts h) (Read q) r m s) tt
begun_parts (call_with_other_lengths h (Answer g) r m s) = other_lengths_parts (events_in h) (begun_in h) (begun_parts h) (Answer g) r m s
begun_parts (refused_build {left = u} {lent = x} {after = y} {seen = o} h ram i t k r m f) = either_parts _ (is_waiting o) _ nothing (build_parts (events_in h) (begun_in h) (begun_parts h) ram i t k r m f) tt

-- the one of eight pages of RAM, where page 3 is shared
pub share8_begun : begun_in {before = unseen} (call none sharing8 asking8.reply share8) ≡ since none (Visibility 0 1 (page 3 [])) asking8.reply share8 none
unfolding begun_in
share8_begun = ap (λ (b : Bool). cond b (since none (Visibility 0 1 (page 3 [])) asking8.reply share8 none) nothing) share8_asks
